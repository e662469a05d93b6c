-- A loop that gives marks their turns, one after the other.
use mathlib.Core.Path.{◌≡◌, sym, ap, ◌∙◌}
use mathlib.Core.Bool.{Bool, true, false}
use mathlib.Core.List.{List, [], ◌∷◌, ◌++◌, append_assoc, append-nil}
use Prim.Native.Nat.{ℕ, zero, suc, ◌+◌, ◌-◌, ◌≤◌}
use native.Mathlib.Nat.{zero-add, add-zero, suc-add}
use native.Mathlib.Omega.{arith}
use Rattle.layout.specs.declared.xlen.Xlen.{Xlen}
use Rattle.page.specs.Registers.{IsPage}
use Rattle.world.specs.State.{State}
use Rattle.turns.specs.Marks.{Mark}
use Rattle.turns.specs.Steps.{turn_steps, steps, Made}
use Rattle.turns.proofs.Turns.{made-turn, made-halt}
use Rattle.sync.specs.Turns.{marks_from}

-- marks, and then further marks
pub marks-more : (f : ℕ → List Mark) (k m n : ℕ) → marks_from f k (m + n) ≡ marks_from f k m ++ marks_from f (k + m) n
marks-more f k zero n = rw (zero-add, add-zero)
marks-more f k (suc m) n =
    let e : k + 1 + m ≡ k + suc m = omega arith in
    rw (suc-add, ← e) (ap (λ (ms : List Mark). f k ++ ms) (marks-more f (k + 1) m n) ∙ sym (append_assoc (f k) (marks_from f (k + 1) m) (marks_from f (k + 1 + m) n)))

-- the marks of one number more
pub marks-one : (f : ℕ → List Mark) (k i : ℕ) {ms : List Mark} → f (k + i) ≡ ms → marks_from f k (i + 1) ≡ marks_from f k i ++ ms
marks-one f k i e = marks-more f k i 1 ∙ ap (λ (ms : List Mark). marks_from f k i ++ ms) (append-nil (f (k + i)) ∙ e)

module _ (x : Xlen) (f : ℕ → List Mark) (k i : ℕ) {s s' : State} {n l : ℕ} {b : Bool} (a : Made x (steps x (marks_from f k i) s) s n s' l b) where
  -- turns that did not stop, and the turn of a number with one mark
  pub one_more : (m : Mark) → f (k + i) ≡ m ∷ [] → IsPage x s.page → b ≡ false → {s'' : State} {l' : ℕ} {b' : Bool} → Made x (turn_steps x m s') s' l s'' l' b'
      → Made x (steps x (marks_from f k (i + 1)) s) s n s'' l' b'
  one_more m e g o t = rw (marks-one f k i e) (made-turn x (marks_from f k i) a m g o t)

  -- a number without a mark has no turn
  pub none_more : f (k + i) ≡ [] → Made x (steps x (marks_from f k (i + 1)) s) s n s' l b
  none_more e = rw (marks-one f k i e ∙ append-nil (marks_from f k i)) a

  -- turns that stopped, before further ones
  pub no_more : (c : ℕ) → i ≤ c → b ≡ true → Made x (steps x (marks_from f k c) s) s n s' l b
  no_more c le o =
      let e : i + (c - i) ≡ c = omega arith in
      rw (← e, marks-more f k i (c - i)) (made-halt x (marks_from f k i) a (marks_from f (k + i) (c - i)) o)

  -- all turns
  pub at-end : (c : ℕ) → c ≡ i → Made x (steps x (marks_from f k c) s) s n s' l b
  at-end c e = rw e a

-- no turn yet
pub at-start : (x : Xlen) (f : ℕ → List Mark) (k : ℕ) (s : State) (n : ℕ) → Made x (steps x (marks_from f k 0) s) s n s n false
at-start x f k s n = Rattle.turns.proofs.Turns.made_none x s n
