-- Runs that are allowed some number of steps, put together.
use mathlib.Core.Path.{◌≡◌, refl, sym, ap, ◌∙◌}
use mathlib.Core.Bool.{Bool, true, false}
use mathlib.Core.List.{List, [], ◌∷◌, ◌++◌, append_assoc}
use mathlib.Core.Logic.{⊎_elim}
use Prim.Native.Nat.{ℕ, ◌+◌, ◌-◌, ◌<◌, ◌≤◌}
use native.Mathlib.Omega.{arith}
use borrow.Author.Tests.{ltb-true, ltb-false, lt-ltb, le-ltb}
use lib.Dec.{ltb}
use lib.ListN.{length, take, length-append}
use lib.Seq.{take_all, take-append-le, take-append-add}
use Rattle.layout.specs.declared.xlen.Xlen.{Xlen}
use Rattle.world.specs.State.{State}
use Rattle.turns.specs.Marks.{Mark}
use Rattle.turns.specs.Turn.{turn, turns}
use Rattle.turns.specs.Steps.{Step, run, turn_steps, steps, Made}
use Rattle.turns.proofs.Truth.{either}
use Rattle.turns.proofs.Along.{run-append}

-- enough steps were allowed: all are made
pub whole : (xlen : Xlen) {xs : List Step} {s s' : State} {n l : ℕ} {b : Bool} → length xs ≤ n → s' ≡ run xlen xs s → l ≡ n - length xs → b ≡ false
    → Made xlen xs s n s' l b
whole xlen {xs} {s} {s'} {n} {l} {b} le e f o =
    record { state = e ∙ ap (λ (ys : List Step). run xlen ys s) (sym (take_all n xs le)); left_is = f; over-is = o ∙ sym (le-ltb n (length xs) le) }

-- too few were allowed: those are made
pub cut : (xlen : Xlen) {xs : List Step} {s s' : State} {n l : ℕ} {b : Bool} → n < length xs → s' ≡ run xlen (take n xs) s → l ≡ 0 → b ≡ true
    → Made xlen xs s n s' l b
cut xlen {xs} {s} {s'} {n} {l} {b} lt e f o = record { state = e; left_is = omega arith; over-is = o ∙ sym (lt-ltb n (length xs) lt) }

-- no step to make
pub none : (xlen : Xlen) (s : State) (n : ℕ) → Made xlen [] s n s n false
unfolding run
none xlen s n = whole xlen (omega arith) refl (omega arith) refl

-- no step allowed
pub stop : (xlen : Xlen) (x : Step) (xs : List Step) (s : State) {n : ℕ} → n ≡ 0 → Made xlen (x ∷ xs) s n s 0 true
unfolding run
stop xlen x xs s {n} z = cut xlen (omega arith) (rw z) refl refl

-- the same steps in other words
pub same-steps : (xlen : Xlen) {xs ys : List Step} {s s' : State} {n l : ℕ} {b : Bool} → xs ≡ ys → Made xlen xs s n s' l b → Made xlen ys s n s' l b
same-steps xlen e a = rw e at a

module _ (xlen : Xlen) {xs : List Step} {s s' : State} {n l : ℕ} {b : Bool} (a : Made xlen xs s n s' l b) where
  -- where no step was left, enough were allowed
  pub enough-allowed : b ≡ false → length xs ≤ n
  enough-allowed o = ltb-false n (length xs) (sym a.over-is ∙ o)

  -- and the state is that after all
  pub all_made : b ≡ false → s' ≡ run xlen xs s
  all_made o = a.state ∙ ap (λ (ys : List Step). run xlen ys s) (take_all n xs (enough-allowed o))

  -- where a step was left, too few were allowed
  pub too_few : b ≡ true → n < length xs
  too_few o = ltb-true n (length xs) (sym a.over-is ∙ o)

  -- a run that stopped stops before further steps too
  pub halt : (ys : List Step) → b ≡ true → Made xlen (xs ++ ys) s n s' l b
  halt ys o =
      let lt : n < length xs = too_few o in
      record {
        state = a.state ∙ ap (λ (zs : List Step). run xlen zs s) (sym (take-append-le n xs ys (omega arith)));
        left_is = omega (arith, a.left_is, length-append xs ys);
        over-is = o ∙ sym (lt-ltb n (length (xs ++ ys)) (omega (arith, length-append xs ys)));
      }

  -- a run that did not stop, and a run of further steps from what it leaves
  pub join : {ys : List Step} {s'' : State} {l' : ℕ} {b' : Bool} → b ≡ false → Made xlen ys s' l s'' l' b' → Made xlen (xs ++ ys) s n s'' l' b'
  join {ys} {s''} {l'} {b'} o a' =
      record { state = state-is; left_is = omega (arith, a.left_is, a'.left_is, length-append xs ys, enough-allowed o); over-is = a'.over-is ∙ test }
    where
      le : length xs ≤ n
      le = enough-allowed o

      again : take n (xs ++ ys) ≡ xs ++ take l ys
      again = ap (λ (k : ℕ). take k (xs ++ ys)) (let e : n ≡ length xs + l = omega (arith, a.left_is, le) in e) ∙ take-append-add xs ys l

      state-is : s'' ≡ run xlen (take n (xs ++ ys)) s
      state-is =
          a'.state ∙ ap (run xlen (take l ys)) (all_made o) ∙ sym (run-append xlen xs (take l ys) s) ∙ ap (λ (zs : List Step). run xlen zs s) (sym again)

      test : ltb l (length ys) ≡ ltb n (length (xs ++ ys))
      test =
          ⊎_elim
          (λ t. t ∙ sym (lt-ltb n (length (xs ++ ys)) (omega (arith, a.left_is, le, length-append xs ys, ltb-true l (length ys) t))))
          (λ f. f ∙ sym (le-ltb n (length (xs ++ ys)) (omega (arith, a.left_is, le, length-append xs ys, ltb-false l (length ys) f))))
          (either (ltb l (length ys)))

-- the turns of some marks, and then of others
pub turns-append : (xlen : Xlen) (ms ks : List Mark) (s : State) → turns xlen (ms ++ ks) s ≡ turns xlen ks (turns xlen ms s)
unfolding turns
turns-append xlen [] ks s = refl
turns-append xlen (m ∷ ms) ks s = turns-append xlen ms ks (turn xlen m s)

-- their steps
pub steps-append : (xlen : Xlen) (ms ks : List Mark) (s : State) → steps xlen (ms ++ ks) s ≡ steps xlen ms s ++ steps xlen ks (turns xlen ms s)
unfolding steps turns
steps-append xlen [] ks s = refl
steps-append xlen (m ∷ ms) ks s =
    rw (steps-append xlen ms ks (turn xlen m s)) (sym (append_assoc (turn_steps xlen m s) (steps xlen ms (turn xlen m s)) (steps xlen ks (turns xlen ms (turn xlen m s)))))
