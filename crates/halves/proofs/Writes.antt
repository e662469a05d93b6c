-- The registers that requests write: the width has them, and on a page that had no dirty register they are the dirty ones.
use Rattle.std.specs.Prelude.{Option, Some, None}
use mathlib.Core.Path.{◌≡◌, refl, ap, ◌∙◌}
use mathlib.Core.Bool.{Bool, true, false, cond, ◌||◌, false≢true}
use mathlib.Core.List.{List, [], ◌∷◌}
use mathlib.Core.Logic.{⊎_elim}
use Prim.Native.Nat.{ℕ}
use borrow.Author.Tests.{eqb-true}
use Rattle.layout.specs.declared.xlen.Xlen.{Xlen}
use Rattle.csr.specs.Csrs.{Csr, at_turn, has, lookup, turn_of}
use Rattle.csr.proofs.Turns.{at_turn-turn_of, lookup-had}
use Rattle.hart.specs.declared.record.Hart.{Hart}
use Rattle.hart.specs.Registers.{write}
use Rattle.page.specs.Registers.{is_dirty, csr_word}
use Rattle.turns.proofs.Closed as Closed
use Rattle.turns.proofs.Truth.{either}
use Rattle.hypervisor.specs.Requests.{Request, Register, Hfence, Context}
use Rattle.halves.specs.Both.{is_found_as, writes, is_written, last_value, writes_made}
use Rattle.halves.proofs.Requested.{Requested}

-- a register that is to be written is one that the width has
module _ (x : Xlen) (c : Csr) where
  found-had : (n : ℕ) (f : Option ℕ) → lookup x n ≡ f → is_found_as c f ≡ true → has x c ≡ true
  found-had n (Some t) e s = rw (ap at_turn (eqb-true t (turn_of c) s) ∙ at_turn-turn_of c) at (lookup-had x n t e)
  found-had n None e s = absurd (false≢true s)

  writes-had : (r : Request) → writes x c r ≡ true → has x c ≡ true
  writes-had (Register n v) t = found-had n (lookup x n) refl t
  writes-had (Hfence a) t = absurd (false≢true t)
  writes-had (Context vs) t = absurd (false≢true t)

  pub written-had : (rs : List Request) → is_written x c rs ≡ true → has x c ≡ true
  written-had [] t = absurd (false≢true t)
  written-had (r ∷ rs) t = ⊎_elim (writes-had r) (λ n. written-had rs (rw n at t)) (either (writes x c r))

-- on a page with no mark before the requests, the writes of the dirty registers are the writes asked for
module _ (x : Xlen) (rs : List Request) (p q : List ℕ) (Q : Requested x rs p q) (clean : (c : Csr) → is_dirty p c ≡ false) where
  pub only-written : (c : Csr) → is_dirty q c ≡ is_written x c rs
  only-written c = Q.dirty c ∙ rw (clean c) (go (is_written x c rs))
    where
      go : (b : Bool) → (b || false) ≡ b
      go true = refl
      go false = refl

  one-write : (c : Csr) (h : Hart) → cond (is_dirty q c) (write c (csr_word x q c) h) h ≡ cond (is_written x c rs) (write c (last_value x c rs) h) h
  one-write c h = rw (only-written c, Q.word c) (go (is_written x c rs))
    where
      go : (b : Bool) → cond b (write c (cond b (last_value x c rs) (csr_word x p c)) h) h ≡ cond b (write c (last_value x c rs) h) h
      go true = refl
      go false = refl

  pub writes-made : (cs : List Csr) (h : Hart) → Closed.writes x cs q h ≡ writes_made x rs cs h
  unfolding Closed.writes writes_made
  writes-made [] h = refl
  writes-made (c ∷ cs) h = ap (Closed.writes x cs q) (one-write c h) ∙ writes-made cs (cond (is_written x c rs) (write c (last_value x c rs) h) h)
