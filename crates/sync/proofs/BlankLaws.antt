-- The readings of the registers that the width has, stored turn by turn.
use mathlib.Core.Bool.{true, false, cond}
use mathlib.Core.List.{List, [], ◌∷◌, ◌++◌}
use mathlib.Core.Path.{◌≡◌, refl, sym, ap, ap₂, ◌∙◌}
use Prim.Native.Nat.{ℕ, zero, suc, ◌+◌, ◌≤◌, ◌<◌}
use native.Mathlib.Nat.{le_of_suc-le-suc, not-suc-le-zero}
use native.Mathlib.Omega.{arith}
use lib.ListN.{length, drop}
use Rattle.layout.specs.declared.xlen.Xlen.{Xlen}
use Rattle.csr.specs.Csrs.{Csr, csr_count, every_csr, nth, at_turn, has, those, turn_order}
use Rattle.hart.specs.declared.record.Hart.{Hart}
use Rattle.hart.specs.Registers.{reading, read}
use Rattle.page.specs.Registers.{IsPage, put_csr}
use Rattle.page.proofs.RegisterLaws.{page-put}
use Rattle.turns.specs.Blank.{put_all}

-- what is left of a list from place t on
drop_nth : (cs : List Csr) (t : ℕ) → t < length cs → drop t cs ≡ nth cs t ∷ drop (suc t) cs
drop_nth [] t h = absurd (not-suc-le-zero h)
drop_nth (c ∷ cs) zero h = refl
drop_nth (c ∷ cs) (suc t) h = drop_nth cs t (le_of_suc-le-suc h)

-- the turns before t are stored: the others make of the page what all make of the first one
pub record Storing (h : Hart) (first page : List ℕ) (t : ℕ) : Type 0 where
  pub within : t ≤ csr_count
  pub size : IsPage h.xlen page
  pub rest : put_all h.xlen (those h.xlen (drop t every_csr)) h page ≡ put_all h.xlen (turn_order h.xlen) h first

module _ (h : Hart) (first : List ℕ) where
  -- the start
  pub storing-start : IsPage h.xlen first → Storing h first first 0
  storing-start g = record { within = omega arith; size = g; rest = refl }

  -- what is left at turn t, by its register
  at_turn_lem : (page : List ℕ) (t : ℕ) → t < csr_count → Storing h first page t
      → put_all h.xlen (cond (has h.xlen (at_turn t)) (at_turn t ∷ []) [] ++ those h.xlen (drop (suc t) every_csr)) h page ≡ put_all h.xlen (turn_order h.xlen) h first
  at_turn_lem page t l b = ap (λ cs. put_all h.xlen (those h.xlen cs) h page) (sym (drop_nth every_csr t l)) ∙ b.rest

  -- the reading of a register that the width has is stored
  pub storing-store : (page : List ℕ) (t : ℕ) → t < csr_count → has h.xlen (at_turn t) ≡ true → Storing h first page t
      → Storing h first (put_csr h.xlen (at_turn t) (read (at_turn t) h) page) (t + 1)
  unfolding put_all
  storing-store page t l e b =
      record {
        within = omega arith;
        size = page-put h.xlen (at_turn t) _ page b.size;
        rest = let s : t + 1 ≡ suc t = omega arith in rw s (rw e at (at_turn_lem page t l b));
      }

  -- a turn that the width lacks is passed over
  pub storing-pass : (page : List ℕ) (t : ℕ) → t < csr_count → has h.xlen (at_turn t) ≡ false → Storing h first page t → Storing h first page (t + 1)
  storing-pass page t l e b =
      record { within = omega arith; size = b.size; rest = let s : t + 1 ≡ suc t = omega arith in rw s (rw e at (at_turn_lem page t l b)) }

  -- no turn is left
  pub storing-end : (page : List ℕ) (t : ℕ) → csr_count ≤ t → Storing h first page t → page ≡ put_all h.xlen (turn_order h.xlen) h first
  unfolding put_all
  storing-end page t l b =
      let e : t ≡ csr_count = omega (arith, b.within) in
      rw e at b.rest

-- what is stored goes by the stored registers and the lines alone
pub put_all-same : (x : Xlen) (cs : List Csr) (h k : Hart) (p : List ℕ) → k.csrs ≡ h.csrs → k.lines ≡ h.lines → put_all x cs h p ≡ put_all x cs k p
unfolding put_all
put_all-same x [] h k p e l = refl
put_all-same x (c ∷ cs) h k p e l =
    let same : read c h ≡ read c k = ap₂ (reading c) (sym e) (sym l) in
    rw same (put_all-same x cs h k (put_csr x c (read c k) p) e l)
