-- The arms of `read`, `change` and `leaves` that serve many registers, and the order of the tests in `csrs_well_made`.
use mathlib.Core.Bool.{Bool, true, ◌&&◌, and-true, and_assoc}
use mathlib.Core.List.{List, [], ◌∷◌}
use mathlib.Core.Path.{◌≡◌, refl, sym, ap, ◌∙◌}
use Prim.Native.Nat.{ℕ, ◌<◌}
use native.Mathlib.Omega.{arith}
use lib.Bits.{bit_and, and_zero_r}
use lib.ListN.{get_or, set}
use lib.Dec.{eqb, ltb}
use borrow.Author.Tests.{ltb-true}
use Rattle.layout.specs.declared.xlen.Xlen.{Xlen}
use Rattle.layout.specs.declared.xlen.Xlen.TheVariants.{X32, X64}
use Rattle.csr.specs.Csrs.{Csr, Hstatus, Hgatp, Vsstatus, Vstvec, Vsatp, at_turn}
use Rattle.csr.proofs.Table.{NoneOf, same-below, same-but}
use Rattle.hart.specs.declared.record.Hart.{Hart}
use Rattle.hart.specs.Legal.{legal_hstatus, legal_hgatp, legal_vsstatus, legal_vstvec, legal_vsatp}
use Rattle.hart.specs.Record.{with_csrs}
use Rattle.hart.specs.Stored.{stored_count, place_of, held}
use Rattle.hart.specs.Registers.{reading, mask_of, written}
use Rattle.hart.specs.WellMade.{leaves, each_left}

-- the turns with an arm of their own in `read`, the last arm first: hgeip, vsie, henvcfgh, hip and vsip
abbrev pub read_arms : List ℕ
read_arms = 8 ∷ 6 ∷ 14 ∷ 7 ∷ 1 ∷ []

-- every other register reads what is stored at its place
pub read-stored : (csrs : List ℕ) (lines t : ℕ) → NoneOf read_arms t → held (at_turn t) csrs ≡ reading (at_turn t) csrs lines
read-stored csrs lines = same-but read_arms (λ c. held c csrs) (λ c. reading c csrs lines) refl refl

-- every other register has a place
pub read-place : (t : ℕ) → NoneOf read_arms t → place_of (at_turn t) < stored_count
read-place t n = ltb-true _ _ (same-but read_arms (λ c. ltb (place_of c) stored_count) (λ c. true) refl refl t n)

-- the turns below vsatp's with an arm of their own in `change`, the last arm first, and vsatp's: the registers that have another rule than a mask
abbrev other_rules : List ℕ
other_rules = 24 ∷ 19 ∷ 18 ∷ 17 ∷ 14 ∷ 8 ∷ 7 ∷ 6 ∷ 1 ∷ 0 ∷ []

module _ (t : ℕ) (below : t < 24) (none : NoneOf (19 ∷ 18 ∷ 17 ∷ 14 ∷ 8 ∷ 7 ∷ 6 ∷ 1 ∷ 0 ∷ []) t) where
  -- a write of every other register stores the bits of its mask at its place
  pub write-masked : (x : Xlen) (v : ℕ) (csrs : List ℕ) → set csrs (place_of (at_turn t)) (bit_and v (mask_of x (at_turn t))) ≡ written x (at_turn t) v csrs
  write-masked x v csrs =
      same-below other_rules (λ c. set csrs (place_of c) (bit_and v (mask_of x c))) (λ c. written x c v csrs) refl t (omega arith) (none, λ e. omega arith)

  -- every other register has a place
  pub masked-place : place_of (at_turn t) < stored_count
  masked-place = ltb-true _ _ (same-below other_rules (λ c. ltb (place_of c) stored_count) (λ c. true) refl t (omega arith) (none, λ e. omega arith))

-- what the record that a write gives back holds at a place, put there, is the whole write, if it is so of the stored registers
pub put_back : (h : Hart) {g : Hart} {l : List ℕ} {p x q : ℕ} → set h.csrs q (get_or l q 0) ≡ l → q < stored_count → g ≡ with_csrs h l
    → (p ≡ q) × (x ≡ get_or g.csrs q 0) → (p < stored_count) × (with_csrs h (set h.csrs p x) ≡ with_csrs h l)
put_back h e inside eg at = (rw at.0 inside, rw (at.0, at.1, eg) (ap (with_csrs h) e))

-- the registers that have an arm of their own in `leaves`: the old content of a fresh hart gives way to 0
pub leaves-hstatus : (x : Xlen) (v : ℕ) → leaves x Hstatus v ≡ eqb (legal_hstatus x 0 v) v
unfolding leaves
leaves-hstatus X32 v = refl
leaves-hstatus X64 v = refl

pub leaves-hgatp : (x : Xlen) (v : ℕ) → leaves x Hgatp v ≡ eqb (legal_hgatp x 0 v) v
unfolding leaves
leaves-hgatp X32 v = refl
leaves-hgatp X64 v = refl

pub leaves-vsstatus : (x : Xlen) (v : ℕ) → leaves x Vsstatus v ≡ eqb (legal_vsstatus x v) v
unfolding leaves
leaves-vsstatus X32 v = refl
leaves-vsstatus X64 v = refl

pub leaves-vstvec : (x : Xlen) (v : ℕ) → leaves x Vstvec v ≡ eqb (legal_vstvec x 0 v) v
unfolding leaves
leaves-vstvec X32 v = refl
leaves-vstvec X64 v = refl

pub leaves-vsatp : (x : Xlen) (v : ℕ) → leaves x Vsatp v ≡ eqb (legal_vsatp x 0 v) v
unfolding leaves
leaves-vsatp X32 v = refl
leaves-vsatp X64 v = refl

-- the registers up to vstval that have no arm of their own in `leaves` are tested by their mask, and those that are not stored hold 0
pub leaves-masked : (x : Xlen) (v t : ℕ) → t < 24 → NoneOf (19 ∷ 18 ∷ 17 ∷ 0 ∷ []) t → eqb (bit_and v (mask_of x (at_turn t))) v ≡ leaves x (at_turn t) v
unfolding leaves
leaves-masked X32 v t below none =
    same-below (24 ∷ 19 ∷ 18 ∷ 17 ∷ 0 ∷ []) (λ c. eqb (bit_and v (mask_of X32 c)) v) (λ c. leaves X32 c v) (simp and_zero_r) t (omega arith) (none, λ e. omega arith)
leaves-masked X64 v t below none =
    same-below (24 ∷ 19 ∷ 18 ∷ 17 ∷ 0 ∷ []) (λ c. eqb (bit_and v (mask_of X64 c)) v) (λ c. leaves X64 c v) (simp and_zero_r) t (omega arith) (none, λ e. omega arith)

-- b, and each register of the list holds something legal: the tests in the order of the code's `&`
abbrev pub left_and : Xlen → Bool → List Csr → List ℕ → Bool
left_and x b [] csrs = b
left_and x b (c ∷ cs) csrs = left_and x (b && leaves x c (held c csrs)) cs csrs

pub left_and-is : (x : Xlen) (b : Bool) (cs : List Csr) (csrs : List ℕ) → left_and x b cs csrs ≡ b && each_left x cs csrs
left_and-is x b [] csrs = sym (and-true b)
left_and-is x b (c ∷ cs) csrs = left_and-is x (b && leaves x c (held c csrs)) cs csrs ∙ and_assoc b (leaves x c (held c csrs)) (each_left x cs csrs)
