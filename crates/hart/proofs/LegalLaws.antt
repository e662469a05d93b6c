-- What a register with a rule of its own takes: it fits a word, a second write of the value changes nothing, and it is legal where the old content was.
use mathlib.Core.Bool.{Bool, true, false, cond}
use mathlib.Core.Path.{◌≡◌, refl, sym, ap, ap₂, subst, ◌∙◌}
use Prim.Native.Nat.{ℕ, ◌+◌, ◌-◌, ◌*◌, ◌^◌, ◌≤◌, ◌<◌}
use native.Mathlib.Nat.{lt_of_le_of_lt, add-le-add, mul-le-mul_right, mul-one}
use native.Mathlib.Omega.{arith}
use lib.Dec.{eqb, lit<, lit≤}
use lib.Pow.{le_ones}
use lib.Bits.{bit_and, and_le_r}
use Rattle.layout.specs.declared.xlen.Xlen.{Xlen}
use Rattle.layout.specs.declared.xlen.Xlen.TheVariants.{X32, X64}
use Rattle.layout.specs.Width.{bits}
use Rattle.layout.specs.Bits.{span, field}
use Rattle.hart.specs.Legal.{vgein_of, atp_mode, xl_bits, top_bit, legal_vsstatus}
use Rattle.hart.proofs.Tests.{cond-all}
use Rattle.hart.proofs.BitLaws.{and-twice, field_lt, field-masked, field-kept, put-field, put-below, put-above, put-and}

-- ---- a choice

-- the same choice made twice
cond-cond : (b : Bool) (x y : ℕ) → cond b x (cond b x y) ≡ cond b x y
cond-cond true x y = refl
cond-cond false x y = refl

-- x if it passes the test, else y, passes it if y does
cond-passes : (t : ℕ → Bool) (x y : ℕ) → t y ≡ true → t (cond (t x) x y) ≡ true
cond-passes t x y p = go (t x) refl
  where
    go : (b : Bool) → t x ≡ b → t (cond b x y) ≡ true
    go true e = e
    go false e = p

-- ---- one field that is taken if it is legal, else kept

-- g v y is what the register, of w bits, holds with y in its field F, of n bits, and the rest made of v
pub record Keeps (w n : ℕ) (F : ℕ → ℕ) (g : ℕ → ℕ → ℕ) : Type 0 where
  pub narrow : (x : ℕ) → F x < 2 ^ n
  pub holds : (v y : ℕ) → y < 2 ^ n → F (g v y) ≡ y
  pub over : (v y z : ℕ) → y < 2 ^ n → g (g v y) z ≡ g v z
  pub bound : (v y : ℕ) → y < 2 ^ n → g v y < 2 ^ w

-- the register with t as the test of its field: what it takes of v over `old` is `g v` of the field taken
module _ {w n : ℕ} {F : ℕ → ℕ} {g : ℕ → ℕ → ℕ} (K : Keeps w n F g) (t : ℕ → Bool) where
  -- either field is narrow
  taken-lt : (b : Bool) (old v : ℕ) → cond b (F v) (F old) < 2 ^ n
  taken-lt b old v = cond-all (λ (y : ℕ). y < 2 ^ n) b (K.narrow v) (K.narrow old)

  -- it fits a word
  pub keeps-lt : (old v : ℕ) → g v (cond (t (F v)) (F v) (F old)) < 2 ^ w
  keeps-lt old v = K.bound v _ (taken-lt (t (F v)) old v)

  -- taken over what it has just taken, it is the same
  pub keeps-twice : (old v : ℕ) → g v (cond (t (F v)) (F v) (F (g v (cond (t (F v)) (F v) (F old))))) ≡ g v (cond (t (F v)) (F v) (F old))
  keeps-twice old v =
      ap (λ (y : ℕ). g v (cond (t (F v)) (F v) y)) (K.holds v _ (taken-lt (t (F v)) old v)) ∙ ap (g v) (cond-cond (t (F v)) (F v) (F old))

  -- `fresh` is what a fresh hart holds: x is legal if a write of x leaves x there
  module _ (fresh : ℕ) (starts : t (F fresh) ≡ true) where
    -- the field of what is legal passes the test
    passes : (x : ℕ) → g x (cond (t (F x)) (F x) (F fresh)) ≡ x → t (F x) ≡ true
    passes x e = ap (λ (y : ℕ). t (F y)) (sym e) ∙ ap t (K.holds x _ (taken-lt (t (F x)) fresh x)) ∙ cond-passes t (F x) (F fresh) starts

    -- what it takes is legal if the old content was
    pub keeps-legal : (old v : ℕ) → g old (cond (t (F old)) (F old) (F fresh)) ≡ old
        → let x : ℕ = g v (cond (t (F v)) (F v) (F old)) in g x (cond (t (F x)) (F x) (F fresh)) ≡ x
    keeps-legal old v e =
        let y : ℕ = cond (t (F v)) (F v) (F old) in
        let held : F (g v y) ≡ y = K.holds v y (taken-lt (t (F v)) old v) in
        let ok : t (F (g v y)) ≡ true = ap t held ∙ cond-passes t (F v) (F old) (passes old e) in
        ap (λ (b : Bool). g (g v y) (cond b (F (g v y)) (F fresh))) ok ∙ ap (g (g v y)) held ∙ K.over v y y (taken-lt (t (F v)) old v)

-- ---- the four registers with such a field

-- bits of a mask, and the field from bit lo up
plain : (w m lo n : ℕ) → field m lo n ≡ 0 → m + (2 ^ n - 1) * 2 ^ lo < 2 ^ w → Keeps w n (λ x. field x lo n) (λ v y. bit_and v m + y * 2 ^ lo)
plain w m lo n e b =
    record {
      narrow = λ x. field_lt x lo n;
      holds = λ v y h. put-field (bit_and v m) lo n y (field-masked v m lo n e) h;
      over = λ v y z h. ap (λ (x : ℕ). x + z * 2 ^ lo) (put-and (bit_and v m) lo n y (field-masked v m lo n e) h m e ∙ and-twice v m);
      bound = λ v y h. lt_of_le_of_lt (add-le-add (and_le_r v m) (mul-le-mul_right (2 ^ lo) (le_ones n h))) b;
    }

-- MODE, over VMID and PPN, at XLEN 64
pub hgatp-keeps : Keeps 64 4 atp_mode (λ v y. bit_and v (span 57 44 + span 43 2) + y * 2 ^ 60)
hgatp-keeps = plain 64 (span 57 44 + span 43 2) 60 4 refl (lit< tt)

-- MODE, over bits 59:0, at XLEN 64
pub vsatp-keeps : Keeps 64 4 atp_mode (λ v y. bit_and v (span 59 0) + y * 2 ^ 60)
vsatp-keeps = plain 64 (span 59 0) 60 4 refl (lit< tt)

-- the mode, under the bits from 2 up
pub vstvec-keeps : (x : Xlen) → Keeps (bits x) 2 (λ y. field y 0 2) (λ v y. bit_and v (span (top_bit x) 2) + y)
vstvec-keeps x = subst (Keeps (bits x) 2 (λ y. field y 0 2)) (λ i v y. bit_and v (span (top_bit x) 2) + mul-one y i) (go x)
  where
    go : (x : Xlen) → Keeps (bits x) 2 (λ y. field y 0 2) (λ v y. bit_and v (span (top_bit x) 2) + y * 2 ^ 0)
    go X32 = plain 32 (span 31 2) 0 2 refl (lit< tt)
    go X64 = plain 64 (span 63 2) 0 2 refl (lit< tt)

-- two fields, one above the other, added to what a mask takes of v
module _ (v m lo n f lo' n' f' : ℕ) (e : field m lo n ≡ 0) (e' : field m lo' n' ≡ 0) (order : lo + n ≤ lo') (fits : f < 2 ^ n) (fits' : f' < 2 ^ n') where
  -- the upper place is still empty with the lower one filled
  empty' : field (bit_and v m + f * 2 ^ lo) lo' n' ≡ 0
  empty' = put-above (bit_and v m) lo n f (field-masked v m lo n e) fits lo' n' order ∙ field-masked v m lo' n' e'

  -- the lower place holds f
  two-lower : field (bit_and v m + f * 2 ^ lo + f' * 2 ^ lo') lo n ≡ f
  two-lower = put-below (bit_and v m + f * 2 ^ lo) lo' n' f' empty' fits' lo n order ∙ put-field (bit_and v m) lo n f (field-masked v m lo n e) fits

  -- a field below both stays
  two-below : (k j : ℕ) → k + j ≤ lo → field (bit_and v m + f * 2 ^ lo + f' * 2 ^ lo') k j ≡ field (bit_and v m) k j
  two-below k j h =
      put-below (bit_and v m + f * 2 ^ lo) lo' n' f' empty' fits' k j (omega arith) ∙ put-below (bit_and v m) lo n f (field-masked v m lo n e) fits k j h

  -- the mask sees neither
  two-and : bit_and (bit_and v m + f * 2 ^ lo + f' * 2 ^ lo') m ≡ bit_and v m
  two-and = put-and (bit_and v m + f * 2 ^ lo) lo' n' f' empty' fits' m e' ∙ put-and (bit_and v m) lo n f (field-masked v m lo n e) fits m e ∙ and-twice v m

-- VGEIN under two bits that are fixed
under : (w f : ℕ) → f < 2 ^ 2 → ((v y : ℕ) → y < 2 ^ 6 → bit_and v 0x7003C0 + y * 2 ^ 12 + f * 2 ^ 32 < 2 ^ w)
    → Keeps w 6 vgein_of (λ v y. bit_and v 0x7003C0 + y * 2 ^ 12 + f * 2 ^ 32)
under w f small bound =
    record {
      narrow = λ x. field_lt x 12 6;
      holds = λ v y h. two-lower v 0x7003C0 12 6 y 32 2 f refl refl (lit≤ tt) h small;
      over = λ v y z h. ap (λ (x : ℕ). x + z * 2 ^ 12 + f * 2 ^ 32) (two-and v 0x7003C0 12 6 y 32 2 f refl refl (lit≤ tt) h small);
      bound = bound;
    }

-- VGEIN, with VSXL fixed above it, or nothing there
pub hstatus-keeps : (x : Xlen) → Keeps (bits x) 6 vgein_of (λ v y. bit_and v 0x7003C0 + y * 2 ^ 12 + xl_bits x)
hstatus-keeps X32 = under 32 0 (lit< tt) (λ v y h. omega (arith, and_le_r v 0x7003C0))
hstatus-keeps X64 = under 64 2 (lit< tt) (λ v y h. omega (arith, and_le_r v 0x7003C0))

-- ---- vsstatus

-- SD, the highest bit, as a number
abbrev sd : ℕ → ℕ
sd v = cond (eqb (field v 13 2) 3) 1 0

-- one bit
sd-lt : (v : ℕ) → sd v < 2 ^ 1
sd-lt v = cond-all (λ (y : ℕ). y < 2 ^ 1) (eqb (field v 13 2) 3) (lit< tt) (lit< tt)

-- what vsstatus takes fits a word
pub vsstatus-lt : (x : Xlen) (v : ℕ) → legal_vsstatus x v < 2 ^ bits x
vsstatus-lt X32 v = omega (arith, and_le_r v 0xC6122, sd-lt v)
vsstatus-lt X64 v = omega (arith, and_le_r v 0xC6122, sd-lt v)

-- what vsstatus takes, it takes whole
pub vsstatus-twice : (x : Xlen) (v : ℕ) → legal_vsstatus x (legal_vsstatus x v) ≡ legal_vsstatus x v
vsstatus-twice X32 v =
    ap₂ (λ (a fs : ℕ). a + 0 * 2 ^ 28 + cond (eqb fs 3) 1 0 * 2 ^ 31)
    (two-and v 0xC6122 28 2 0 31 1 (sd v) refl refl (lit≤ tt) (lit< tt) (sd-lt v))
    (two-below v 0xC6122 28 2 0 31 1 (sd v) refl refl (lit≤ tt) (lit< tt) (sd-lt v) 13 2 (lit≤ tt) ∙ field-kept v 0xC6122 13 2 refl)
vsstatus-twice X64 v =
    ap₂ (λ (a fs : ℕ). a + 2 * 2 ^ 32 + cond (eqb fs 3) 1 0 * 2 ^ 63)
    (two-and v 0xC6122 32 2 2 63 1 (sd v) refl refl (lit≤ tt) (lit< tt) (sd-lt v))
    (two-below v 0xC6122 32 2 2 63 1 (sd v) refl refl (lit≤ tt) (lit< tt) (sd-lt v) 13 2 (lit≤ tt) ∙ field-kept v 0xC6122 13 2 refl)
