-- hstatus with a bit of it cleared or set stays legal: SPV as SRET clears it, and GVA, SPV and SPVP as a trap sets them.
use mathlib.Core.Path.{◌≡◌, refl, sym, ap, ◌∙◌, subst}
use mathlib.Core.Bool.{Bool, true, false, cond}
use mathlib.Core.List.{List, [], ◌∷◌}
use Prim.Native.Nat.{ℕ, ◌+◌, ◌*◌, ◌^◌, ◌<◌, min}
use native.Mathlib.Decide.{ℕ_discrete}
use native.Mathlib.Omega.{arith}
use lib.Bits.{bit_and}
use lib.Dec.{eqb, leb}
use borrow.Author.Tests.{eqb-true, eq-eqb, leb-true}
use Rattle.layout.specs.declared.xlen.Xlen.{Xlen}
use Rattle.layout.specs.declared.xlen.Xlen.TheVariants.{X32, X64}
use Rattle.layout.specs.Bits.{bit_of, clear_bit, set_bit}
use Rattle.layout.proofs.BitLaws.{BitOp, clear-op, set-op, all-bits-ext, bit_le}
use Rattle.csr.specs.Csrs.{Hstatus}
use Rattle.hart.specs.Legal.{vgein_of, xl_bits}
use Rattle.hart.specs.Registers.{written}
use Rattle.hart.specs.Stored.{stored, held, hold, fresh_csrs}
use Rattle.hart.specs.Trap.{with_bit, trap_hstatus}
use Rattle.hart.specs.WellMade.{leaves, each_left}
use Rattle.hart.proofs.BitLaws.{bit, bit-and}
use Rattle.hart.proofs.LegalLaws.{hstatus-keeps}

-- the mask of hstatus's plain bits
abbrev mask : ℕ
mask = 0x7003C0

-- a bit put under a mask that has it is put in front of the mask
op-and : {b : ℕ} {f : ℕ → ℕ → ℕ} → BitOp b f → (x m k : ℕ) → bit_of m k ≡ 1 → f (bit_and x m) k ≡ bit_and (f x k) m
op-and {b} {f} op x m k one = all-bits-ext (f (bit_and x m) k) (bit_and (f x k) m) (λ j. at j (ℕ_discrete j k))
  where
    at : (j : ℕ) → Dec (j ≡ k) → bit_of (f (bit_and x m) k) j ≡ bit_of (bit_and (f x k) m) j
    at j (yes e) = rw e (op.same (bit_and x m) k ∙ sym (bit-and (f x k) m k ∙ omega (arith, op.same x k, bit_le (f x k) k)))
    at j (no n) =
        op.other (bit_and x m) k j n ∙ bit-and x m j ∙ sym (bit-and (f x k) m j ∙ ap (λ (y : ℕ). min y (bit m j)) (op.other x k j n))

-- a bit that takes b is put at it
pub take-op : (b : Bool) → BitOp (cond b 1 0) (λ x k. with_bit x k b)
take-op true =
    record {
      same = λ x k. rw (one x k) (set-op.same x k);
      other = λ x k j n. rw (one x k) (set-op.other x k j n);
      bound = λ n x k h l. rw (one x k) (set-op.bound n x k h l);
    }
  where
    one : (x k : ℕ) → with_bit x k true ≡ set_bit x k
    one x k = omega arith
take-op false =
    record {
      same = λ x k. rw (none x k) (clear-op.same x k);
      other = λ x k j n. rw (none x k) (clear-op.other x k j n);
      bound = λ n x k h l. rw (none x k) (clear-op.bound n x k h l);
    }
  where
    none : (x k : ℕ) → with_bit x k false ≡ clear_bit x k
    none x k = omega arith

-- hstatus with these bits of v, and y for VGEIN
abbrev hstatus_with : Xlen → ℕ → ℕ → ℕ
hstatus_with x v y = bit_and v mask + y * 2 ^ 12 + xl_bits x

-- VGEIN as a fresh hart takes it
abbrev vgein_left : ℕ → ℕ
vgein_left v = cond (leb (vgein_of v) 7) (vgein_of v) 0

-- a write to a fresh hart leaves these
fresh-leaves : (x : Xlen) (v : ℕ) → held Hstatus (written x Hstatus v (fresh_csrs x)) ≡ hstatus_with x v (vgein_left v)
fresh-leaves X32 v = refl
fresh-leaves X64 v = refl

-- VGEIN up to 7 is legal, whatever the bits
with-legal : (x : Xlen) (v y : ℕ) → leb y 7 ≡ true → leaves x Hstatus (hstatus_with x v y) ≡ true
unfolding leaves
with-legal x v y t =
    let narrow : y < 2 ^ 6 = omega (arith, leb-true y 7 t) in
    let kept : vgein_left (hstatus_with x v y) ≡ y =
    ap (λ (z : ℕ). cond (leb z 7) z 0) ((hstatus-keeps x).holds v y narrow) ∙ ap (λ (b : Bool). cond b y 0) t in
    eq-eqb _ (hstatus_with x v y) (fresh-leaves x (hstatus_with x v y) ∙ ap (hstatus_with x (hstatus_with x v y)) kept ∙ (hstatus-keeps x).over v y y narrow)

-- VSXL as a multiple of 2^12
abbrev high : Xlen → ℕ
high X32 = 0
high X64 = 2 ^ 21

-- f changes plain bits below bit 12 alone
record Low (f : ℕ → ℕ) : Type 0 where
  above : (a q : ℕ) → f (a + q * 2 ^ 12) ≡ f a + q * 2 ^ 12
  plain : (u : ℕ) → f (bit_and u mask) ≡ bit_and (f u) mask

-- so it leaves hstatus legal
low-legal : (f : ℕ → ℕ) → Low f → (x : Xlen) (v : ℕ) → leaves x Hstatus v ≡ true → leaves x Hstatus (f v) ≡ true
unfolding leaves
low-legal f l x v t =
    let y = vgein_left v in
    let same : hstatus_with x v y ≡ v = sym (fresh-leaves x v) ∙ eqb-true (held Hstatus (written x Hstatus v (fresh_csrs x))) v t in
    subst (λ (z : ℕ). leaves x Hstatus z ≡ true) (sym (put x v y same)) (with-legal x (f v) y (up-to-7 (vgein_of v)))
  where
    put : (x : Xlen) (v y : ℕ) → hstatus_with x v y ≡ v → f v ≡ hstatus_with x (f v) y
    put x v y e = ap f (sym e ∙ parts x (bit_and v mask)) ∙ l.above (bit_and v mask) (y + high x) ∙ sym (parts x (f (bit_and v mask))) ∙ ap (λ (a : ℕ). a + y * 2 ^ 12 + xl_bits x) (l.plain v)
      where
        parts : (x : Xlen) (a : ℕ) → a + y * 2 ^ 12 + xl_bits x ≡ a + (y + high x) * 2 ^ 12
        parts X32 a = omega arith
        parts X64 a = omega arith

    up-to-7 : (n : ℕ) → leb (cond (leb n 7) n 0) 7 ≡ true
    up-to-7 n = go (leb n 7) refl
      where
        go : (b : Bool) → leb n 7 ≡ b → leb (cond b n 0) 7 ≡ true
        go true e = e
        go false e = refl

-- SPV cleared
clear-spv : Low (λ v. clear_bit v 7)
clear-spv = record { above = λ a q. omega arith; plain = λ u. op-and clear-op u mask 7 refl }

-- SPV set
set-spv : Low (λ v. set_bit v 7)
set-spv = record { above = λ a q. omega arith; plain = λ u. op-and set-op u mask 7 refl }

-- GVA and SPVP taken
take-gva : (b : Bool) → Low (λ v. with_bit v 6 b)
take-gva b = record { above = λ a q. omega arith; plain = λ u. op-and (take-op b) u mask 6 refl }

take-spvp : (b : Bool) → Low (λ v. with_bit v 8 b)
take-spvp b = record { above = λ a q. omega arith; plain = λ u. op-and (take-op b) u mask 8 refl }

-- SPV cleared leaves it legal
pub spv-cleared : (x : Xlen) (v : ℕ) → leaves x Hstatus v ≡ true → leaves x Hstatus (clear_bit v 7) ≡ true
spv-cleared = low-legal (λ v. clear_bit v 7) clear-spv

-- and so do the bits of a trap
pub trap-legal : (gva s : Bool) (x : Xlen) (v : ℕ) → leaves x Hstatus v ≡ true → leaves x Hstatus (trap_hstatus gva s v) ≡ true
unfolding trap_hstatus
trap-legal gva s x v t =
    low-legal (λ v. with_bit v 8 s) (take-spvp s) x (set_bit (with_bit v 6 gva) 7)
    (low-legal (λ v. set_bit v 7) set-spv x (with_bit v 6 gva) (low-legal (λ v. with_bit v 6 gva) (take-gva gva) x v t))
