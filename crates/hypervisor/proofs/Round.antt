-- The words of the fence that is asked for, read back: Config fits a word, is pending and readable and holds each field, and the entry means that fence.
use Prim.Native.Nat.{ℕ, ◌%◌, ◌^◌, ◌≤◌, ◌<◌}
use mathlib.Core.Bool.{Bool, true, false, cond, and-eq-true_iff}
use mathlib.Core.Path.{◌≡◌, refl, ◌∙◌}
use native.Mathlib.Nat.{mul-one}
use native.Mathlib.Omega.{arith}
use borrow.Author.Tests.{eq-eqb, leb-true, le-leb}
use lib.Bits.{bit_and}
use lib.Dec.{eqb, ltb}
use Rattle.layout.specs.declared.xlen.Xlen.{Xlen}
use Rattle.layout.specs.declared.xlen.Xlen.TheVariants.{X32, X64}
use Rattle.layout.specs.Width.{bytes}
use Rattle.layout.specs.Bits.{field}
use Rattle.hart.proofs.BitLaws.{put-and}
use Rattle.fence.specs.declared.entry.Target.TheVariants.{AnyVmid, OneVmid, VmidAsid}
use Rattle.fence.specs.declared.entry.Pages.{Pages}
use Rattle.fence.specs.declared.entry.Pages.TheVariants.{All, Physical, Virtual}
use Rattle.fence.specs.Entry.{pending, type_of, order_of, vmid_of, asid_of, reserved, readable, decoded}
use Rattle.hypervisor.specs.declared.fences.Asked.{Asked}
use Rattle.hypervisor.specs.Fences.{max_vmid, max_asid, good_fence, of_range, of_vmid, of_asid, config_of, fence_asked}

-- ---- the parts of Config

-- each part fits its field
pub record Parts (x : Xlen) (a : Asked) : Type 0 where
  pub kind : a.kind ≤ 7
  pub order : of_range a a.order ≤ 127
  pub vmid : of_vmid a a.vmid ≤ max_vmid x
  pub asid : of_asid a a.asid ≤ max_asid x

-- what fits, or zero in its place, fits
or-zero : (b : Bool) {v m : ℕ} → v ≤ m → cond b 0 v ≤ m
or-zero true h = omega arith
or-zero false h = h

-- the parts of a good fence do
pub parts : (x : Xlen) (a : Asked) → good_fence x a ≡ true → Parts x a
unfolding good_fence
parts x a e =
    let (f, _) = (and-eq-true_iff _ _).0 e in
    let (g, _) = (and-eq-true_iff _ _).0 f in
    let (h, s) = (and-eq-true_iff _ _).0 g in
    let (i, v) = (and-eq-true_iff _ _).0 h in
    let (t, o) = (and-eq-true_iff _ _).0 i in
    record {
      kind = leb-true _ _ t;
      order = or-zero (eqb (a.kind % 2) 1) (leb-true _ _ o);
      vmid = or-zero (ltb a.kind 2) (leb-true _ _ v);
      asid = or-zero (ltb a.kind 6) (leb-true _ _ s);
    }

-- each field of Config holds its part
abbrev pub Fields : Xlen → ℕ → Asked → Type 0
Fields x config a =
    (type_of x config ≡ a.kind) × (order_of x config ≡ of_range a a.order)
    × (vmid_of x config ≡ of_vmid a a.vmid) × (asid_of x config ≡ of_asid a a.asid)

fields : (x : Xlen) (a : Asked) → Parts x a → Fields x (config_of x a) a
unfolding config_of
fields X32 a p = (omega arith, omega arith, omega arith, omega arith)
fields X64 a p = (omega arith, omega arith, omega arith, omega arith)

-- no part has a reserved bit: the mask sees none of them, from ASID up, and it does not see Pending
no-reserved : (x : Xlen) (a : Asked) → Parts x a → bit_and (config_of x a) (reserved x) ≡ 0
unfolding config_of
no-reserved X32 a p =
    rw (← mul-one (of_asid a a.asid))
    (put-and _ 0 9 (of_asid a a.asid) (omega arith) (omega arith) _ refl
    ∙ put-and _ 9 7 (of_vmid a a.vmid) (omega arith) (omega arith) _ refl
    ∙ put-and _ 16 7 (of_range a a.order) (omega arith) (omega arith) _ refl
    ∙ put-and _ 24 4 a.kind (omega arith) (omega arith) _ refl)
no-reserved X64 a p =
    rw (← mul-one (of_asid a a.asid))
    (put-and _ 0 16 (of_asid a a.asid) (omega arith) (omega arith) _ refl
    ∙ put-and _ 16 14 (of_vmid a a.vmid) (omega arith) (omega arith) _ refl
    ∙ put-and _ 48 7 (of_range a a.order) (omega arith) (omega arith) _ refl
    ∙ put-and _ 56 4 a.kind (omega arith) (omega arith) _ refl)

-- ---- what a type leaves out of the words it leaves out of the fence

-- of the target
same_target : (p q : Bool) (v s : ℕ)
    → cond p AnyVmid (cond q (OneVmid (cond p 0 v)) (VmidAsid (cond p 0 v) (cond q 0 s))) ≡ cond p AnyVmid (cond q (OneVmid v) (VmidAsid v s))
same_target true q v s = refl
same_target false true v s = refl
same_target false false v s = refl

-- a range of guest physical or guest virtual pages
abbrev ranged : Bool → ℕ → ℕ → ℕ → Pages
ranged q o n c = cond q (Physical (record { order = o; number = n; count = c })) (Virtual (record { order = o; number = n; count = c }))

-- of the pages
same-pages : (p q : Bool) (o n c : ℕ) → cond p All (ranged q (cond p 0 o) (cond p 0 n) (cond p 0 c)) ≡ cond p All (ranged q o n c)
same-pages true q o n c = refl
same-pages false q o n c = refl

-- ---- a good fence

-- its Config fits a word
pub config-fits : (x : Xlen) (a : Asked) → good_fence x a ≡ true → config_of x a < 256 ^ bytes x
unfolding config_of
config-fits X32 a e = let p = parts X32 a e in omega arith
config-fits X64 a e = let p = parts X64 a e in omega arith

-- its Config is pending
pub config-pending : (x : Xlen) (a : Asked) → good_fence x a ≡ true → pending x (config_of x a) ≡ true
unfolding config_of
config-pending X32 a e = let p = parts X32 a e in eq-eqb (field (config_of X32 a) 31 1) 1 (omega arith)
config-pending X64 a e = let p = parts X64 a e in eq-eqb (field (config_of X64 a) 63 1) 1 (omega arith)

-- each field of it holds its part
pub config-fields : (x : Xlen) (a : Asked) → good_fence x a ≡ true → Fields x (config_of x a) a
config-fields x a e = fields x a (parts x a e)

-- with zero in word 2 it is readable
pub config-readable : (x : Xlen) (a : Asked) → good_fence x a ≡ true → readable x (config_of x a) 0 ≡ true
config-readable x a e =
    let p = parts x a e in
    rw (no-reserved x a p, (config-fields x a e).0, le-leb a.kind 7 p.kind)

-- its words are decoded to it
pub round_trip : (x : Xlen) (a : Asked) → good_fence x a ≡ true
    → decoded x (config_of x a) (of_range a a.number) 0 (of_range a a.count) ≡ fence_asked a
round_trip x a e =
    let (t, o, v, s) = config-fields x a e in
    rw (config-readable x a e, t, o, v, s, same_target, same-pages)
