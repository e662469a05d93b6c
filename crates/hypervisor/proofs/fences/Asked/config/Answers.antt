-- `Asked::config` meets its contract: each field that is stored has its limit.
use Rattle.std.proofs.Common.{◌≡◌, ◌≤◌, true, refl, subst, arith}
use Rattle.layout.specs.declared.xlen.Xlen.{Xlen}
use Rattle.hypervisor.specs.declared.fences.Asked.{Asked}
use Rattle.hypervisor.specs.Fences.{max_vmid, max_asid, good_fence, stored_asked, config_of}
use Rattle.hypervisor.proofs.Round.{parts}
use Rattle.hypervisor.proofs.fences.Asked.config.Goals as goal

-- the limits of the fields at a width
limits : (x y : Xlen) (a s : Asked) → x ≡ y → good_fence x a ≡ true → s ≡ stored_asked a
    → (s.kind ≤ 7) × (s.order ≤ 127) × (s.vmid ≤ max_vmid y) × (s.asid ≤ max_asid y)
limits x y a s at good e =
    let b = parts y a (subst (λ (z : Xlen). good_fence z a ≡ true) at good) in
    (rw e b.kind, rw e b.order, rw e b.vmid, rw e b.asid)

pub overflow_add-top : goal.overflow_add-top
overflow_add-top c = omega (arith, limits _ _ _ _ refl c.requires c.stored-stored.ensures)

pub overflow_mul-top : goal.overflow_mul-top
overflow_mul-top c = omega (arith, limits _ _ _ _ refl c.requires c.stored-stored.ensures)

pub overflow_add-top-2 : goal.overflow_add-top-2
overflow_add-top-2 c = omega (arith, limits _ _ _ _ refl c.requires c.stored-stored.ensures)

pub overflow_mul-result : goal.overflow_mul-result
overflow_mul-result c = omega (arith, limits _ _ _ _ c.in-X32.is c.requires c.stored-stored.ensures)

pub overflow_mul-result-in-X32 : goal.overflow_mul-result-in-X32
overflow_mul-result-in-X32 c = omega (arith, limits _ _ _ _ c.in-X32.is c.requires c.stored-stored.ensures)

pub overflow_add-result : goal.overflow_add-result
overflow_add-result c = omega (arith, limits _ _ _ _ c.in-X32.is c.requires c.stored-stored.ensures)

pub overflow_add-result-in-X32 : goal.overflow_add-result-in-X32
overflow_add-result-in-X32 c = omega (arith, limits _ _ _ _ c.in-X32.is c.requires c.stored-stored.ensures)

pub overflow_mul-result-in-X64 : goal.overflow_mul-result-in-X64
overflow_mul-result-in-X64 c = omega (arith, limits _ _ _ _ c.in-X64.is c.requires c.stored-stored.ensures)

pub overflow_mul-result-in-X64-2 : goal.overflow_mul-result-in-X64-2
overflow_mul-result-in-X64-2 c = omega (arith, limits _ _ _ _ c.in-X64.is c.requires c.stored-stored.ensures)

pub overflow_add-result-in-X64 : goal.overflow_add-result-in-X64
overflow_add-result-in-X64 c = omega (arith, limits _ _ _ _ c.in-X64.is c.requires c.stored-stored.ensures)

pub overflow_add-result-in-X64-2 : goal.overflow_add-result-in-X64-2
overflow_add-result-in-X64-2 c = omega (arith, limits _ _ _ _ c.in-X64.is c.requires c.stored-stored.ensures)

pub returns-in-X32 : goal.returns-in-X32
unfolding config_of
returns-in-X32 c = rw (c.in-X32.is, c.stored-stored.ensures) (omega arith)

pub returns-in-X64 : goal.returns-in-X64
unfolding config_of
returns-in-X64 c = rw (c.in-X64.is, c.stored-stored.ensures) (omega arith)
