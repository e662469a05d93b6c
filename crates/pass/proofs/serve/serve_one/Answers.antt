-- `serve_one` meets its contract: the turn of the one pending entry is the turns of all.
use mathlib.Core.Path.{◌≡◌, sym, ap, ◌∙◌, subst}
use mathlib.Core.List.{List}
use Prim.Native.Nat.{ℕ, ◌+◌, ◌≤◌}
use native.Mathlib.Omega.{arith}
use lib.ListN.{length}
use Rattle.layout.specs.declared.xlen.Xlen.{Xlen}
use Rattle.fence.specs.declared.entry.Fence.{Fence}
use Rattle.fence.specs.Slots.{slot_count}
use Rattle.fence.specs.Table.{named, remove_named}
use Rattle.fence.proofs.Removal.{removed-count}
use Rattle.page.specs.Entries.{fence_at, clear_entry}
use Rattle.page.specs.Registers.{IsPage}
use Rattle.pass.specs.Inner.{OnlyPending}
use Rattle.pass.specs.Pass.{used_slots, Swept, AllServed}
use Rattle.pass.proofs.GatherLaws.{few}
use Rattle.pass.proofs.PassLaws.{all-served, one-swept, one-cleared}
use Rattle.pass.proofs.serve.serve_one.Goals as goal

-- all of it
done : (x : Xlen) (p t : List ℕ) (e : ℕ) → IsPage x p → OnlyPending x p e → length t ≤ 1024 → {f : Fence} {u q : List ℕ} {removed : ℕ} → f ≡ fence_at x p e
    → (u ≡ remove_named f t) × (removed ≡ length (named f t)) → q ≡ clear_entry x e p → AllServed x p t q u (removed + 1)
done x p t e g o l {u = u} {removed = removed} f r c =
    let table = r.0 ∙ ap (λ (g : Fence). remove_named g t) f in
    let number = r.1 ∙ ap (λ (g : Fence). length (named g t)) f in
    let (page, one) = one-cleared x p t g e o in
    all-served x p t g l removed 1 (subst (Swept x p t (slot_count t)) (sym table) (one-swept x p t g e o))
    (omega (arith, number, removed-count (fence_at x p e) t, ap used_slots table)) (c ∙ page) one

pub overflow_add-result : goal.overflow_add-result
overflow_add-result c = record { fits = omega (arith, (done _ _ _ _ c.requires.0 c.requires.1 c.requires.2 c.fence_at.ensures c.remove_named-removed.ensures c.clear_pending.ensures).few, few c.args.x) }

pub returns : goal.returns
returns c = done _ _ _ _ c.requires.0 c.requires.1 c.requires.2 c.fence_at.ensures c.remove_named-removed.ensures c.clear_pending.ensures
