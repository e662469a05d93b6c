-- `put_entry` meets its contract: store by store, up to the limit.
use Rattle.std.proofs.Common.{◌≡◌, ℕ, List, [], ◌∷◌, rules}
use Rattle.std.proofs.lemmas.List.{map-append}
use Rattle.std.proofs.lemmas.Iterator.{YieldsList-from_slice, YieldsList-from_take}
use Rattle.std.proofs.lemmas.Iterator.Consumers.{YieldsList-end}
use Rattle.hypervisor.proofs.EntryStores.{words_asked, entered-none, entered-more, entered-all}
use Rattle.hypervisor.proofs.fences.put_entry.Goals as goal

pub loop-k-init : goal.loop-k-init
loop-k-init c = entered-none c.args.x c.args.e c.args.page.now

pub loop-k-preserved : goal.loop-k-preserved
loop-k-preserved c = rw map-append (entered-more c.args.x c.args.e _ c.in-Some.field-0.now _ _ _ c.loop-k.invariant c.put.ensures)

pub returns : goal.returns
returns c =
    let words : List (ℕ × ℕ) = (1, c.stored-stored.result.number) ∷ (3, c.stored-stored.result.count) ∷ (2, 0) ∷ (0, c.config-config.result) ∷ [] in
    let asked : words ≡ words_asked c.args.x c.args.a = rw (c.stored-stored.ensures, c.config-config.ensures) in
    let all = YieldsList-end (YieldsList-from_take c.args.limit (YieldsList-from_slice words (search rules)) (search rules))
    c.loop-k.yielded _ c.loop-k.yielded_by _ _ c.in-None.is c.next.ensures.steps in
    entered-all c.args.x c.args.e c.args.a c.args.limit _ _ (rw (all.0, asked) at c.loop-k.invariant)
