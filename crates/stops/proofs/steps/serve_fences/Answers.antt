-- `stops::steps::serve_fences` meets its contract: the turns asked for run on the page's part of memory, or all in one pass.
use mathlib.Core.Path.{◌≡◌, refl, ap, ◌∙◌}
use mathlib.Core.Bool.{true, not}
use mathlib.Core.List.{map}
use Prim.Native.Nat.{◌+◌, ◌-◌}
use native.Mathlib.Omega.{arith}
use lib.Dec.{eqb}
use lib.ListN.{take, drop}
use borrow.Author.Tests.{eq-eqb, ne_eqb}
use Rattle.layout.specs.Width.{bytes}
use Rattle.layout.specs.Geometry.{page_size}
use Rattle.page.specs.Entries.{every_entry}
use Rattle.pass.proofs.GatherLaws.{few}
use Rattle.world.specs.State.{state_from}
use Rattle.turns.specs.Marks.{Pending}
use Rattle.turns.proofs.FenceTotals.{total-every}
use Rattle.stops.proofs.Reports.{served-at, part-page, all_made}
use Rattle.stops.proofs.steps.serve_fences.Goals as goal

pub overflow_sub-result : goal.overflow_sub-result
overflow_sub-result g c =
    let whole : not (eqb g.row.WHOLE 0) ≡ true = ap not (ne_eqb _ 0 c.if-this-ne0.true) in
    omega (arith, c.serve-steps.ensures.few, few c.args.x, (c.requires.enough whole).1)

pub returns-then-a-all_ones : goal.returns-then-a-all_ones
returns-then-a-all_ones g c = λ h.
    let done = c.serve-steps.ensures in
    let a = c.args in
    let whole : not (eqb g.row.WHOLE 0) ≡ true = ap not (ne_eqb _ 0 c.if-this-ne0.true) in
    let enough = c.requires.enough whole in
    let k : a.at + c.page_size.result - a.at ≡ page_size (bytes a.x) = omega (arith, c.page_size.ensures) in
    let m = a.memory.now in
    rw (eq-eqb _ _ (c.if-a-all_ones.true ∙ c.all_ones.ensures))
    (served-at a.x _ _ a.at a.limit (a.at + c.page_size.result - a.at) h m a.table.now k refl
    (all_made a.x (map Pending (every_entry a.x)) (state_from h (take (a.at + c.page_size.result - a.at) (drop a.at m)) a.table.now) a.limit
    (part-page a.x a.at (a.at + c.page_size.result - a.at) m k c.requires.there)
    (omega (arith, total-every a.x (state_from h (take (a.at + c.page_size.result - a.at) (drop a.at m)) a.table.now) enough.0, few a.x, enough.1)) (done.state h) (done.steps h)))

pub returns : goal.returns
returns g c = λ h.
    let a = c.args in
    served-at a.x _ _ a.at a.limit (a.at + c.page_size.result - a.at) h a.memory.now a.table.now (omega (arith, c.page_size.ensures))
    (rw c.len.ensures.value c.entries_asked-asked.ensures.0) (c.turns.ensures h)
