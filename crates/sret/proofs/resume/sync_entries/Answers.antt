-- `sret::resume::sync_entries` meets its contract: the pass leaves what the turns of all entries leave.
use mathlib.Core.Path.{◌∙◌}
use Rattle.world.specs.State.{state_from}
use Rattle.sret.proofs.Whole.{entries-done, entries-left}
use Rattle.sret.proofs.resume.sync_entries.Goals as goal

pub serve-requires : goal.serve-requires
serve-requires c = c.requires

pub returns-then-has : goal.returns-then-has
returns-then-has c h = let a = c.args in
    c.serve.ensures.state h ∙ entries-done a.x a.features (state_from h a.page.now a.table.now) c.has.ensures c.if-has.true

pub returns-else-has : goal.returns-else-has
returns-else-has c h = let a = c.args in
    entries-left a.x a.features (state_from h a.page.now a.table.now) c.has.ensures c.if-has.false
