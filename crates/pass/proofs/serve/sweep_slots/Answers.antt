-- `sweep_slots` meets its contract: the tests gathered are those of all pending entries.
use borrow.Author.Rules.{rules}
use Rattle.layout.specs.Width.{bytes}
use Rattle.layout.specs.Geometry.{entry_count}
use Rattle.pass.proofs.SweepLaws.{by_entries}
use Rattle.pass.proofs.PassLaws.{swept}
use Rattle.pass.proofs.serve.sweep_slots.Goals as goal

pub returns : goal.returns
returns c = let a = c.args in
    let done = c.sweep.ensures in
    let slots = by_entries a.x a.page.now (entry_count (bytes a.x)) _ a.slots c.gather-tests.ensures (λ j h. (search rules, search rules)) done.0 in
    (swept a.x a.page.now a.table.now c.requires.0 a.slots c.requires.2 slots, done.1)
