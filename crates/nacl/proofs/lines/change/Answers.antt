-- `nacl::lines::change` meets its contract: a refusal touches nothing; else the lines are stored, and the words where there is a page.
use mathlib.Core.Path.{sym, ◌∙◌}
use Rattle.world.specs.World.{lent}
use Rattle.world.proofs.WorldLaws.{room}
use Rattle.checks.proofs.Judged.{check1-is}
use Rattle.nacl.proofs.LineOutcomes.{line-failed, line-invalid, line-alone, line-stored}
use Rattle.nacl.proofs.lines.change.Goals as goal

pub returns-then-not-well_made : goal.returns-then-not-well_made
returns-then-not-well_made c =
    let w = lent c.args.h c.args.base c.args.memory.now c.args.table.now in
    rw c.refused.ensures (line-failed c.args.lines w (sym (check1-is w c.well_made.ensures) ∙ c.if-not-well_made.true))

pub returns-then-not-lines_well_made : goal.returns-then-not-lines_well_made
returns-then-not-lines_well_made c =
    let w = lent c.args.h c.args.base c.args.memory.now c.args.table.now in
    rw c.refused-then-not-lines_well_made.ensures (line-invalid c.args.lines w (sym (check1-is w c.well_made.ensures) ∙ c.if-not-well_made.false)
    (sym c.lines_well_made.ensures ∙ c.if-not-lines_well_made.true))

pub returns-then-not-page_there : goal.returns-then-not-page_there
returns-then-not-page_there c =
    let w = lent c.args.h c.args.base c.args.memory.now c.args.table.now in
    rw c.done.ensures (line-alone c.args.lines w (sym (check1-is w c.well_made.ensures) ∙ c.if-not-well_made.false)
    (sym c.lines_well_made.ensures ∙ c.if-not-lines_well_made.false) c.with_lines-hart.ensures (sym c.page_there.ensures ∙ c.if-not-page_there.true))

pub page_offset-at-requires : goal.page_offset-at-requires
page_offset-at-requires c = sym c.page_there.ensures ∙ c.if-not-page_there.false

pub store_words-requires : goal.store_words-requires
store_words-requires c = rw c.page_offset-at.ensures
    (room c.with_lines-hart.result.xlen c.args.base c.args.memory.now c.with_lines-hart.result.shmem (sym c.page_there.ensures ∙ c.if-not-page_there.false))

pub returns : goal.returns
returns c =
    let w = lent c.args.h c.args.base c.args.memory.now c.args.table.now in
    rw c.done-2.ensures (line-stored c.args.lines w (sym (check1-is w c.well_made.ensures) ∙ c.if-not-well_made.false)
    (sym c.lines_well_made.ensures ∙ c.if-not-lines_well_made.false) c.with_lines-hart.ensures (sym c.page_there.ensures ∙ c.if-not-page_there.false)
    (rw c.page_offset-at.ensures at (c.store_words.ensures c.args.table.now)))
