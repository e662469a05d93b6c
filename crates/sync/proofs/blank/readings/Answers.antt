-- `sync::blank::readings` meets its contract. The loop's invariant: the turns before t are stored.
use mathlib.Core.Path.{sym, ◌∙◌}
use borrow.Author.Tests.{eq-eqb, ne_eqb}
use Rattle.sync.proofs.BlankLaws.{storing-start, storing-store, storing-pass, storing-end}
use Rattle.sync.proofs.blank.readings.Goals as goal
use Rattle.sync.proofs.blank.readings.Goals.{then-had-t-eq1, else-had-t-eq1}

pub loop-t-init : goal.loop-t-init
loop-t-init c = storing-start c.args.h.now c.args.page.now c.requires

pub loop-t-preserved : goal.loop-t-preserved
loop-t-preserved c = let h = c.args.h.now in
    let bit = c.turns_had-had.ensures c.loop-t.t c.loop-t-test.true in
    elim c.if-had-t-eq1.branch [
      | then-had-t-eq1 w ↦
          rw (w.page-is ∙ w.store.ensures) (storing-store h c.args.page.now c.loop-t.page c.loop-t.t c.loop-t-test.true (sym bit ∙ eq-eqb _ 1 w.if-had-t-eq1.true) c.loop-t.invariant)
      | else-had-t-eq1 w ↦
          rw w.page-is (storing-pass h c.args.page.now c.loop-t.page c.loop-t.t c.loop-t-test.true (sym bit ∙ ne_eqb _ 1 w.if-had-t-eq1.false) c.loop-t.invariant)
    ]

pub returns : goal.returns
returns c = storing-end c.args.h.now c.args.page.now c.loop-t.page c.loop-t.t c.loop-t-test.false c.loop-t.invariant
