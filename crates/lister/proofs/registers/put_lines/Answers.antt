-- `put_lines` meets its contract: the lines of the marked ones passed are put.
use mathlib.Core.Path.{sym, ◌∙◌}
use native.Mathlib.Omega.{arith}
use Rattle.csr.specs.Csrs.{Vsatp, every_csr}
use Rattle.page.specs.Registers.{is_dirty}
use Rattle.lister.specs.Marks.{dirty_csrs}
use Rattle.lister.proofs.Passing.{at_first, few, near, passes, fails, at_last}
use Rattle.lister.proofs.Chosen.{those-had, turn_at}
use Rattle.lister.proofs.Sizes.{length-csr}
use Rattle.lister.proofs.registers.put_lines.Goals as goal
use Rattle.lister.proofs.registers.put_lines.Goals.{then-is_listed, else-is_listed}

pub loop-t-init : goal.loop-t-init
loop-t-init c = at_first

pub is_listed-requires : goal.is_listed-requires
is_listed-requires c = (omega arith, c.turns_had-had.ensures c.loop-t.t (omega arith), c.requires.0)

pub put_line-requires : goal.put_line-requires
put_line-requires c = (c.requires.0, omega (arith, near c.loop-t.invariant 25 (length-csr _ _)))

pub overflow_add-count : goal.overflow_add-count
overflow_add-count c = omega (arith, few c.loop-t.invariant)

pub loop-t-preserved : goal.loop-t-preserved
loop-t-preserved c = let inv = c.loop-t.invariant in
    let mark = c.is_listed.ensures in
    elim c.if-is_listed.branch [
      | then-is_listed w ↦ rw (w.out-is, w.count-is) (passes inv Vsatp (turn_at c.loop-t.t) (omega arith) (sym mark ∙ w.if-is_listed.true) w.put_line.ensures)
      | else-is_listed w ↦ rw (w.out-is, w.count-is) (fails inv Vsatp (turn_at c.loop-t.t) (omega arith) (sym mark ∙ w.if-is_listed.false))
    ]

pub returns : goal.returns
unfolding dirty_csrs
returns c =
    let w = rw (those-had c.args.x (is_dirty c.args.image.now) every_csr) at (at_last c.loop-t.invariant (omega arith)) in
    record { puts = w.0; count_value = w.1 }
