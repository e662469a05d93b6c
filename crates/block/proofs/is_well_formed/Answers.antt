-- `block::is_well_formed` meets its contract: each test is the contract's.
use borrow.Author.Tests.{eq-eqb, ne_eqb}
use Rattle.block.specs.Block.{block_length, well_formed}
use Rattle.block.proofs.Widths.{is-width}
use Rattle.block.proofs.is_well_formed.Goals as goal

pub returns-then-b-ne-LENGTH-clause-value : goal.returns-then-b-ne-LENGTH-clause-value
unfolding well_formed
returns-then-b-ne-LENGTH-clause-value c = rw (ne_eqb _ block_length c.if-b-ne-LENGTH.true)

pub returns-clause-value : goal.returns-clause-value
unfolding well_formed
returns-clause-value c = rw (eq-eqb _ block_length c.if-b-ne-LENGTH.false, is-width _ _ c.try_from.ensures, c.is_ok.ensures.value)
