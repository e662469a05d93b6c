-- `block::decode` meets its contract: each field is read from its word.
use Rattle.block.specs.Block.{record_of}
use Rattle.block.proofs.Widths.{width-named, page-set}
use Rattle.std.proofs.Common.{◌∙◌}
use Rattle.block.proofs.decode.Goals as goal

pub returns : goal.returns
unfolding record_of
returns c = rw (width-named _ _ c.try_from.ensures, c.unwrap_or.ensures, c.csrs_of.ensures, c.then_some.ensures ∙ page-set _ _, c.from.ensures, c.general_of.ensures)
