-- `block::store` meets its contract: the four parts take the places of what the block held.
use Rattle.std.proofs.Common.{◌∙◌, rules}
use Rattle.block.proofs.LaidOut.{laid}
use Rattle.block.proofs.store.Goals as goal

pub returns : goal.returns
returns c =
    laid c.args.b.now c.args.h c.requires (search rules) (search rules) c.copy_from_slice.ensures.after (c.copy_from_slice-2.ensures.after ∙ c.middle.ensures)
    c.copy_from_slice-3.ensures.after (c.copy_from_slice-4.ensures.after ∙ c.last.ensures)
