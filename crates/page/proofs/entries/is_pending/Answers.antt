-- `is_pending` meets its contract: the word read is Config.
use mathlib.Core.Path.{ap, ◌∙◌}
use Rattle.fence.specs.Entry.{pending}
use Rattle.page.specs.Entries.{is_pending}
use Rattle.page.proofs.entries.is_pending.Goals as goal

pub returns : goal.returns
unfolding is_pending
returns c = c.is_pending.ensures ∙ ap (pending c.args.x) c.entry_word.ensures
