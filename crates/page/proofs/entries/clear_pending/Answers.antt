-- `clear_pending` meets its contract: the word stored is Config with Pending cleared.
use Rattle.page.proofs.EntryWords.{cleared}
use Rattle.page.proofs.entries.clear_pending.Goals as goal

pub returns : goal.returns
returns c = cleared _ _ _ c.entry_at-at.ensures c.word_at-config.ensures c.clear_pending.ensures c.put_word.ensures
