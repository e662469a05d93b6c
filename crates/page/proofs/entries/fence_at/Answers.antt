-- `fence_at` meets its contract: the words read are the four of the entry.
use Rattle.page.proofs.EntryWords.{fence-read}
use Rattle.page.proofs.entries.fence_at.Goals as goal

pub returns : goal.returns
returns c = fence-read _ _ _ c.entry_word-config.ensures c.entry_word-number.ensures c.entry_word-word2.ensures c.entry_word-count.ensures c.decode.ensures
