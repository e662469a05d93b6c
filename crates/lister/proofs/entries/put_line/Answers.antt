-- `put_line` meets its contract: the words read are the entry's, and the pieces put those of its line.
use Rattle.lister.proofs.EntryLine.{readable-line, unreadable-line}
use Rattle.lister.proofs.entries.put_line.Goals as goal

pub returns-then-is_readable : goal.returns-then-is_readable
returns-then-is_readable c = readable-line _ _ _ c.entry_word-config.ensures c.entry_word-word2.ensures c.is_readable.ensures c.put_field.ensures.puts
    c.entry_word-number.ensures c.entry_word-count.ensures c.if-is_readable.true c.put_fields.ensures

pub returns-else-is_readable : goal.returns-else-is_readable
returns-else-is_readable c = unreadable-line _ _ _ c.entry_word-config.ensures c.entry_word-word2.ensures c.is_readable.ensures c.put_field.ensures.puts
    c.if-is_readable.false c.put_text.ensures
