-- `entry_word` meets its contract: the word read from the entry's part is the entry's.
use mathlib.Core.Path.{ap, ◌∙◌}
use Prim.Native.Nat.{ℕ, ◌*◌}
use native.Mathlib.Nat.{mul-le-mul_left}
use native.Mathlib.Omega.{arith}
use Rattle.layout.specs.Width.{bytes}
use Rattle.layout.specs.Words.{word_at}
use Rattle.page.proofs.EntryWords.{part-size, part-read}
use Rattle.page.proofs.entries.entry_word.Goals as goal

pub word_at-requires : goal.word_at-requires
word_at-requires c = let a = c.args in
    rw c.bytes.ensures (omega (arith, mul-le-mul_left (bytes a.x) c.requires.2, part-size _ _ _ c.requires.0 c.requires.1 c.entry.ensures.bytes))

pub returns : goal.returns
returns c = let a = c.args in
    part-read _ _ _ c.requires.0 c.requires.1 c.entry.ensures.bytes _ c.requires.2
    (c.word_at.ensures ∙ ap (λ (w : ℕ). word_at (bytes a.x) c.entry.result.now (w * a.k)) c.bytes.ensures)
