-- `put` meets its contract: the word lies in the page.
use mathlib.Core.Path.{ap, ap₂, ◌∙◌}
use Prim.Native.Nat.{ℕ, ◌+◌, ◌*◌}
use native.Mathlib.Omega.{arith}
use Rattle.layout.specs.Width.{bytes}
use Rattle.layout.specs.Words.{put_word}
use Rattle.layout.proofs.PageLaws.{entry-end}
use Rattle.hypervisor.proofs.fences.put.Goals as goal

pub overflow_mul-bytes : goal.overflow_mul-bytes
overflow_mul-bytes c = rw c.bytes.ensures (omega (arith, entry-end (bytes c.args.x) c.args.e c.args.k c.requires.1 c.requires.2))

pub overflow_add-entry_at : goal.overflow_add-entry_at
overflow_add-entry_at c = rw (c.bytes.ensures, c.entry_at.ensures) (omega (arith, entry-end (bytes c.args.x) c.args.e c.args.k c.requires.1 c.requires.2))

pub put_word-requires : goal.put_word-requires
put_word-requires c = rw (c.bytes.ensures, c.entry_at.ensures) (omega (arith, entry-end (bytes c.args.x) c.args.e c.args.k c.requires.1 c.requires.2))

pub returns : goal.returns
returns c = let s = c.args in
    c.put_word.ensures ∙ ap (λ (o : ℕ). put_word (bytes s.x) s.page.now o s.v)
    (ap₂ (λ (a b : ℕ). a + b * s.k) c.entry_at.ensures c.bytes.ensures)
