-- Words of the part that the page reader hands out are the entry's words.
use mathlib.Core.Path.{◌≡◌, ap, ◌∙◌}
use mathlib.Core.List.{List}
use Prim.Native.Nat.{ℕ, ◌+◌, ◌*◌, ◌<◌}
use native.Mathlib.Nat.{mul-le-mul_left}
use native.Mathlib.Omega.{arith}
use lib.ListN.{length}
use Rattle.layout.specs.declared.xlen.Xlen.{Xlen}
use Rattle.layout.specs.Width.{bytes}
use Rattle.layout.specs.Geometry.{entry_at, entry_count}
use Rattle.layout.specs.Words.{word_at, put_word}
use Rattle.fence.specs.declared.entry.Fence.{Fence}
use Rattle.fence.specs.Entry.{clear_pending, decoded}
use Rattle.reader.specs.Part.{entry_part}
use Rattle.reader.proofs.PartLaws.{part_length, part-word}
use Rattle.page.specs.Registers.{IsPage}
use Rattle.page.specs.Entries.{entry_word, fence_at, clear_entry}

module _ (x : Xlen) (p : List ℕ) (e : ℕ) where
  -- the fence decoded from the four words
  pub fence-read : {f : Fence} {w₀ w₁ w₂ w₃ : ℕ}
      → w₀ ≡ entry_word x p e 0 → w₁ ≡ entry_word x p e 1 → w₂ ≡ entry_word x p e 2 → w₃ ≡ entry_word x p e 3
      → f ≡ decoded x w₀ w₁ w₂ w₃ → f ≡ fence_at x p e
  unfolding fence_at
  fence-read q₀ q₁ q₂ q₃ read = rw (← q₀, ← q₁, ← q₂, ← q₃) read

  -- the entry's Config, with Pending cleared, stored again
  pub cleared : {q : List ℕ} {o v w : ℕ} → o ≡ entry_at (bytes x) e → w ≡ word_at (bytes x) p o → v ≡ clear_pending x w
      → q ≡ put_word (bytes x) p o v → q ≡ clear_entry x e p
  unfolding clear_entry entry_word
  cleared {q} {o} {v} at read value put =
      let first : o ≡ entry_at (bytes x) e + bytes x * 0 = omega arith in
      put ∙ ap (λ (y : ℕ). put_word (bytes x) p y v) at
      ∙ ap (put_word (bytes x) p (entry_at (bytes x) e)) (value ∙ ap (clear_pending x) (read ∙ ap (word_at (bytes x) p) first))

  module _ (h : e < entry_count (bytes x)) (g : IsPage x p) {q : List ℕ} (part : q ≡ entry_part x p e) where
    -- the part has the entry's four words
    pub part-size : length q ≡ 4 * bytes x
    part-size = rw part (part_length x p e g h)

    -- a word w read where word k of the part stands
    pub part-read : (k : ℕ) {w : ℕ} → k < 4 → w ≡ word_at (bytes x) q (bytes x * k) → w ≡ entry_word x p e k
    unfolding entry_word
    part-read k b read =
        read ∙ ap (λ (l : List ℕ). word_at (bytes x) l (bytes x * k)) part
        ∙ part-word x p e g h (bytes x * k) (omega (arith, mul-le-mul_left (bytes x) b))
