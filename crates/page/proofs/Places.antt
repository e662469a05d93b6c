-- A register's word and dirty bit, by its index.
use mathlib.Core.Path.{◌≡◌, ap, ◌∙◌}
use mathlib.Core.Bool.{Bool}
use mathlib.Core.List.{List}
use Prim.Native.Nat.{ℕ}
use Rattle.csr.specs.Csrs.{Csr}
use Rattle.layout.specs.declared.xlen.Xlen.{Xlen}
use Rattle.layout.specs.Width.{bytes}
use Rattle.layout.specs.Geometry.{csr_at}
use Rattle.layout.specs.Words.{word_at, put_word}
use Rattle.layout.specs.Dirty.{dirty, clear_dirty}
use Rattle.page.specs.Registers.{index, is_dirty, clear_mark, csr_word, put_csr}

module _ (c : Csr) (p : List ℕ) {i : ℕ} (at : i ≡ index c) where
  -- the dirty bit of the register's index
  pub dirty-is : {b : Bool} → b ≡ dirty p i → b ≡ is_dirty p c
  unfolding is_dirty
  dirty-is read = read ∙ ap (dirty p) at

  pub clear-is : {q : List ℕ} → q ≡ clear_dirty p i → q ≡ clear_mark c p
  unfolding clear_mark
  clear-is clear = clear ∙ ap (clear_dirty p) at

  -- the word of the register's index
  pub word-is : (x : Xlen) {w : ℕ} → w ≡ word_at (bytes x) p (csr_at (bytes x) i) → w ≡ csr_word x p c
  unfolding csr_word
  word-is x read = read ∙ ap (λ (j : ℕ). word_at (bytes x) p (csr_at (bytes x) j)) at

  pub put_is : (x : Xlen) (v : ℕ) {q : List ℕ} → q ≡ put_word (bytes x) p (csr_at (bytes x) i) v → q ≡ put_csr x c v p
  unfolding put_csr
  put_is x v put = put ∙ ap (λ (j : ℕ). put_word (bytes x) p (csr_at (bytes x) j) v) at
