-- An entry's line, from the words read and the pieces put.
use mathlib.Core.Path.{◌≡◌, sym, ap₂, ◌∙◌}
use mathlib.Core.Bool.{Bool, true, false}
use mathlib.Core.List.{List}
use Prim.Native.Nat.{ℕ}
use Rattle.layout.specs.declared.xlen.Xlen.{Xlen}
use Rattle.text.specs.Ascii.{ascii}
use Rattle.text.specs.Buffer.{Put}
use Rattle.text.specs.declared.Buffer.{Buffer}
use Rattle.text.proofs.Puts.{◌then◌}
use Rattle.fence.specs.Entry.{readable}
use Rattle.page.specs.Entries.{entry_word}
use Rattle.lister.specs.Listing.{named, fields, fence_line}

module _ (x : Xlen) (p : List ℕ) (e : ℕ) {w₀ w₂ : ℕ} (q₀ : w₀ ≡ entry_word x p e 0) (q₂ : w₂ ≡ entry_word x p e 2) {b : Bool} (test : b ≡ readable x w₀ w₂) where
  tested : b ≡ readable x (entry_word x p e 0) (entry_word x p e 2)
  tested = test ∙ ap₂ (readable x) q₀ q₂

  module _ {b₀ b₁ b₂ : Buffer ℕ} (name : Put b₀ (named "fence " e) b₁) where
    pub readable-line : {w₁ w₃ : ℕ} → w₁ ≡ entry_word x p e 1 → w₃ ≡ entry_word x p e 3
        → b ≡ true → Put b₁ (fields x w₀ w₁ w₃) b₂ → Put b₀ (fence_line x p e) b₂
    unfolding fence_line
    readable-line q₁ q₃ h w = rw (sym tested ∙ h) (name then (rw (q₀, q₁, q₃) at w))

    pub unreadable-line : b ≡ false → Put b₁ (ascii " all\n") b₂ → Put b₀ (fence_line x p e) b₂
    unfolding fence_line
    unreadable-line h w = rw (sym tested ∙ h) (name then w)
