-- Laws of a fence entry's words in the page: what clearing Pending of one entry leaves of it and of the others.
use mathlib.Core.Path.{◌≡◌, refl, sym, ap, ◌∙◌, subst}
use mathlib.Core.Bool.{Bool, true, false}
use mathlib.Core.List.{List}
use mathlib.Core.Logic.{◌⊎◌, inl, inr, ⊎_elim, ◌≢◌}
use Prim.Native.Nat.{ℕ, ◌+◌, ◌*◌, ◌^◌, ◌<◌}
use native.Mathlib.Nat.{mod-eq_of_lt, lt_of_le_of_lt}
use native.Mathlib.Omega.{arith}
use lib.Bits.{bit_and, and_mod, and_le_r}
use lib.Dec.{eqb, lit<}
use borrow.Author.Tests.{eqb-true, eqb-false}
use Rattle.layout.specs.declared.xlen.Xlen.{Xlen}
use Rattle.layout.specs.declared.xlen.Xlen.TheVariants.{X32, X64}
use Rattle.layout.specs.Width.{bytes}
use Rattle.layout.specs.Bits.{field}
use Rattle.layout.specs.Geometry.{entry_at, entry_count}
use Rattle.layout.specs.Words.{word_at, put_word}
use Rattle.layout.proofs.WordLaws.{length-put}
use Rattle.layout.proofs.PageLaws.{entry-put-same, entry-put-other}
use Rattle.fence.specs.Entry.{pending, clear_pending, type_of, order_of, vmid_of, asid_of, reserved, decoded}
use Rattle.page.specs.Registers.{IsPage}
use Rattle.page.specs.Entries.{entry_word, is_pending, fence_at, clear_entry}

-- a test holds or does not
pub either : (b : Bool) → (b ≡ true) ⊎ (b ≡ false)
either true = inl refl
either false = inr refl

-- Config with Pending cleared is not Pending
pub cleared-pending : (x : Xlen) (config : ℕ) → pending x (clear_pending x config) ≡ false
cleared-pending X32 config = let z : field (clear_pending X32 config) 31 1 ≡ 0 = omega arith in ap (λ (b : ℕ). eqb b 1) z
cleared-pending X64 config = let z : field (clear_pending X64 config) 63 1 ≡ 0 = omega arith in ap (λ (b : ℕ). eqb b 1) z

-- it fits a word
cleared-fits : (x : Xlen) (config : ℕ) → clear_pending x config < 256 ^ bytes x
cleared-fits X32 config = omega arith
cleared-fits X64 config = omega arith

-- Pending is no reserved bit
no-reserved : (x : Xlen) (config : ℕ) → bit_and (clear_pending x config) (reserved x) ≡ bit_and config (reserved x)
no-reserved X32 config =
    sym (and_mod config (reserved X32) 31) ∙ mod-eq_of_lt (lt_of_le_of_lt (and_le_r config (reserved X32)) (lit< tt))
no-reserved X64 config =
    sym (and_mod config (reserved X64) 63) ∙ mod-eq_of_lt (lt_of_le_of_lt (and_le_r config (reserved X64)) (lit< tt))

-- nor a part of another field
abbrev OtherFields : Xlen → ℕ → Type 0
OtherFields x config =
    (type_of x (clear_pending x config) ≡ type_of x config) × (order_of x (clear_pending x config) ≡ order_of x config)
    × (vmid_of x (clear_pending x config) ≡ vmid_of x config) × (asid_of x (clear_pending x config) ≡ asid_of x config)

other-fields : (x : Xlen) (config : ℕ) → OtherFields x config
other-fields X32 config = (omega arith, omega arith, omega arith, omega arith)
other-fields X64 config = (omega arith, omega arith, omega arith, omega arith)

-- Pending plays no part in what an entry names
pub pending-no-part : (x : Xlen) (config number word2 count : ℕ) → decoded x (clear_pending x config) number word2 count ≡ decoded x config number word2 count
pending-no-part x config number word2 count =
    let (t, o, v, a) = other-fields x config in
    rw (no-reserved x config, t, o, v, a)

differ : (e d : ℕ) → eqb d e ≡ false → e ≢ d
differ e d n q = eqb-false d e n (sym q)

module _ (x : Xlen) where
  -- the four words of an entry after another's Pending is cleared, and its own
  pub word_same : (e : ℕ) (p : List ℕ) → e < entry_count (bytes x) → IsPage x p → entry_word x (clear_entry x e p) e 0 ≡ clear_pending x (entry_word x p e 0)
  unfolding entry_word clear_entry
  word_same e p b g =
      subst (λ (o : ℕ). word_at (bytes x) (put_word (bytes x) p o v) (entry_at (bytes x) e + bytes x * 0) ≡ v) at
      (entry-put-same (bytes x) p e 0 v b (omega arith) (omega arith) (cleared-fits x (entry_word x p e 0)))
    where
      v : ℕ
      v = clear_pending x (entry_word x p e 0)

      at : entry_at (bytes x) e + bytes x * 0 ≡ entry_at (bytes x) e
      at = omega arith

  pub word-other : (e d k : ℕ) (p : List ℕ) → e < entry_count (bytes x) → k < 4 → (e ≢ d) ⊎ (0 ≢ k) → entry_word x (clear_entry x e p) d k ≡ entry_word x p d k
  unfolding entry_word clear_entry
  word-other e d k p b c n =
      subst (λ (o : ℕ). word_at (bytes x) (put_word (bytes x) p o v) (entry_at (bytes x) d + bytes x * k) ≡ word_at (bytes x) p (entry_at (bytes x) d + bytes x * k)) at
      (entry-put-other (bytes x) p e 0 v b (omega arith) d k c n)
    where
      v : ℕ
      v = clear_pending x (entry_word x p e 0)

      at : entry_at (bytes x) e + bytes x * 0 ≡ entry_at (bytes x) e
      at = omega arith

  pub page-done : (e : ℕ) (p : List ℕ) → IsPage x p → IsPage x (clear_entry x e p)
  unfolding clear_entry
  page-done e p g = length-put (bytes x) p (entry_at (bytes x) e) (clear_pending x (entry_word x p e 0)) ∙ g

  pub pending-same : (e : ℕ) (p : List ℕ) → e < entry_count (bytes x) → IsPage x p → is_pending x (clear_entry x e p) e ≡ false
  unfolding is_pending
  pending-same e p b g = ap (pending x) (word_same e p b g) ∙ cleared-pending x (entry_word x p e 0)

  pub pending-other : (e d : ℕ) (p : List ℕ) → e < entry_count (bytes x) → d < entry_count (bytes x) → IsPage x p → eqb d e ≡ false
      → is_pending x (clear_entry x e p) d ≡ is_pending x p d
  unfolding is_pending
  pending-other e d p b c g n = ap (pending x) (word-other e d 0 p b (omega arith) (inl (differ e d n)))

  pub fence-done : (e d : ℕ) (p : List ℕ) → e < entry_count (bytes x) → d < entry_count (bytes x) → IsPage x p
      → fence_at x (clear_entry x e p) d ≡ fence_at x p d
  unfolding fence_at
  fence-done e d p b c g =
      rw (word-other e d 1 p b (omega arith) (inr (omega arith)), word-other e d 2 p b (omega arith) (inr (omega arith)), word-other e d 3 p b (omega arith) (inr (omega arith)))
      (⊎_elim
      (λ q. let y : d ≡ e = eqb-true d e q in
      ap (λ (w : ℕ). decoded x w (entry_word x p d 1) (entry_word x p d 2) (entry_word x p d 3))
      (subst (λ (z : ℕ). entry_word x (clear_entry x e p) z 0 ≡ clear_pending x (entry_word x p z 0)) (sym y) (word_same e p b g))
      ∙ pending-no-part x (entry_word x p d 0) (entry_word x p d 1) (entry_word x p d 2) (entry_word x p d 3))
      (λ n. ap (λ (w : ℕ). decoded x w (entry_word x p d 1) (entry_word x p d 2) (entry_word x p d 3)) (word-other e d 0 p b (omega arith) (inl (differ e d n))))
      (either (eqb d e)))
