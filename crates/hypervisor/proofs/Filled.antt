-- What the stores of the context leave: its words, and everything else of the page.
use mathlib.Core.Path.{◌≡◌, refl, ap, ◌∙◌}
use mathlib.Core.List.{List, [], ◌∷◌}
use mathlib.Core.Logic.{inl, inr}
use Prim.Native.Nat.{ℕ, zero, suc, ◌+◌, ◌*◌, ◌^◌, ◌≤◌, ◌<◌}
use native.Mathlib.Nat.{add-zero, mul-le-mul_left}
use native.Mathlib.Omega.{arith}
use lib.ListN.{length, get_or}
use Rattle.layout.specs.declared.xlen.Xlen.{Xlen}
use Rattle.layout.specs.declared.xlen.Xlen.TheVariants.{X32, X64}
use Rattle.layout.specs.Width.{bytes}
use Rattle.layout.specs.Geometry.{context_at, csr_at, entry_at}
use Rattle.layout.specs.Words.{word_at, put_word}
use Rattle.layout.proofs.WordLaws.{length-put, word-put-same, word-put-other}
use Rattle.layout.proofs.DirtyLaws as Bits
use Rattle.layout.proofs.IndexLaws.{index-lt}
use Rattle.csr.specs.Csrs.{Csr, number}
use Rattle.page.specs.Registers.{IsPage, index, is_dirty, csr_word}
use Rattle.page.specs.Entries.{entry_word}
use Rattle.hypervisor.specs.Requests.{stored_all, context_stores}

-- the context's words end where the autoswap begins
context-ends : (x : Xlen) (i : ℕ) → i < 32 → context_at (bytes x) i + bytes x ≤ 0x200
context-ends X32 i h = omega arith
context-ends X64 i h = omega arith

module _ (x : Xlen) where
  -- what a store up to there keeps
  keeps : (P : List ℕ → Type 0) → ((o v : ℕ) (q : List ℕ) → o + bytes x ≤ 0x200 → P q → P (put_word (bytes x) q o v))
      → (i : ℕ) (vs p : List ℕ) → i + length vs ≤ 32 → P p → P (stored_all x (context_stores x i vs) p)
  unfolding stored_all context_stores
  keeps P f i [] p b h = h
  keeps P f i (v ∷ vs) p b h =
      keeps P f (i + 1) vs (put_word (bytes x) p (context_at (bytes x) i) v) (omega arith)
      (f (context_at (bytes x) i) v p (context-ends x i (omega arith)) h)

  -- the words before those that are stored
  before-stay : (i : ℕ) (vs p : List ℕ) (k : ℕ) → k < i
      → word_at (bytes x) (stored_all x (context_stores x i vs) p) (context_at (bytes x) k) ≡ word_at (bytes x) p (context_at (bytes x) k)
  unfolding stored_all context_stores
  before-stay i [] p k h = refl
  before-stay i (v ∷ vs) p k h =
      before-stay (i + 1) vs (put_word (bytes x) p (context_at (bytes x) i) v) k (omega arith)
      ∙ word-put-other (bytes x) (bytes x) p (context_at (bytes x) i) v (context_at (bytes x) k) (inl (omega (arith, mul-le-mul_left (bytes x) h)))

  -- each word that is stored is read back
  pub filled-word : (i : ℕ) (vs p : List ℕ) (k : ℕ) → i + length vs ≤ 32 → IsPage x p → ((j : ℕ) → get_or vs j 0 < 256 ^ bytes x) → k < length vs
      → word_at (bytes x) (stored_all x (context_stores x i vs) p) (context_at (bytes x) (i + k)) ≡ get_or vs k 0
  unfolding stored_all context_stores
  filled-word i [] p k b g f h = absurd (omega arith)
  filled-word i (v ∷ vs) p zero b g f h =
      let q = put_word (bytes x) p (context_at (bytes x) i) v in
      ap (λ (n : ℕ). word_at (bytes x) (stored_all x (context_stores x (i + 1) vs) q) (context_at (bytes x) n)) (add-zero i)
      ∙ before-stay (i + 1) vs q i (omega arith)
      ∙ word-put-same (bytes x) p (context_at (bytes x) i) v (omega (arith, context-ends x i (omega arith))) (f 0)
  filled-word i (v ∷ vs) p (suc k) b g f h =
      let q = put_word (bytes x) p (context_at (bytes x) i) v in
      let at : i + suc k ≡ i + 1 + k = omega arith in
      ap (λ (n : ℕ). word_at (bytes x) (stored_all x (context_stores x (i + 1) vs) q) (context_at (bytes x) n)) at
      ∙ filled-word (i + 1) vs q k (omega arith) (length-put (bytes x) p (context_at (bytes x) i) v ∙ g) (λ j. f (suc j)) (omega arith)

  module _ (i : ℕ) (vs p : List ℕ) (b : i + length vs ≤ 32) where
    -- every mark of a register stays,
    pub filled-dirty : (c : Csr) → is_dirty (stored_all x (context_stores x i vs) p) c ≡ is_dirty p c
    unfolding is_dirty
    filled-dirty c =
        keeps (λ q. is_dirty q c ≡ is_dirty p c)
        (λ o v q h s. Bits.dirty-put (bytes x) q o v (index c) (index-lt (number c)) (inl (omega arith)) ∙ s) i vs p b refl

    -- every register's word,
    pub filled-csr : (c : Csr) → csr_word x (stored_all x (context_stores x i vs) p) c ≡ csr_word x p c
    unfolding csr_word
    filled-csr c =
        keeps (λ q. csr_word x q c ≡ csr_word x p c)
        (λ o v q h s. word-put-other (bytes x) (bytes x) q o v (csr_at (bytes x) (index c)) (inr (omega arith)) ∙ s) i vs p b refl

    -- and every entry's
    pub filled-entry : (e k : ℕ) → entry_word x (stored_all x (context_stores x i vs) p) e k ≡ entry_word x p e k
    unfolding entry_word
    filled-entry e k =
        keeps (λ q. entry_word x q e k ≡ entry_word x p e k)
        (λ o v q h s. word-put-other (bytes x) (bytes x) q o v (entry_at (bytes x) e + bytes x * k) (inr (omega arith)) ∙ s) i vs p b refl
