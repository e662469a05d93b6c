-- What the four stores of an entry leave: its words, before the last one its Config as it was, and everything else of the page.
use mathlib.Core.Path.{◌≡◌, refl, sym, ap, ◌∙◌, subst}
use mathlib.Core.Bool.{Bool, true, false, cond, ◌&&◌, and-eq-true_iff}
use mathlib.Core.List.{List}
use mathlib.Core.Logic.{◌⊎◌, inl, inr, ◌≢◌}
use Prim.Native.Nat.{ℕ, zero, suc, ◌+◌, ◌*◌, ◌%◌, ◌^◌, ◌<◌}
use native.Mathlib.Omega.{arith}
use lib.Dec.{eqb, leb}
use lib.ListN.{take}
use Rattle.layout.specs.declared.xlen.Xlen.{Xlen}
use Rattle.layout.specs.Width.{bytes}
use Rattle.layout.specs.Geometry.{entry_at, entry_count}
use Rattle.layout.specs.Words.{put_word}
use Rattle.layout.proofs.WordLaws.{length-put}
use Rattle.layout.proofs.PageLaws.{entry-put-same, entry-put-other, entry-put-dirty, entry-put-csr}
use Rattle.layout.proofs.IndexLaws.{index-lt}
use Rattle.csr.specs.Csrs.{Csr, number}
use Rattle.hart.specs.WellMade.{fits_word}
use Rattle.page.specs.Registers.{IsPage, index, is_dirty, csr_word}
use Rattle.page.specs.Entries.{entry_word, is_pending, fence_at}
use Rattle.hypervisor.specs.declared.fences.Asked.{Asked}
use Rattle.hypervisor.specs.Fences.{max_vmid, max_asid, good_fence, of_range, config_of, fence_asked}
use Rattle.hypervisor.specs.Requests.{stored_all, entry_stores}
use Rattle.hypervisor.proofs.Round.{config-fits, config-pending, round_trip}
use Rattle.hypervisor.proofs.Stores.{word_fits}

module _ (x : Xlen) (e : ℕ) (b : e < entry_count (bytes x)) where
  -- a store to word k
  abbrev put : ℕ → ℕ → List ℕ → List ℕ
  put k v p = put_word (bytes x) p (entry_at (bytes x) e + bytes x * k) v

  -- is read back,
  word_same : (k v : ℕ) (p : List ℕ) → k < 4 → IsPage x p → v < 256 ^ bytes x → entry_word x (put k v p) e k ≡ v
  unfolding entry_word
  word_same k v p h g f = entry-put-same (bytes x) p e k v b h (omega arith) f

  -- leaves the other words of entries,
  word-other : (k v : ℕ) (p : List ℕ) (d l : ℕ) → k < 4 → l < 4 → (e ≢ d) ⊎ (k ≢ l) → entry_word x (put k v p) d l ≡ entry_word x p d l
  unfolding entry_word
  word-other k v p d l h m n = entry-put-other (bytes x) p e k v b h d l m n

  -- so Config, if it is no store to it,
  config-stays : (k v : ℕ) (p : List ℕ) → 0 < k → k < 4 → entry_word x (put k v p) e 0 ≡ entry_word x p e 0
  config-stays k v p n h = word-other k v p e 0 h (omega arith) (inr (omega arith))

  -- and keeps the page's length
  page-put : (k v : ℕ) (p : List ℕ) → IsPage x p → IsPage x (put k v p)
  page-put k v p g = length-put (bytes x) p (entry_at (bytes x) e + bytes x * k) v ∙ g

  module _ (a : Asked) (p : List ℕ) where
    -- Page_Number, Page_Count, word 2, one after the other
    abbrev p₁ : List ℕ
    p₁ = put 1 (of_range a a.number) p

    abbrev p₂ : List ℕ
    p₂ = put 3 (of_range a a.count) p₁

    abbrev p₃ : List ℕ
    p₃ = put 2 0 p₂

    -- and Config
    stores-are : stored_all x (entry_stores x a e) p ≡ put 0 (config_of x a) p₃
    unfolding stored_all entry_stores
    stores-are = ap (λ (o : ℕ). put_word (bytes x) p₃ o (config_of x a)) (omega arith)

    -- what a store to any word of the entry keeps
    keeps : (P : List ℕ → Type 0) → ((k v : ℕ) (q : List ℕ) → k < 4 → P q → P (put k v q)) → P p → P (stored_all x (entry_stores x a e) p)
    keeps P f h =
        subst P (sym stores-are) (f 0 _ _ (omega arith) (f 2 _ _ (omega arith) (f 3 _ _ (omega arith) (f 1 _ _ (omega arith) h))))

    -- every mark of a register,
    pub queued-dirty : (c : Csr) → is_dirty (stored_all x (entry_stores x a e) p) c ≡ is_dirty p c
    unfolding is_dirty
    queued-dirty c =
        keeps (λ q. is_dirty q c ≡ is_dirty p c) (λ k v q h s. entry-put-dirty (bytes x) q e k v b h (index c) (index-lt (number c)) ∙ s) refl

    -- every register's word,
    pub queued-csr : (c : Csr) → csr_word x (stored_all x (entry_stores x a e) p) c ≡ csr_word x p c
    unfolding csr_word
    queued-csr c = keeps (λ q. csr_word x q c ≡ csr_word x p c) (λ k v q h s. entry-put-csr (bytes x) q e k v b h (index c) ∙ s) refl

    -- and the words of every other entry
    pub queued-other : (d l : ℕ) → e ≢ d → l < 4 → entry_word x (stored_all x (entry_stores x a e) p) d l ≡ entry_word x p d l
    queued-other d l n m =
        keeps (λ q. entry_word x q d l ≡ entry_word x p d l) (λ k v q h s. word-other k v q d l h m (inl n) ∙ s) refl

    -- before the last store Config is as it was
    pub config-last : (n : ℕ) → n < 4 → entry_word x (stored_all x (take n (entry_stores x a e)) p) e 0 ≡ entry_word x p e 0
    unfolding stored_all entry_stores
    config-last zero h = refl
    config-last (suc zero) h = config-stays 1 _ p (omega arith) (omega arith)
    config-last (suc (suc zero)) h = config-stays 3 _ p₁ (omega arith) (omega arith) ∙ config-stays 1 _ p (omega arith) (omega arith)
    config-last (suc (suc (suc zero))) h =
        config-stays 2 0 p₂ (omega arith) (omega arith) ∙ config-stays 3 _ p₁ (omega arith) (omega arith)
        ∙ config-stays 1 _ p (omega arith) (omega arith)
    config-last (suc (suc (suc (suc n)))) h = absurd (omega arith)

    -- the entry's words
    module _ (g : IsPage x p) (number : of_range a a.number < 256 ^ bytes x) (count : of_range a a.count < 256 ^ bytes x)
        (config : config_of x a < 256 ^ bytes x) where
      g₁ : IsPage x p₁
      g₁ = page-put 1 _ p g

      g₂ : IsPage x p₂
      g₂ = page-put 3 _ p₁ g₁

      g₃ : IsPage x p₃
      g₃ = page-put 2 0 p₂ g₂

      -- a word that Config's store leaves
      at : (k : ℕ) {v : ℕ} → 0 < k → k < 4 → entry_word x p₃ e k ≡ v → entry_word x (stored_all x (entry_stores x a e) p) e k ≡ v
      at k n h s = ap (λ (q : List ℕ). entry_word x q e k) stores-are ∙ word-other 0 _ p₃ e k (omega arith) h (inr (omega arith)) ∙ s

      word-0 : entry_word x (stored_all x (entry_stores x a e) p) e 0 ≡ config_of x a
      word-0 = ap (λ (q : List ℕ). entry_word x q e 0) stores-are ∙ word_same 0 _ p₃ (omega arith) g₃ config

      word-1 : entry_word x (stored_all x (entry_stores x a e) p) e 1 ≡ of_range a a.number
      word-1 =
          at 1 (omega arith) (omega arith)
          (word-other 2 0 p₂ e 1 (omega arith) (omega arith) (inr (omega arith)) ∙ word-other 3 _ p₁ e 1 (omega arith) (omega arith) (inr (omega arith))
          ∙ word_same 1 _ p (omega arith) g number)

      word-2 : entry_word x (stored_all x (entry_stores x a e) p) e 2 ≡ 0
      word-2 = at 2 (omega arith) (omega arith) (word_same 2 0 p₂ (omega arith) g₂ (omega arith))

      word-3 : entry_word x (stored_all x (entry_stores x a e) p) e 3 ≡ of_range a a.count
      word-3 =
          at 3 (omega arith) (omega arith)
          (word-other 2 0 p₂ e 3 (omega arith) (omega arith) (inr (omega arith)) ∙ word_same 3 _ p₁ (omega arith) g₁ count)

-- ---- a good fence

-- what a range keeps of a number of 64 bits is one
range-wide : (a : Asked) (v : ℕ) → v < 2 ^ 64 → of_range a v < 2 ^ 64
range-wide a v h = go (eqb (a.kind % 2) 1)
  where
    go : (b : Bool) → cond b 0 v < 2 ^ 64
    go true = omega arith
    go false = h

-- what is stored as its Page_Number and Page_Count fits a word
good-fits : (x : Xlen) (a : Asked) → good_fence x a ≡ true → (fits_word x (of_range a a.number) ≡ true) × (fits_word x (of_range a a.count) ≡ true)
unfolding good_fence
good-fits x a t =
    let fields = leb a.kind 7 && leb a.order 127 && leb a.vmid (max_vmid x) && leb a.asid (max_asid x) in
    let (f, c) = (and-eq-true_iff (fields && fits_word x (of_range a a.number)) (fits_word x (of_range a a.count))).0 t in
    (((and-eq-true_iff fields (fits_word x (of_range a a.number))).0 f).1, c)

module _ (x : Xlen) (a : Asked) (t : good_fence x a ≡ true) (number : a.number < 2 ^ 64) (count : a.count < 2 ^ 64)
    (p : List ℕ) (g : IsPage x p) (e : ℕ) (b : e < entry_count (bytes x)) where
  number_fits : of_range a a.number < 256 ^ bytes x
  number_fits = word_fits x (of_range a a.number) (good-fits x a t).0 (range-wide a a.number number)

  count_fits : of_range a a.count < 256 ^ bytes x
  count_fits = word_fits x (of_range a a.count) (good-fits x a t).1 (range-wide a a.count count)

  -- its entry's words
  pub queued-config : entry_word x (stored_all x (entry_stores x a e) p) e 0 ≡ config_of x a
  queued-config = word-0 x e b a p g number_fits count_fits (config-fits x a t)

  pub queued-number : entry_word x (stored_all x (entry_stores x a e) p) e 1 ≡ of_range a a.number
  queued-number = word-1 x e b a p g number_fits count_fits (config-fits x a t)

  pub queued-zero : entry_word x (stored_all x (entry_stores x a e) p) e 2 ≡ 0
  queued-zero = word-2 x e b a p g number_fits count_fits (config-fits x a t)

  pub queued-count : entry_word x (stored_all x (entry_stores x a e) p) e 3 ≡ of_range a a.count
  queued-count = word-3 x e b a p g number_fits count_fits (config-fits x a t)

  -- it is Pending
  pub queued-pending : is_pending x (stored_all x (entry_stores x a e) p) e ≡ true
  unfolding is_pending
  queued-pending = rw queued-config (config-pending x a t)

  -- and decodes to the fence
  pub queued-fence : fence_at x (stored_all x (entry_stores x a e) p) e ≡ fence_asked a
  unfolding fence_at
  queued-fence = rw (queued-config, queued-number, queued-zero, queued-count) (round_trip x a t)
