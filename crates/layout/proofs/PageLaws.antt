-- The page's parts are apart, and a page is known by them. Over the word size w.
use mathlib.Core.Path.{◌≡◌, refl, sym, ◌∙◌}
use mathlib.Core.Logic.{◌≢◌, ◌⊎◌, inl, inr, ⊎_elim}
use mathlib.Core.List.{List}
use Prim.Native.Nat.{ℕ, zero, suc, ◌+◌, ◌-◌, ◌*◌, ◌/◌, ◌%◌, ◌^◌, ◌≤◌, ◌<◌}
use native.Mathlib.Nat.{mul-le-mul_left, mul-div-le}
use native.Mathlib.Omega.{arith}
use native.Mathlib.Decide.{dec_lt}
use lib.ListN.{length, get_or}
use lib.Seq.{ext_get_or}
use Rattle.layout.specs.Bits.{bit_of}
use Rattle.layout.specs.Geometry.{context_at, entry_at, entry_count, dirty_at, csr_at, page_size}
use Rattle.layout.specs.Words.{word_at, put_word}
use Rattle.layout.specs.Dirty.{dirty}
use Rattle.layout.proofs.BitLaws.{byte-ext, bit_test}
use Rattle.layout.proofs.WordLaws.{Bytes, byte-put-other, word-inj, word-put-same, word-put-other}
use Rattle.layout.proofs.DirtyLaws.{OffBitmap, dirty-put}

-- word k of fence entry e
abbrev pub entry_word : ℕ → ℕ → ℕ → ℕ
entry_word w e k = entry_at w e + w * k

-- ---- where the parts lie

-- words i and j of a run of words that starts at a
run-apart : (w a i j : ℕ) → i ≢ j → (a + w * j + w ≤ a + w * i) ⊎ (a + w * i + w ≤ a + w * j)
run-apart w a i j n = at (dec_lt i j)
  where
    at : Dec (i < j) → (a + w * j + w ≤ a + w * i) ⊎ (a + w * i + w ≤ a + w * j)
    at (yes l) = inr (omega (arith, mul-le-mul_left w l))
    at (no l) = inl (let h : suc j ≤ i = omega arith in omega (arith, mul-le-mul_left w h))

-- the entries' words are one run
entry-run : (w e k : ℕ) → entry_word w e k ≡ 0x800 + w * (4 * e + k)
entry-run w e k = omega arith

module _ (w : ℕ) where
  -- a CSR word lies in the page,
  pub csr-fits : (p : List ℕ) (i : ℕ) → i < 1024 → length p ≡ page_size w → csr_at w i + w ≤ length p
  csr-fits p i h e = omega (arith, mul-le-mul_left w h)

  -- past the dirty bitmap
  pub csr-off : (i : ℕ) → OffBitmap w (csr_at w i)
  csr-off i = inr (omega arith)

  -- an entry's word ends before the dirty bitmap,
  pub entry-end : (e k : ℕ) → e < entry_count w → k < 4 → entry_word w e k + w ≤ 0xF80
  entry-end e k he hk = omega (arith, mul-le-mul_left w hk, mul-le-mul_left (4 * w) he, mul-div-le 0x780 (4 * w))

  -- so it is apart from it
  pub entry-off : (e k : ℕ) → e < entry_count w → k < 4 → OffBitmap w (entry_word w e k)
  entry-off e k he hk = inl (entry-end e k he hk)

  -- two CSR words are apart
  pub csr-apart : (i j : ℕ) → i ≢ j → (csr_at w j + w ≤ csr_at w i) ⊎ (csr_at w i + w ≤ csr_at w j)
  csr-apart i j n = run-apart w 0x1000 i j n

  -- two words of entries are apart
  pub entry-apart : (e k d l : ℕ) → k < 4 → l < 4 → (e ≢ d) ⊎ (k ≢ l)
      → (entry_word w d l + w ≤ entry_word w e k) ⊎ (entry_word w e k + w ≤ entry_word w d l)
  entry-apart e k d l hk hl n =
      rw (entry-run w e k, entry-run w d l) (run-apart w 0x800 (4 * e + k) (4 * d + l) (⊎_elim (λ m. omega arith) (λ m. omega arith) n))

  -- ---- a store to CSR word i

  module _ (p : List ℕ) (i v : ℕ) where
    -- is read back,
    pub csr-put-same : i < 1024 → length p ≡ page_size w → v < 256 ^ w → word_at w (put_word w p (csr_at w i) v) (csr_at w i) ≡ v
    csr-put-same h e b = word-put-same w p (csr_at w i) v (csr-fits p i h e) b

    -- leaves the other CSR words,
    pub csr-put-other : (j : ℕ) → i ≢ j → word_at w (put_word w p (csr_at w i) v) (csr_at w j) ≡ word_at w p (csr_at w j)
    csr-put-other j n = word-put-other w w p (csr_at w i) v (csr_at w j) (csr-apart i j n)

    -- every dirty bit,
    pub csr-put-dirty : (j : ℕ) → j < 1024 → dirty (put_word w p (csr_at w i) v) j ≡ dirty p j
    csr-put-dirty j h = dirty-put w p (csr_at w i) v j h (csr-off i)

    -- every byte below the CSR space,
    pub csr-put-byte : (j : ℕ) → j < 0x1000 → get_or (put_word w p (csr_at w i) v) j 0 ≡ get_or p j 0
    csr-put-byte j h = byte-put-other w p (csr_at w i) v j (inl (omega arith))

    -- every word there,
    pub csr-put-below : (u r : ℕ) → r + u ≤ 0x1000 → word_at u (put_word w p (csr_at w i) v) r ≡ word_at u p r
    csr-put-below u r h = word-put-other w u p (csr_at w i) v r (inl (omega arith))

    -- so every word of an entry
    pub csr-put-entry : (e k : ℕ) → e < entry_count w → k < 4
        → word_at w (put_word w p (csr_at w i) v) (entry_word w e k) ≡ word_at w p (entry_word w e k)
    csr-put-entry e k he hk = csr-put-below w (entry_word w e k) (omega (arith, entry-end e k he hk))

    -- and every word of the context
    pub csr-put-context : (k : ℕ) → context_at w k + w ≤ 0x200
        → word_at w (put_word w p (csr_at w i) v) (context_at w k) ≡ word_at w p (context_at w k)
    csr-put-context k h = csr-put-below w (context_at w k) (omega arith)

  -- ---- a store to word k of entry e

  module _ (p : List ℕ) (e k v : ℕ) (he : e < entry_count w) (hk : k < 4) where
    -- is read back,
    pub entry-put-same : 0xF80 ≤ length p → v < 256 ^ w → word_at w (put_word w p (entry_word w e k) v) (entry_word w e k) ≡ v
    entry-put-same h b = word-put-same w p (entry_word w e k) v (omega (arith, entry-end e k he hk)) b

    -- leaves the other words of entries,
    pub entry-put-other : (d l : ℕ) → l < 4 → (e ≢ d) ⊎ (k ≢ l)
        → word_at w (put_word w p (entry_word w e k) v) (entry_word w d l) ≡ word_at w p (entry_word w d l)
    entry-put-other d l hl n = word-put-other w w p (entry_word w e k) v (entry_word w d l) (entry-apart e k d l hk hl n)

    -- every dirty bit,
    pub entry-put-dirty : (j : ℕ) → j < 1024 → dirty (put_word w p (entry_word w e k) v) j ≡ dirty p j
    entry-put-dirty j h = dirty-put w p (entry_word w e k) v j h (entry-off e k he hk)

    -- every CSR word,
    pub entry-put-csr : (i : ℕ) → word_at w (put_word w p (entry_word w e k) v) (csr_at w i) ≡ word_at w p (csr_at w i)
    entry-put-csr i = word-put-other w w p (entry_word w e k) v (csr_at w i) (inr (omega (arith, entry-end e k he hk)))

    -- every byte below the entries,
    pub entry-put-byte : (j : ℕ) → j < 0x800 → get_or (put_word w p (entry_word w e k) v) j 0 ≡ get_or p j 0
    entry-put-byte j h = byte-put-other w p (entry_word w e k) v j (inl (omega arith))

    -- every word there,
    pub entry-put-below : (u r : ℕ) → r + u ≤ 0x800 → word_at u (put_word w p (entry_word w e k) v) r ≡ word_at u p r
    entry-put-below u r h = word-put-other w u p (entry_word w e k) v r (inl (omega arith))

    -- so every word of the context
    pub entry-put-context : (j : ℕ) → context_at w j + w ≤ 0x200
        → word_at w (put_word w p (entry_word w e k) v) (context_at w j) ≡ word_at w p (context_at w j)
    entry-put-context j h = entry-put-below w (context_at w j) (omega arith)

-- ---- a page is known by its parts

-- at XLEN 64 the entries fill their part of the page
pub entries-fill-64 : 4 * 8 * entry_count 8 ≡ 0x780
entries-fill-64 = refl

-- and at XLEN 32
pub entries-fill-32 : 4 * 4 * entry_count 4 ≡ 0x780
entries-fill-32 = refl

module _ (p q : List ℕ) (bp : Bytes p) (bq : Bytes q) where
  -- equal words of a run make its bytes equal
  run-bytes : (w a n : ℕ) → ((i : ℕ) → i < n → word_at w p (a + w * i) ≡ word_at w q (a + w * i))
      → (j : ℕ) → a ≤ j → j < a + w * n → get_or p j 0 ≡ get_or q j 0
  run-bytes w a zero h j l m = absurd (omega arith)
  run-bytes w a (suc n) h j l m = at (run-bytes w a n (λ i b. h i (omega arith)) j l) (dec_lt j (a + w * n))
    where
      at : (j < a + w * n → get_or p j 0 ≡ get_or q j 0) → Dec (j < a + w * n) → get_or p j 0 ≡ get_or q j 0
      at before (yes b) = before b
      at before (no b) =
          let o : ℕ = a + w * n in
          let back : o + (j - o) ≡ j = omega arith in
          rw back at (word-inj w p q o o bp bq (h n (omega arith)) (j - o) (omega arith))

  -- equal dirty bits make the bitmap's bytes equal
  bitmap-bytes : ((i : ℕ) → i < 1024 → dirty p i ≡ dirty q i) → (j : ℕ) → 0xF80 ≤ j → j < 0x1000 → get_or p j 0 ≡ get_or q j 0
  bitmap-bytes h j l m = byte-ext (get_or p j 0) (get_or q j 0) (bp j) (bq j) bit
    where
      bit : (k : ℕ) → k < 8 → bit_of (get_or p j 0) k ≡ bit_of (get_or q j 0) k
      bit k b =
          let i : ℕ = 8 * (j - 0xF80) + k in
          let byte : dirty_at i ≡ j = omega arith in
          let place : i % 8 ≡ k = omega arith in
          rw (byte, place) at (bit_test (get_or p (dirty_at i) 0) (get_or q (dirty_at i) 0) (i % 8) (i % 8) (h i (omega arith)))

  -- equal words of all entries make their bytes equal, where the entries fill their part of the page
  entry-bytes : (w : ℕ) → 4 * w * entry_count w ≡ 0x780
      → ((e k : ℕ) → e < entry_count w → k < 4 → word_at w p (entry_word w e k) ≡ word_at w q (entry_word w e k))
      → (j : ℕ) → 0x800 ≤ j → j < 0xF80 → get_or p j 0 ≡ get_or q j 0
  entry-bytes w fill h j l m = run-bytes w 0x800 (4 * entry_count w) word j l (omega arith)
    where
      word : (i : ℕ) → i < 4 * entry_count w → word_at w p (0x800 + w * i) ≡ word_at w q (0x800 + w * i)
      word i b =
          let parts : 4 * (i / 4) + i % 4 ≡ i = omega arith in
          rw (entry-run w (i / 4) (i % 4), parts) at (h (i / 4) (i % 4) (omega arith) (omega arith))

  -- a page is known by its bytes below the entries, its entries' words, its dirty bits and its CSR words
  pub page-ext : (w : ℕ) → 4 * w * entry_count w ≡ 0x780 → length p ≡ page_size w → length q ≡ page_size w
      → ((j : ℕ) → j < 0x800 → get_or p j 0 ≡ get_or q j 0)
      → ((e k : ℕ) → e < entry_count w → k < 4 → word_at w p (entry_word w e k) ≡ word_at w q (entry_word w e k))
      → ((i : ℕ) → i < 1024 → dirty p i ≡ dirty q i)
      → ((i : ℕ) → i < 1024 → word_at w p (csr_at w i) ≡ word_at w q (csr_at w i))
      → p ≡ q
  page-ext w fill lp lq low entry bit word =
      ext_get_or 0 p q (lp ∙ sym lq) (λ j l. at j l (dec_lt j 0x800) (dec_lt j 0xF80) (dec_lt j 0x1000))
    where
      at : (j : ℕ) → j < length p → Dec (j < 0x800) → Dec (j < 0xF80) → Dec (j < 0x1000) → get_or p j 0 ≡ get_or q j 0
      at j l (yes a) d e = low j a
      at j l (no a) (yes b) e = entry-bytes w fill entry j (omega arith) b
      at j l (no a) (no b) (yes c) = bitmap-bytes bit j (omega arith) c
      at j l (no a) (no b) (no c) = run-bytes w 0x1000 1024 word j (omega arith) (omega arith)
