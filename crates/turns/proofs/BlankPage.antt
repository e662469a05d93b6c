-- The blank page: no mark, each register's word at its reading, every other byte zero.
use mathlib.Core.Path.{◌≡◌, refl, sym, ap, ◌∙◌, subst}
use mathlib.Core.Bool.{Bool, true, false}
use mathlib.Core.List.{List, [], ◌∷◌, Memᴰ}
use mathlib.Core.Logic.{◌⊎◌}
use Prim.Native.Nat.{ℕ, zero, suc, ◌+◌, ◌*◌, ◌/◌, ◌%◌, ◌^◌, ◌≤◌, ◌<◌}
use native.Mathlib.Nat.{zero-div}
use native.Mathlib.Omega.{arith}
use lib.Dec.{eqb}
use lib.ListN.{length, get_or, replicate, length-replicate}
use Rattle.layout.specs.declared.xlen.Xlen.{Xlen}
use Rattle.layout.specs.declared.xlen.Xlen.TheVariants.{X32, X64}
use Rattle.layout.specs.Width.{bits, bytes}
use Rattle.layout.specs.Geometry.{csr_at, dirty_at, entry_at, entry_count, page_size}
use Rattle.layout.specs.Words.{word_at}
use Rattle.layout.proofs.WordLaws.{byte-put-other}
use Rattle.csr.specs.Csrs.{Csr, turn_order}
use Rattle.fence.specs.Entry.{pending}
use Rattle.hart.specs.declared.record.Hart.{Hart}
use Rattle.hart.specs.Registers.{read}
use Rattle.hart.proofs.Frame.{member as mem}
use Rattle.hart.proofs.Shape.{Words}
use Rattle.hart.proofs.Fits.{read_fits}
use Rattle.page.specs.Registers.{IsPage, index, is_dirty, csr_word, put_csr}
use Rattle.page.specs.Entries.{entry_word, is_pending}
use Rattle.turns.specs.Blank.{put_all, blank}
use Rattle.turns.proofs.Puts as Puts
use Rattle.turns.proofs.Holds.{laws}
use Rattle.turns.proofs.Apart.{put_all-pending}
use Rattle.turns.proofs.Leaves.{word-put-own}

-- bytes, words and bits of zeroes
zero-byte : (n i : ℕ) → get_or {A = ℕ} (replicate n 0) i 0 ≡ 0
zero-byte zero i = refl
zero-byte (suc n) zero = refl
zero-byte (suc n) (suc i) = zero-byte n i

zero_word : (w n o : ℕ) → word_at w (replicate n 0) o ≡ 0
zero_word zero n o = refl
zero_word (suc w) n o = rw (zero-byte n o, zero_word w n (o + 1))

zero_bit : (k : ℕ) → eqb (0 / 2 ^ k % 2) 1 ≡ false
zero_bit k = rw (zero-div (2 ^ k))

zero-pending : (xlen : Xlen) → pending xlen 0 ≡ false
zero-pending X32 = refl
zero-pending X64 = refl

-- stores leave a byte that belongs to none of the words
puts-byte : (xlen : Xlen) (cs : List Csr) (h : Hart) (p : List ℕ) (k : ℕ)
    → ((c : Csr) → Memᴰ c cs → (k < csr_at (bytes xlen) (index c)) ⊎ (csr_at (bytes xlen) (index c) + bytes xlen ≤ k))
    → get_or (put_all xlen cs h p) k 0 ≡ get_or p k 0
unfolding put_all put_csr
puts-byte xlen [] h p k n = refl
puts-byte xlen (c ∷ cs) h p k n =
    puts-byte xlen cs h (put_csr xlen c (read c h) p) k (λ d i. n d (Memᴰ.tail i))
    ∙ byte-put-other (bytes xlen) p (csr_at (bytes xlen) (index c)) (read c h) k (n c (Memᴰ.head refl))

module _ (xlen : Xlen) (h : Hart) where
  zeroes-page : IsPage xlen (replicate (page_size (bytes xlen)) 0)
  zeroes-page = length-replicate (page_size (bytes xlen)) 0

  pub blank-page : IsPage xlen (blank xlen h)
  unfolding blank
  blank-page = Puts.put_all-page xlen (laws xlen) (turn_order xlen) h _ zeroes-page

  pub blank-dirty : (c : Csr) → is_dirty (blank xlen h) c ≡ false
  unfolding blank
  blank-dirty c = Puts.put_all-dirty xlen (laws xlen) (turn_order xlen) h _ c zeroes-page ∙ (unfold is_dirty in rw (zero-byte (page_size (bytes xlen)) (dirty_at (index c))) (zero_bit (index c % 8)))

  pub blank-pending : (e : ℕ) → e < entry_count (bytes xlen) → is_pending xlen (blank xlen h) e ≡ false
  unfolding blank entry_word
  blank-pending e b = put_all-pending xlen (turn_order xlen) h _ e b ∙ (unfold is_pending in rw (zero_word (bytes xlen) (page_size (bytes xlen)) (entry_at (bytes xlen) e + bytes xlen * 0)) (zero-pending xlen))

  pub blank-word : (c : Csr) → Words h → h.xlen ≡ xlen → mem c (turn_order xlen) ≡ true → csr_word xlen (blank xlen h) c ≡ read c h
  unfolding blank
  blank-word c k e m =
      ap (λ (q : List ℕ). csr_word xlen q c) (sym (Puts.stays xlen (laws xlen) (turn_order xlen) h _ c zeroes-page m))
      ∙ word-put-own xlen c (read c h) _ (Puts.put_all-page xlen (laws xlen) (turn_order xlen) h _ zeroes-page)
      (subst (λ (y : Xlen). read c h < 2 ^ bits y) e (read_fits c h k))

  pub blank-byte : (k : ℕ) → ((c : Csr) → Memᴰ c (turn_order xlen) → (k < csr_at (bytes xlen) (index c)) ⊎ (csr_at (bytes xlen) (index c) + bytes xlen ≤ k))
      → get_or (blank xlen h) k 0 ≡ 0
  unfolding blank
  blank-byte k n = puts-byte xlen (turn_order xlen) h _ k n ∙ zero-byte (page_size (bytes xlen)) k
