-- Memory keeps its length, and only the bytes that may change do; of those, the bits that belong to no mark stay.
use mathlib.Core.Path.{◌≡◌, refl, sym, ap, ◌∙◌, subst}
use mathlib.Core.Bool.{Bool, true, false, ◌&&◌, true≢false}
use mathlib.Core.List.{List, Memᴰ}
use mathlib.Core.Logic.{◌⊎◌, inl, inr, ⊎_elim, ◌≢◌}
use Prim.Native.Nat.{ℕ, ◌+◌, ◌%◌, ◌^◌, ◌≤◌, ◌<◌}
use native.Mathlib.Omega.{arith}
use lib.Dec.{eqb, leb, ltb}
use lib.ListN.{length, get_or}
use borrow.Author.Tests.{eqb-true, eqb-false, leb-false, ltb-false}
use Rattle.layout.specs.Width.{bytes}
use Rattle.layout.specs.declared.xlen.Xlen.{Xlen}
use Rattle.layout.specs.declared.xlen.Xlen.TheVariants.{X32, X64}
use Rattle.layout.specs.Geometry.{csr_at, dirty_at, entry_at, entry_count, page_size, swap_at}
use Rattle.layout.specs.Dirty.{dirty}
use Rattle.layout.proofs.WordLaws.{byte-put-other}
use Rattle.layout.proofs.DirtyLaws as Bits
use Rattle.csr.specs.Csrs.{Csr}
use Rattle.fence.specs.Entry.{clear_pending}
use Rattle.page.specs.Registers.{IsPage, index, clear_mark, put_csr}
use Rattle.page.specs.Entries.{entry_word, clear_entry}
use Rattle.page.proofs.EntryLaws.{word_same, word-other}
use Rattle.world.specs.World.{World, offset}
use Rattle.world.proofs.MemoryLaws.{part-byte, with-length, outside-stays}
use Rattle.turns.proofs.Truth.{either, neither}
use Rattle.checks.specs.Checks.{check7}
use Rattle.claims.specs.Events.{Event, blanks, left_by, marks_asked, words_allowed, swap_allowed, page_in}
use Rattle.claims.specs.Claims.{of_word, of_mark, of_swap, any_of, may_change, BytesLeft, OtherBytesStay}
use Rattle.claims.proofs.Edits.{Keeps}
use Rattle.claims.proofs.Left.{Left, same, other, memory-left, page-left}
use Rattle.claims.proofs.Marks.{bit-put, bit-done, bit-swap, config-put, config-clear, config-swap}

-- a byte that is not one of the eight from a on is before or after them
pub apart : (xlen : Xlen) (a j : ℕ) → (leb a j && ltb j (a + bytes xlen)) ≡ false → (j < a) ⊎ (a + bytes xlen ≤ j)
apart xlen a j e = ⊎_elim (λ t. inr (ltb-false j (a + bytes xlen) (rw t at e))) (λ f. inl (leb-false a j f)) (either (leb a j))

-- what holds of none of a list does not hold of one of it
pub of_none : {A : Type 0} (f : A → Bool) {a : A} {xs : List A} → any_of f xs ≡ false → Memᴰ a xs → f a ≡ false
unfolding any_of
of_none f e (Memᴰ.head {x} {xs} q) = ap f q ∙ (neither (f x) (any_of f xs) e).0
of_none f e (Memᴰ.tail {x} {xs} i) = of_none f (neither (f x) (any_of f xs) e).1 i

module _ (x : Event) (w : World) (b : blanks x w ≡ false) where
  -- the bytes outside the page
  module _ (m : List ℕ) where
    size_of : Left w (λ q. Unit {0}) m → length m ≡ length w.memory
    size_of (same e) = ap length e
    size_of (other q t r (g, y) e) = ap length e ∙ with-length (page_size (bytes w.hart.xlen)) (offset w) w.memory r q g

    no-page : check7 w ≡ false → Left w (λ q. Unit {0}) m → m ≡ w.memory
    no-page n (same e) = e
    no-page n (other q t r (g, y) e) = absurd (true≢false (sym t ∙ n))

    outside_of : Left w (λ q. Unit {0}) m → (j : ℕ) → (j < offset w) ⊎ (offset w + page_size (bytes w.hart.xlen) ≤ j) → get_or m j 0 ≡ get_or w.memory j 0
    outside_of (same e) j o = ap (λ (l : List ℕ). get_or l j 0) e
    outside_of (other q t r (g, y) e) j o = ap (λ (l : List ℕ). get_or l j 0) e ∙ outside-stays (page_size (bytes w.hart.xlen)) (offset w) w.memory r q g j o

  any-page : Left w (λ q. Unit {0}) (left_by x w).memory
  any-page =
      memory-left x w b (λ q. Unit {0})
      (record { put = λ c v p i g q. tt; clear = λ c p i g q. tt; done = λ e p i b g q. tt; swap = λ v p t g q. tt }) tt

  -- the bytes of the page
  module _ (k : ℕ) (n : may_change x w k ≡ false) where
    no_word : any_of (of_word w.hart.xlen k) (words_allowed x w) ≡ false
    no_word = (neither (any_of (of_word w.hart.xlen k) (words_allowed x w)) _ n).0

    no-mark : any_of (of_mark w.hart.xlen k) (marks_asked x w) ≡ false
    no-mark = (neither (any_of (of_mark w.hart.xlen k) (marks_asked x w)) _ (neither (any_of (of_word w.hart.xlen k) (words_allowed x w)) _ n).1).0

    no-swap : (swap_allowed x w && of_swap w.hart.xlen k) ≡ false
    no-swap = (neither (any_of (of_mark w.hart.xlen k) (marks_asked x w)) _ (neither (any_of (of_word w.hart.xlen k) (words_allowed x w)) _ n).1).1

    byte-kept : Keeps w.hart.xlen (words_allowed x w) (marks_asked x w) (swap_allowed x w) (λ q. get_or q k 0 ≡ get_or (page_in w w) k 0)
    unfolding put_csr clear_mark clear_entry
    byte-kept =
        record {
          put = λ c v p i g q. byte-put-other (bytes w.hart.xlen) p (csr_at (bytes w.hart.xlen) (index c)) v k (apart w.hart.xlen (csr_at (bytes w.hart.xlen) (index c)) k (of_none (of_word w.hart.xlen k) no_word i)) ∙ q;
          clear = λ c p i g q. Bits.byte-clear-other p (index c) k (eqb-false k (dirty_at (index c)) (of_none (of_mark w.hart.xlen k) no-mark i)) ∙ q;
          done = λ e p i b g q. byte-put-other (bytes w.hart.xlen) p (entry_at (bytes w.hart.xlen) e) (clear_pending w.hart.xlen (entry_word w.hart.xlen p e 0)) k (apart w.hart.xlen (entry_at (bytes w.hart.xlen) e) k (of_none (of_mark w.hart.xlen k) no-mark i)) ∙ q;
          swap = λ v p t g q. byte-put-other (bytes w.hart.xlen) p (swap_at (bytes w.hart.xlen)) v k (apart w.hart.xlen (swap_at (bytes w.hart.xlen)) k (rw t at no-swap)) ∙ q;
        }

    inside_of : k < page_size (bytes w.hart.xlen) → get_or (left_by x w).memory (offset w + k) 0 ≡ get_or w.memory (offset w + k) 0
    inside_of l =
        sym (part-byte (page_size (bytes w.hart.xlen)) (offset w) (left_by x w).memory k l)
        ∙ page-left x w b (λ q. get_or q k 0 ≡ get_or (page_in w w) k 0) byte-kept refl ∙ part-byte (page_size (bytes w.hart.xlen)) (offset w) w.memory k l

  -- the bits that belong to no mark
  bits_of : (i : ℕ) → i < 1024 → ((c : Csr) → index c ≢ i) → dirty (page_in w (left_by x w)) i ≡ dirty (page_in w w) i
  unfolding clear_mark
  bits_of i l n =
      page-left x w b (λ q. dirty q i ≡ dirty (page_in w w) i)
      (record {
        put = λ c v p m g q. bit-put w.hart.xlen c v p i l ∙ q;
        clear = λ c p m g q. Bits.dirty-clear-other p (index c) i (n c) ∙ q;
        done = λ e p m a g q. bit-done w.hart.xlen e p i a l ∙ q;
        swap = λ v p t g q. bit-swap w.hart.xlen v p i l ∙ q;
      })
      refl

-- Pending cleared twice
cleared-twice : (xlen : Xlen) (y : ℕ) → clear_pending xlen (clear_pending xlen y) ≡ clear_pending xlen y
cleared-twice X32 y = omega arith
cleared-twice X64 y = omega arith

module _ (xlen : Xlen) (e : ℕ) (b : e < entry_count (bytes xlen)) where
  -- the bits of Config but Pending
  abbrev others : List ℕ → ℕ
  others p = clear_pending xlen (entry_word xlen p e 0)

  low : {y z : ℕ} → y ≡ z → clear_pending xlen y ≡ clear_pending xlen z
  low q = ap (clear_pending xlen) q

  others-done : (d : ℕ) (p : List ℕ) → d < entry_count (bytes xlen) → IsPage xlen p → others (clear_entry xlen d p) ≡ others p
  others-done d p a g =
      ⊎_elim (λ q. subst (λ (y : ℕ). others (clear_entry xlen y p) ≡ others p) (sym (eqb-true d e q)) (low (word_same xlen e p b g) ∙ cleared-twice xlen (entry_word xlen p e 0)))
      (λ n. low (word-other xlen d e 0 p a (omega arith) (inl (eqb-false d e n)))) (either (eqb d e))

config-of : (x : Event) (w : World) → blanks x w ≡ false → (e : ℕ) (b : e < entry_count (bytes w.hart.xlen)) → let f = others w.hart.xlen e b in f (page_in w (left_by x w)) ≡ f (page_in w w)
config-of x w k e b =
    let xl = w.hart.xlen in
    page-left x w k (λ q. others xl e b q ≡ others xl e b (page_in w w))
    (record {
      put = λ c v p i g q. low xl e b (config-put xl e b c v p) ∙ q;
      clear = λ c p i g q. low xl e b (config-clear xl e b c p) ∙ q;
      done = λ d p i a g q. others-done xl e b d p a g ∙ q;
      swap = λ v p t g q. low xl e b (config-swap xl e b v p) ∙ q;
    })
    refl

pub other-bytes-stay : OtherBytesStay
other-bytes-stay x w b =
    record {
      size = size_of x w b (left_by x w).memory (any-page x w b);
      no-page = λ n. no-page x w b (left_by x w).memory n (any-page x w b);
      outside = outside_of x w b (left_by x w).memory (any-page x w b);
      inside = λ k l n. inside_of x w b k n l;
      dirty-bits = bits_of x w b;
      config-bits = config-of x w b;
    }
