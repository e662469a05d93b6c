-- Marks that are not asked for stay, and none is set.
use mathlib.Core.Path.{◌≡◌, refl, ap, ◌∙◌}
use mathlib.Core.Bool.{false}
use mathlib.Core.List.Memᴰ
use mathlib.Core.List.{List, Memᴰ}
use mathlib.Core.Logic.{◌⊎◌, inl, inr, ⊎_elim}
use Prim.Native.Nat.{ℕ, ◌+◌, ◌*◌, ◌<◌}
use native.Mathlib.Omega.{arith}
use lib.Dec.{eqb}
use borrow.Author.Tests.{eqb-true}
use Rattle.claims.proofs.Places.{swap_ends, config-ends}
use Rattle.layout.specs.Width.{bytes}
use Rattle.layout.specs.declared.xlen.Xlen.{Xlen}
use Rattle.layout.specs.Geometry.{csr_at, entry_at, entry_count, swap_at}
use Rattle.layout.specs.Words.{put_word}
use Rattle.layout.specs.Dirty.{dirty}
use Rattle.layout.proofs.WordLaws.{word-put-other}
use Rattle.layout.proofs.PageLaws.{csr-off}
use Rattle.layout.proofs.DirtyLaws as Bits
use Rattle.layout.proofs.IndexLaws.{index-lt}
use Rattle.csr.specs.Csrs.{Csr, number}
use Rattle.fence.specs.Entry.{pending, clear_pending}
use Rattle.page.specs.Registers.{IsPage, index, is_dirty, clear_mark, put_csr}
use Rattle.page.specs.Entries.{entry_word, is_pending, clear_entry}
use Rattle.page.proofs.RegisterLaws as Registers
use Rattle.page.proofs.EntryLaws as Entries
use Rattle.world.specs.World.{World}
use Rattle.turns.specs.Marks.{Mark, Dirty, Pending, is_marked}
use Rattle.turns.proofs.Truth.{either}
use Rattle.claims.specs.Events.{Event, blanks, left_by, marks_asked, page_in}
use Rattle.claims.specs.Claims.{IsMark, MarkLeft, OtherMarksStay}
use Rattle.claims.proofs.Left.{page-left}

-- ---- a dirty bit, by its index, and a Config after an edit elsewhere

pub bit-put : (xlen : Xlen) (c : Csr) (v : ℕ) (p : List ℕ) (i : ℕ) → i < 1024 → dirty (put_csr xlen c v p) i ≡ dirty p i
unfolding put_csr
bit-put xlen c v p i b = Bits.dirty-put (bytes xlen) p (csr_at (bytes xlen) (index c)) v i b (csr-off (bytes xlen) (index c))

pub bit-done : (xlen : Xlen) (e : ℕ) (p : List ℕ) (i : ℕ) → e < entry_count (bytes xlen) → i < 1024 → dirty (clear_entry xlen e p) i ≡ dirty p i
unfolding clear_entry
bit-done xlen e p i a b = Bits.dirty-put (bytes xlen) p (entry_at (bytes xlen) e) (clear_pending xlen (entry_word xlen p e 0)) i b (inl (config-ends xlen e a))

pub bit-swap : (xlen : Xlen) (v : ℕ) (p : List ℕ) (i : ℕ) → i < 1024 → dirty (put_word (bytes xlen) p (swap_at (bytes xlen)) v) i ≡ dirty p i
bit-swap xlen v p i b = Bits.dirty-put (bytes xlen) p (swap_at (bytes xlen)) v i b (inl (omega (arith, swap_ends xlen)))

module _ (xlen : Xlen) (e : ℕ) (b : e < entry_count (bytes xlen)) where
  pub config-put : (c : Csr) (v : ℕ) (p : List ℕ) → entry_word xlen (put_csr xlen c v p) e 0 ≡ entry_word xlen p e 0
  unfolding put_csr entry_word
  config-put c v p = word-put-other (bytes xlen) (bytes xlen) p (csr_at (bytes xlen) (index c)) v (entry_at (bytes xlen) e + bytes xlen * 0) (inl (omega (arith, config-ends xlen e b)))

  pub config-clear : (c : Csr) (p : List ℕ) → entry_word xlen (clear_mark c p) e 0 ≡ entry_word xlen p e 0
  unfolding clear_mark entry_word
  config-clear c p = Bits.word-clear (bytes xlen) p (index c) (entry_at (bytes xlen) e + bytes xlen * 0) (index-lt (number c)) (inl (omega (arith, config-ends xlen e b)))

  pub config-swap : (v : ℕ) (p : List ℕ) → entry_word xlen (put_word (bytes xlen) p (swap_at (bytes xlen)) v) e 0 ≡ entry_word xlen p e 0
  unfolding entry_word
  config-swap v p = word-put-other (bytes xlen) (bytes xlen) p (swap_at (bytes xlen)) v (entry_at (bytes xlen) e + bytes xlen * 0) (inr (omega (arith, swap_ends xlen)))

-- ---- a mark after an edit

mark-put : (xlen : Xlen) (m : Mark) → IsMark xlen m → (c : Csr) (v : ℕ) (p : List ℕ) → is_marked xlen (put_csr xlen c v p) m ≡ is_marked xlen p m
unfolding is_dirty is_pending
mark-put xlen (Dirty d) b c v p = bit-put xlen c v p (index d) (index-lt (number d))
mark-put xlen (Pending e) b c v p = ap (pending xlen) (config-put xlen e b c v p)

mark-swap : (xlen : Xlen) (m : Mark) → IsMark xlen m → (v : ℕ) (p : List ℕ) → is_marked xlen (put_word (bytes xlen) p (swap_at (bytes xlen)) v) m ≡ is_marked xlen p m
unfolding is_dirty is_pending
mark-swap xlen (Dirty d) b v p = bit-swap xlen v p (index d) (index-lt (number d))
mark-swap xlen (Pending e) b v p = ap (pending xlen) (config-swap xlen e b v p)

-- another mark stays; its own is clear
mark-clear : (xlen : Xlen) (m : Mark) → IsMark xlen m → (c : Csr) (p : List ℕ) → IsPage xlen p
    → (is_marked xlen (clear_mark c p) m ≡ is_marked xlen p m) ⊎ ((m ≡ Dirty c) × (is_marked xlen (clear_mark c p) m ≡ false))
mark-clear xlen (Dirty d) b c p g =
    ⊎_elim
    (λ y. let e = Registers.same-eq d c y in
    inr (ap Dirty e, ap (is_dirty (clear_mark c p)) e ∙ Registers.dirty-clear-same xlen c p g))
    (λ n. inl (Registers.dirty-clear-other xlen c d p g n)) (either (Registers.same d c))
mark-clear xlen (Pending e) b c p g = unfold is_pending in inl (ap (pending xlen) (config-clear xlen e b c p))

mark-done : (xlen : Xlen) (m : Mark) → IsMark xlen m → (e : ℕ) (p : List ℕ) → e < entry_count (bytes xlen) → IsPage xlen p
    → (is_marked xlen (clear_entry xlen e p) m ≡ is_marked xlen p m) ⊎ ((m ≡ Pending e) × (is_marked xlen (clear_entry xlen e p) m ≡ false))
mark-done xlen (Dirty d) b e p a g = unfold is_dirty in inl (bit-done xlen e p (index d) a (index-lt (number d)))
mark-done xlen (Pending d) b e p a g =
    ⊎_elim
    (λ y. let q = eqb-true d e y in
    inr (ap Pending q, ap (is_pending xlen (clear_entry xlen e p)) q ∙ Entries.pending-same xlen e p a g))
    (λ n. inl (Entries.pending-other xlen e d p a b g n)) (either (eqb d e))

module _ (x : Event) (w : World) (m : Mark) (k : blanks x w ≡ false) (b : IsMark w.hart.xlen m) where
  not-asked : (Memᴰ m (marks_asked x w) → ⊥) → is_marked w.hart.xlen (page_in w (left_by x w)) m ≡ is_marked w.hart.xlen (page_in w w) m
  not-asked n =
      page-left x w k (λ q. is_marked w.hart.xlen q m ≡ is_marked w.hart.xlen (page_in w w) m)
      (record {
        put = λ c v p i g q. mark-put w.hart.xlen m b c v p ∙ q;
        clear = λ c p i g q. ⊎_elim (λ e. e ∙ q) (λ y. absurd (n (Memᴰ.cast y.0 i))) (mark-clear w.hart.xlen m b c p g);
        done = λ e p i a g q. ⊎_elim (λ e. e ∙ q) (λ y. absurd (n (Memᴰ.cast y.0 i))) (mark-done w.hart.xlen m b e p a g);
        swap = λ v p t g q. mark-swap w.hart.xlen m b v p ∙ q;
      })
      refl

  none-set : is_marked w.hart.xlen (page_in w w) m ≡ false → is_marked w.hart.xlen (page_in w (left_by x w)) m ≡ false
  none-set f =
      page-left x w k (λ q. is_marked w.hart.xlen q m ≡ false)
      (record {
        put = λ c v p i g q. mark-put w.hart.xlen m b c v p ∙ q;
        clear = λ c p i g q. ⊎_elim (λ e. e ∙ q) (λ y. y.1) (mark-clear w.hart.xlen m b c p g);
        done = λ e p i a g q. ⊎_elim (λ e. e ∙ q) (λ y. y.1) (mark-done w.hart.xlen m b e p a g);
        swap = λ v p t g q. mark-swap w.hart.xlen m b v p ∙ q;
      })
      f

pub other-marks-stay : OtherMarksStay
other-marks-stay x w m k b = record { not-asked = not-asked x w m k b; none-set = none-set x w m k b }
