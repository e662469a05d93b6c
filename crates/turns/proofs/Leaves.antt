-- What a whole synchronization leaves, place by place: laws for whoever uses it.
use mathlib.Core.Path.{◌≡◌, refl, sym, ap, ◌∙◌, subst}
use mathlib.Core.Bool.{Bool, true, false, cond}
use mathlib.Core.List.{List, [], ◌∷◌, map}
use mathlib.Core.Logic.{◌≢◌}
use Prim.Native.Nat.{ℕ, ◌^◌, ◌<◌}
use native.Mathlib.Omega.{arith}
use lib.ListN.{get_or}
use Rattle.csr.specs.Csrs.{Csr, number}
use Rattle.hart.specs.declared.record.Hart.{Hart}
use Rattle.hart.specs.Registers.{read, write}
use Rattle.hart.proofs.Frame.{member as mem}
use Rattle.hart.proofs.Shape.{Words}
use Rattle.hart.proofs.Fits.{read_fits, words-write}
use Rattle.layout.specs.declared.xlen.Xlen.{Xlen}
use Rattle.layout.specs.declared.xlen.Xlen.TheVariants.{X32, X64}
use Rattle.layout.specs.Width.{bytes, bits}
use Rattle.layout.specs.Geometry.{csr_at}
use Rattle.layout.specs.Words.{word_at}
use Rattle.layout.specs.Dirty.{dirty}
use Rattle.layout.proofs.PageLaws.{csr-put-same, csr-put-other, csr-put-dirty, csr-put-byte, csr-off}
use Rattle.layout.proofs.DirtyLaws as Bits
use Rattle.layout.proofs.IndexLaws.{index-lt}
use Rattle.page.specs.Registers.{IsPage, index, is_dirty, clear_mark, csr_word, put_csr}
use Rattle.world.specs.State.{State}
use Rattle.turns.specs.Turn.{turns}
use Rattle.turns.proofs.Puts as Puts
use Rattle.turns.proofs.Closed.{writes, stored, distinct}
use Rattle.turns.proofs.Closed as Closed
use Rattle.turns.proofs.Holds.{laws}
use Rattle.turns.specs.Marks.{Dirty}

-- a property of pages that stores and clears of implemented registers keep is kept by the turns
module _ (xlen : Xlen) (P : List ℕ → Type 0) (put : (c : Csr) (v : ℕ) (p : List ℕ) → P p → P (put_csr xlen c v p)) (clear : (c : Csr) (p : List ℕ) → P p → P (clear_mark c p)) where
  put_all-keeps : (cs : List Csr) (h : Hart) (p : List ℕ) → P p → P (Puts.put_all xlen cs h p)
  unfolding Puts.put_all
  put_all-keeps [] h p k = k
  put_all-keeps (c ∷ cs) h p k = put_all-keeps cs h (put_csr xlen c (read c h) p) (put c (read c h) p k)

  clear_all-keeps : (cs : List Csr) (p : List ℕ) → P p → P (Puts.clear_all cs p)
  unfolding Puts.clear_all
  clear_all-keeps [] p k = k
  clear_all-keeps (c ∷ cs) p k = clear_all-keeps cs (clear_mark c p) (clear c p k)

  pub turns-keep : (cs : List Csr) (s : State) → IsPage xlen s.page → distinct cs ≡ true → P s.page → P (turns xlen (map Dirty cs) s).page
  turns-keep cs s g d k =
      subst (λ (t : State). P t.page) (sym (Closed.closed xlen (laws xlen) cs s g d))
      (put_all-keeps (stored cs s.page) (writes xlen cs s.page s.hart) (Puts.clear_all cs s.page) (clear_all-keeps cs s.page k))

-- bytes before the dirty bitmap stay: SRET context, autoswap, fence entries
pub bytes-stay : (xlen : Xlen) (cs : List Csr) (s : State) (j : ℕ) → IsPage xlen s.page → distinct cs ≡ true → j < 0xF80 → get_or (turns xlen (map Dirty cs) s).page j 0 ≡ get_or s.page j 0
bytes-stay xlen cs s j g d b =
    turns-keep xlen (λ p. get_or p j 0 ≡ get_or s.page j 0) put clear cs s g d refl
  where
    put : (c : Csr) (v : ℕ) (p : List ℕ) → get_or p j 0 ≡ get_or s.page j 0 → get_or (put_csr xlen c v p) j 0 ≡ get_or s.page j 0
    put c v p k = unfold put_csr in (csr-put-byte (bytes xlen) p (index c) v j (omega arith) ∙ k)

    clear : (c : Csr) (p : List ℕ) → get_or p j 0 ≡ get_or s.page j 0 → get_or (clear_mark c p) j 0 ≡ get_or s.page j 0
    clear c p k = unfold clear_mark in (Bits.byte-clear-other p (index c) j (λ e. omega arith) ∙ k)

-- the words and dirty bits of indexes that are no register's stay
pub words-stay : (xlen : Xlen) (cs : List Csr) (s : State) (i : ℕ) → IsPage xlen s.page → distinct cs ≡ true → ((c : Csr) → index c ≢ i)
    → word_at (bytes xlen) (turns xlen (map Dirty cs) s).page (csr_at (bytes xlen) i) ≡ word_at (bytes xlen) s.page (csr_at (bytes xlen) i)
words-stay xlen cs s i g d n = turns-keep xlen (λ p. word_at (bytes xlen) p (csr_at (bytes xlen) i) ≡ word_at (bytes xlen) s.page (csr_at (bytes xlen) i)) put clear cs s g d refl
  where
    put : (c : Csr) (v : ℕ) (p : List ℕ) → word_at (bytes xlen) p (csr_at (bytes xlen) i) ≡ word_at (bytes xlen) s.page (csr_at (bytes xlen) i) → word_at (bytes xlen) (put_csr xlen c v p) (csr_at (bytes xlen) i) ≡ word_at (bytes xlen) s.page (csr_at (bytes xlen) i)
    put c v p k = unfold put_csr in (csr-put-other (bytes xlen) p (index c) v i (n c) ∙ k)

    clear : (c : Csr) (p : List ℕ) → word_at (bytes xlen) p (csr_at (bytes xlen) i) ≡ word_at (bytes xlen) s.page (csr_at (bytes xlen) i) → word_at (bytes xlen) (clear_mark c p) (csr_at (bytes xlen) i) ≡ word_at (bytes xlen) s.page (csr_at (bytes xlen) i)
    clear c p k = unfold clear_mark in (Bits.word-clear (bytes xlen) p (index c) (csr_at (bytes xlen) i) (index-lt (number c)) (csr-off (bytes xlen) i) ∙ k)

pub bits-stay : (xlen : Xlen) (cs : List Csr) (s : State) (i : ℕ) → i < 1024 → IsPage xlen s.page → distinct cs ≡ true → ((c : Csr) → index c ≢ i)
    → dirty (turns xlen (map Dirty cs) s).page i ≡ dirty s.page i
bits-stay xlen cs s i b g d n = turns-keep xlen (λ p. dirty p i ≡ dirty s.page i) put clear cs s g d refl
  where
    put : (c : Csr) (v : ℕ) (p : List ℕ) → dirty p i ≡ dirty s.page i → dirty (put_csr xlen c v p) i ≡ dirty s.page i
    put c v p k = unfold put_csr in (csr-put-dirty (bytes xlen) p (index c) v i b ∙ k)

    clear : (c : Csr) (p : List ℕ) → dirty p i ≡ dirty s.page i → dirty (clear_mark c p) i ≡ dirty s.page i
    clear c p k = unfold clear_mark in (Bits.dirty-clear-other p (index c) i (n c) ∙ k)

stays-clear : (xlen : Xlen) (cs : List Csr) (p : List ℕ) (c : Csr) → IsPage xlen p → is_dirty p c ≡ false → is_dirty (Puts.clear_all cs p) c ≡ false
unfolding Puts.clear_all
stays-clear xlen [] p c g n = n
stays-clear xlen (e ∷ cs) p c g n = stays-clear xlen cs (clear_mark e p) c ((laws xlen).page-clear e p g) (Closed.clear-keeps xlen (laws xlen) e c p g n)

clear_all-clear : (xlen : Xlen) (cs : List Csr) (p : List ℕ) (c : Csr) → IsPage xlen p → mem c cs ≡ true → is_dirty (Puts.clear_all cs p) c ≡ false
clear_all-clear xlen cs p c g m =
    subst (λ (q : List ℕ). is_dirty q c ≡ false) (Puts.clear_all-clear xlen (laws xlen) cs c p g m)
    (stays-clear xlen cs (clear_mark c p) c ((laws xlen).page-clear c p g) ((laws xlen).dirty-clear-same c p g))

-- the bits of the registers served are clear
pub marks-clear : (xlen : Xlen) (cs : List Csr) (s : State) (c : Csr) → IsPage xlen s.page → distinct cs ≡ true → mem c cs ≡ true → is_dirty (turns xlen (map Dirty cs) s).page c ≡ false
marks-clear xlen cs s c g d m =
    ap (λ (t : State). is_dirty t.page c) (Closed.closed xlen (laws xlen) cs s g d)
    ∙ Puts.put_all-dirty xlen (laws xlen) (stored cs s.page) (writes xlen cs s.page s.hart) (Puts.clear_all cs s.page) c (Puts.clear_all-page xlen (laws xlen) cs s.page g)
    ∙ clear_all-clear xlen cs s.page c g m

words-writes : (xlen : Xlen) (cs : List Csr) (p : List ℕ) (h : Hart) → Words h → Words (writes xlen cs p h)
unfolding writes
words-writes xlen [] p h k = k
words-writes xlen (c ∷ cs) p h k = words-writes xlen cs p (cond (is_dirty p c) (write c (csr_word xlen p c) h) h) (go (is_dirty p c))
  where
    go : (b : Bool) → Words (cond b (write c (csr_word xlen p c) h) h)
    go true = words-write c (csr_word xlen p c) h k
    go false = k

-- writes leave the width
pub width-writes : (xlen : Xlen) (cs : List Csr) (p : List ℕ) (h : Hart) → (writes xlen cs p h).xlen ≡ h.xlen
unfolding writes
width-writes xlen [] p h = refl
width-writes xlen (c ∷ cs) p h = width-writes xlen cs p (cond (is_dirty p c) (write c (csr_word xlen p c) h) h) ∙ go (is_dirty p c)
  where
    go : (b : Bool) → (cond b (write c (csr_word xlen p c) h) h).xlen ≡ h.xlen
    go true = refl
    go false = refl

-- a word that was stored is read back
pub word-put-own : (xlen : Xlen) (c : Csr) (v : ℕ) (p : List ℕ) → IsPage xlen p → v < 2 ^ bits xlen → csr_word xlen (put_csr xlen c v p) c ≡ v
unfolding csr_word put_csr
word-put-own X32 c v p g b = csr-put-same 4 p (index c) v (index-lt (number c)) g b
word-put-own X64 c v p g b = csr-put-same 8 p (index c) v (index-lt (number c)) g b

-- the words that are stored, those of the registers served among them, are at their readings in the record that is left
pub words-read : (xlen : Xlen) (cs : List Csr) (s : State) (c : Csr) → IsPage xlen s.page → distinct cs ≡ true → Words s.hart → s.hart.xlen ≡ xlen
    → mem c (stored cs s.page) ≡ true
    → csr_word xlen (turns xlen (map Dirty cs) s).page c ≡ read c (turns xlen (map Dirty cs) s).hart
words-read xlen cs s c g d k w m =
    ap (λ (t : State). csr_word xlen t.page c) (Closed.closed xlen (laws xlen) cs s g d)
    ∙ ap (λ (q : List ℕ). csr_word xlen q c) (sym (Puts.stays xlen (laws xlen) (stored cs s.page) h (Puts.clear_all cs s.page) c gc m))
    ∙ word-put-own xlen c (read c h) (Puts.put_all xlen (stored cs s.page) h (Puts.clear_all cs s.page)) (Puts.put_all-page xlen (laws xlen) (stored cs s.page) h (Puts.clear_all cs s.page) gc)
    (subst (λ (y : Xlen). read c h < 2 ^ bits y) (width-writes xlen cs s.page s.hart ∙ w) (read_fits c h (words-writes xlen cs s.page s.hart k)))
    ∙ ap (λ (t : State). read c t.hart) (sym (Closed.closed xlen (laws xlen) cs s g d))
  where
    h : Hart
    h = writes xlen cs s.page s.hart

    gc : IsPage xlen (Puts.clear_all cs s.page)
    gc = Puts.clear_all-page xlen (laws xlen) cs s.page g
