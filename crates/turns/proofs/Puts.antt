-- Stores of several readings, one after the other.
use mathlib.Core.Path.{◌≡◌, refl, sym, ap, ◌∙◌}
use mathlib.Core.Bool.{Bool, true, false, ◌||◌, true≢false, false≢true}
use mathlib.Core.List.{List, [], ◌∷◌, ◌++◌}
use mathlib.Core.Logic.{◌⊎◌, inl, inr, ⊎_elim}
use Prim.Native.Nat.{ℕ}
use borrow.Author.Tests.{eq-eqb, ne_eqb, eqb-true, eqb-false}
use Rattle.layout.specs.declared.xlen.Xlen.{Xlen}
use Rattle.csr.specs.Csrs.{Csr, turn_of}
use Rattle.hart.specs.declared.record.Hart.{Hart}
use Rattle.hart.specs.Registers.{read}
use Rattle.page.specs.Registers.{is_dirty, clear_mark, csr_word, put_csr, IsPage}
use Rattle.hart.proofs.Frame.{member as mem}
use Rattle.page.proofs.RegisterLaws.{same}
unfoldable pub use Rattle.turns.specs.Blank.{put_all}
use Rattle.turns.proofs.Model.{Laws}
use Rattle.turns.proofs.Truth.{either}

-- the page after the bits of these registers are cleared
unfoldable pub clear_all : List Csr → List ℕ → List ℕ
clear_all [] p = p
clear_all (c ∷ cs) p = clear_all cs (clear_mark c p)

-- a register is the same as itself
pub same_refl : (c : Csr) → same c c ≡ true
same_refl c = eq-eqb (turn_of c) (turn_of c) refl

-- the order of the two does not matter
pub same-sym : (c d : Csr) → same c d ≡ false → same d c ≡ false
same-sym c d n = ne_eqb (turn_of d) (turn_of c) (λ e. eqb-false (turn_of c) (turn_of d) n (sym e))

pub same-comm : (c d : Csr) → same c d ≡ true → same d c ≡ true
same-comm c d e = eq-eqb (turn_of d) (turn_of c) (sym (eqb-true (turn_of c) (turn_of d) e))

-- a member of the rest is a member
pub mem-more : (c d : Csr) (cs : List Csr) → mem c cs ≡ true → mem c (d ∷ cs) ≡ true
mem-more c d cs m = go (same c d)
  where
    go : (b : Bool) → (b || mem c cs) ≡ true
    go true = refl
    go false = m

-- a member that is not the first is one of the rest
pub mem-rest : (c d : Csr) (cs : List Csr) → same c d ≡ false → mem c (d ∷ cs) ≡ true → mem c cs ≡ true
mem-rest c d cs n m = rw n at m

pub mem-left : (c : Csr) (cs ds : List Csr) → mem c cs ≡ true → mem c (cs ++ ds) ≡ true
mem-left c [] ds m = absurd (false≢true m)
mem-left c (d ∷ cs) ds m = go (either (same c d)) (mem-left c cs ds)
  where
    go : (same c d ≡ true) ⊎ (same c d ≡ false) → (mem c cs ≡ true → mem c (cs ++ ds) ≡ true) → mem c (d ∷ (cs ++ ds)) ≡ true
    go (inl e) ih = rw e
    go (inr n) ih = rw n (ih (mem-rest c d cs n m))

pub mem-right : (c : Csr) (cs ds : List Csr) → mem c ds ≡ true → mem c (cs ++ ds) ≡ true
mem-right c [] ds m = m
mem-right c (d ∷ cs) ds m = mem-more c d (cs ++ ds) (mem-right c cs ds m)

-- a member of two lists joined is a member of one of them
pub mem-join : (c : Csr) (cs ds : List Csr) → mem c (cs ++ ds) ≡ true → (mem c cs ≡ true) ⊎ (mem c ds ≡ true)
mem-join c [] ds m = inr m
mem-join c (d ∷ cs) ds m = go (either (same c d)) (mem-join c cs ds)
  where
    go : (same c d ≡ true) ⊎ (same c d ≡ false) → (mem c (cs ++ ds) ≡ true → (mem c cs ≡ true) ⊎ (mem c ds ≡ true))
        → (mem c (d ∷ cs) ≡ true) ⊎ (mem c ds ≡ true)
    go (inl e) ih = inl (rw e)
    go (inr n) ih = ⊎_elim (λ w. inl (rw n w)) (λ w. inr w) (ih (mem-rest c d (cs ++ ds) n m))

pub put_all-append : (xlen : Xlen) (cs ds : List Csr) (h : Hart) (p : List ℕ) → put_all xlen (cs ++ ds) h p ≡ put_all xlen ds h (put_all xlen cs h p)
unfolding put_all
put_all-append xlen [] ds h p = refl
put_all-append xlen (c ∷ cs) ds h p = put_all-append xlen cs ds h (put_csr xlen c (read c h) p)

module _ (xlen : Xlen) (L : Laws xlen) where
  pub put_all-page : (cs : List Csr) (h : Hart) (p : List ℕ) → IsPage xlen p → IsPage xlen (put_all xlen cs h p)
  unfolding put_all
  put_all-page [] h p g = g
  put_all-page (c ∷ cs) h p g = put_all-page cs h (put_csr xlen c (read c h) p) (L.page-put c (read c h) p g)

  pub clear_all-page : (cs : List Csr) (p : List ℕ) → IsPage xlen p → IsPage xlen (clear_all cs p)
  unfolding clear_all
  clear_all-page [] p g = g
  clear_all-page (c ∷ cs) p g = clear_all-page cs (clear_mark c p) (L.page-clear c p g)

  -- what is stored last counts
  pub absorb : (cs : List Csr) (h : Hart) (p : List ℕ) (c : Csr) (v : ℕ) → IsPage xlen p → mem c cs ≡ true → put_all xlen cs h (put_csr xlen c v p) ≡ put_all xlen cs h p
  unfolding put_all
  absorb [] h p c v g m = absurd (false≢true m)
  absorb (d ∷ cs) h p c v g m = go (either (same c d)) (absorb cs h (put_csr xlen d (read d h) p) c v (L.page-put d (read d h) p g))
    where
      go : (same c d ≡ true) ⊎ (same c d ≡ false) → (mem c cs ≡ true → put_all xlen cs h (put_csr xlen c v (put_csr xlen d (read d h) p)) ≡ put_all xlen cs h (put_csr xlen d (read d h) p))
          → put_all xlen cs h (put_csr xlen d (read d h) (put_csr xlen c v p)) ≡ put_all xlen cs h (put_csr xlen d (read d h) p)
      go (inl e) ih =
          ap (put_all xlen cs h)
          (ap (λ (x : Csr). put_csr xlen d (read d h) (put_csr xlen x v p)) (L.same-eq c d e) ∙ L.put_same d v (read d h) p g)
      go (inr n) ih = ap (put_all xlen cs h) (L.put_other d c v (read d h) p g n) ∙ ih (mem-rest c d cs n m)

  -- two stores of readings in one record change places
  swap : (c d : Csr) (h : Hart) (p : List ℕ) → IsPage xlen p → put_csr xlen d (read d h) (put_csr xlen c (read c h) p) ≡ put_csr xlen c (read c h) (put_csr xlen d (read d h) p)
  swap c d h p g =
      ⊎_elim (λ e. let q : c ≡ d = L.same-eq c d e in cc) (λ n. L.put_other d c (read c h) (read d h) p g n) (either (same c d))

  pub put_all-put : (cs : List Csr) (h : Hart) (p : List ℕ) (c : Csr) → IsPage xlen p → put_all xlen cs h (put_csr xlen c (read c h) p) ≡ put_csr xlen c (read c h) (put_all xlen cs h p)
  unfolding put_all
  put_all-put [] h p c g = refl
  put_all-put (d ∷ cs) h p c g =
      ap (put_all xlen cs h) (swap c d h p g) ∙ put_all-put cs h (put_csr xlen d (read d h) p) c (L.page-put d (read d h) p g)

  -- storing again what is stored changes nothing
  pub stays : (cs : List Csr) (h : Hart) (p : List ℕ) (c : Csr) → IsPage xlen p → mem c cs ≡ true → put_csr xlen c (read c h) (put_all xlen cs h p) ≡ put_all xlen cs h p
  stays cs h p c g m = sym (put_all-put cs h p c g) ∙ absorb cs h p c (read c h) g m

  inside : (cs ds : List Csr) (h : Hart) (p : List ℕ) → IsPage xlen p → ((c : Csr) → mem c cs ≡ true → mem c ds ≡ true)
      → put_all xlen cs h (put_all xlen ds h p) ≡ put_all xlen ds h p
  unfolding put_all
  inside [] ds h p g s = refl
  inside (c ∷ cs) ds h p g s =
      ap (put_all xlen cs h) (stays ds h p c g (s c (rw (same_refl c))))
      ∙ inside cs ds h p g (λ d m. s d (mem-more d c cs m))

  outside : (cs ds : List Csr) (h : Hart) (p : List ℕ) → IsPage xlen p → ((c : Csr) → mem c ds ≡ true → mem c cs ≡ true)
      → put_all xlen cs h (put_all xlen ds h p) ≡ put_all xlen cs h p
  unfolding put_all
  outside cs [] h p g s = refl
  outside cs (c ∷ ds) h p g s =
      outside cs ds h (put_csr xlen c (read c h) p) (L.page-put c (read c h) p g) (λ d m. s d (mem-more d c ds m))
      ∙ absorb cs h p c (read c h) g (s c (rw (same_refl c)))

  -- only which registers are stored counts, not their order or number
  pub same-members : (cs ds : List Csr) (h : Hart) (p : List ℕ) → IsPage xlen p → ((c : Csr) → mem c cs ≡ true → mem c ds ≡ true)
      → ((c : Csr) → mem c ds ≡ true → mem c cs ≡ true) → put_all xlen cs h p ≡ put_all xlen ds h p
  same-members cs ds h p g s t = sym (outside cs ds h p g t) ∙ inside cs ds h p g s

  -- readings of an earlier record that are stored again, or that have not changed, may be those of the later one
  pub update : (cs ks : List Csr) (h k : Hart) (p : List ℕ) → IsPage xlen p → ((c : Csr) → mem c ks ≡ true → (mem c cs ≡ true) ⊎ (read c h ≡ read c k))
      → put_all xlen cs h (put_all xlen ks k p) ≡ put_all xlen cs h (put_all xlen ks h p)
  unfolding put_all
  update cs [] h k p g u = refl
  update cs (c ∷ ks) h k p g u =
      update cs ks h k (put_csr xlen c (read c k) p) (L.page-put c (read c k) p g) (λ d m. u d (mem-more d c ks m))
      ∙ ⊎_elim (λ m. sym (put_all-append xlen ks cs h (put_csr xlen c (read c k) p)) ∙ absorb (ks ++ cs) h p c (read c k) g (mem-right c ks cs m)
      ∙ sym (absorb (ks ++ cs) h p c (read c h) g (mem-right c ks cs m)) ∙ put_all-append xlen ks cs h (put_csr xlen c (read c h) p))
      (λ e. ap (λ (x : ℕ). put_all xlen cs h (put_all xlen ks h (put_csr xlen c x p))) (sym e)) (u c (rw (same_refl c)))

  pub put_all-clear : (cs : List Csr) (h : Hart) (p : List ℕ) (c : Csr) → IsPage xlen p → put_all xlen cs h (clear_mark c p) ≡ clear_mark c (put_all xlen cs h p)
  unfolding put_all
  put_all-clear [] h p c g = refl
  put_all-clear (d ∷ cs) h p c g =
      ap (put_all xlen cs h) (L.put-clear d c (read d h) p g) ∙ put_all-clear cs h (put_csr xlen d (read d h) p) c (L.page-put d (read d h) p g)

  pub clear_all-put : (cs ks : List Csr) (h : Hart) (p : List ℕ) → IsPage xlen p → clear_all cs (put_all xlen ks h p) ≡ put_all xlen ks h (clear_all cs p)
  unfolding clear_all
  clear_all-put [] ks h p g = refl
  clear_all-put (c ∷ cs) ks h p g =
      ap (clear_all cs) (sym (put_all-clear ks h p c g)) ∙ clear_all-put cs ks h (clear_mark c p) (L.page-clear c p g)

  pub clear_all-one : (cs : List Csr) (c : Csr) (v : ℕ) (p : List ℕ) → IsPage xlen p → clear_all cs (put_csr xlen c v p) ≡ put_csr xlen c v (clear_all cs p)
  unfolding clear_all
  clear_all-one [] c v p g = refl
  clear_all-one (d ∷ cs) c v p g = ap (clear_all cs) (sym (L.put-clear c d v p g)) ∙ clear_all-one cs c v (clear_mark d p) (L.page-clear d p g)

  -- clearing one of the bits first changes nothing
  pub clear_all-clear : (cs : List Csr) (c : Csr) (p : List ℕ) → IsPage xlen p → mem c cs ≡ true → clear_all cs (clear_mark c p) ≡ clear_all cs p
  unfolding clear_all
  clear_all-clear [] c p g m = absurd (false≢true m)
  clear_all-clear (d ∷ cs) c p g m = go (either (same c d)) (clear_all-clear cs c (clear_mark d p) (L.page-clear d p g))
    where
      go : (same c d ≡ true) ⊎ (same c d ≡ false) → (mem c cs ≡ true → clear_all cs (clear_mark c (clear_mark d p)) ≡ clear_all cs (clear_mark d p))
          → clear_all cs (clear_mark d (clear_mark c p)) ≡ clear_all cs (clear_mark d p)
      go (inl e) ih =
          ap (clear_all cs)
          (ap (λ (x : Csr). clear_mark d (clear_mark x p)) (L.same-eq c d e)
          ∙ L.clear-clean d (clear_mark d p) (L.page-clear d p g) (L.dirty-clear-same d p g))
      go (inr n) ih = ap (clear_all cs) (L.clear_comm d c p g) ∙ ih (mem-rest c d cs n m)

  pub put_all-dirty : (cs : List Csr) (h : Hart) (p : List ℕ) (d : Csr) → IsPage xlen p → is_dirty (put_all xlen cs h p) d ≡ is_dirty p d
  unfolding put_all
  put_all-dirty [] h p d g = refl
  put_all-dirty (c ∷ cs) h p d g =
      put_all-dirty cs h (put_csr xlen c (read c h) p) d (L.page-put c (read c h) p g) ∙ L.dirty-put c d (read c h) p g

  pub put_all-word : (cs : List Csr) (h : Hart) (p : List ℕ) (d : Csr) → IsPage xlen p → mem d cs ≡ false → csr_word xlen (put_all xlen cs h p) d ≡ csr_word xlen p d
  unfolding put_all
  put_all-word [] h p d g m = refl
  put_all-word (c ∷ cs) h p d g m = go (either (same d c)) (put_all-word cs h (put_csr xlen c (read c h) p) d (L.page-put c (read c h) p g))
    where
      go : (same d c ≡ true) ⊎ (same d c ≡ false) → (mem d cs ≡ false → csr_word xlen (put_all xlen cs h (put_csr xlen c (read c h) p)) d ≡ csr_word xlen (put_csr xlen c (read c h) p) d)
          → csr_word xlen (put_all xlen cs h (put_csr xlen c (read c h) p)) d ≡ csr_word xlen p d
      go (inl e) ih = absurd (true≢false (rw e at m))
      go (inr n) ih = ih (rw n at m) ∙ L.word-put c d (read c h) p g n
