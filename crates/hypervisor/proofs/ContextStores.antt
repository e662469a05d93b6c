-- The words of the context: those that are left to test, and those that are left to store.
use mathlib.Core.Path.{◌≡◌, refl, sym, ap, ◌∙◌}
use mathlib.Core.Bool.{true, false}
use mathlib.Core.List.{List, ◌∷◌}
use Prim.Native.Nat.{ℕ, ◌+◌, ◌≤◌, ◌<◌}
use native.Mathlib.Numerals.{add-one}
use native.Mathlib.Omega.{arith}
use lib.ListN.{length, get_or, drop, drop_of_length-le}
use lib.Seq.{drop-cons}
use borrow.Author.Tests.{eq-eqb, ne_eqb}
use Rattle.layout.specs.declared.xlen.Xlen.{Xlen}
use Rattle.layout.specs.declared.xlen.Xlen.TheVariants.{X32, X64}
use Rattle.layout.specs.Width.{bytes}
use Rattle.layout.specs.Geometry.{context_at, page_size}
use Rattle.layout.specs.Words.{put_word}
use Rattle.layout.proofs.WordLaws.{length-put}
use Rattle.hart.specs.WellMade.{each_fits}
use Rattle.page.specs.Registers.{IsPage}
use Rattle.std.specs.Prelude.{Ok}
use Rattle.hypervisor.specs.Requests.{Context, stored_all, context_stores, stores, good_params, RequestIs}
use Rattle.hypervisor.proofs.Outcomes.{done, outcome}

-- a context's word lies in the page
pub context-fits : (x : Xlen) (i : ℕ) → i < 32 → context_at (bytes x) i + bytes x ≤ page_size (bytes x)
context-fits X32 i b = omega arith
context-fits X64 i b = omega arith

module _ (x : Xlen) (l : List ℕ) (i : ℕ) where
  -- the words from i on stored
  abbrev pub Rest : List ℕ → List ℕ
  Rest q = stored_all x (context_stores x i (drop i l)) q

  pub all-stored : length l ≤ i → (q : List ℕ) → Rest q ≡ q
  unfolding stored_all context_stores
  all-stored h q = rw (drop_of_length-le l h)

pub first-stored : (x : Xlen) (l p : List ℕ) → stored_all x (context_stores x 0 (0 ∷ drop 1 l)) p ≡ Rest x l 1 (put_word (bytes x) p (context_at (bytes x) 0) 0)
unfolding stored_all context_stores
first-stored x l p = refl

pub next-stored : (x : Xlen) (l : List ℕ) (i : ℕ) (q : List ℕ) → i < length l → Rest x l i q ≡ Rest x l (i + 1) (put_word (bytes x) q (context_at (bytes x) i) (get_or l i 0))
unfolding stored_all context_stores
next-stored x l i q h = rw (drop-cons l i 0 h, add-one)

-- from the page p, on which word 0 is stored, to q: the words before word i are stored, so what is left gives the same
pub record Storing (x : Xlen) (l p q : List ℕ) (i : ℕ) : Type 0 where
  pub most : i ≤ 32
  pub size : length q ≡ length p
  pub same : Rest x l 1 p ≡ Rest x l i q

module _ (x : Xlen) (l p : List ℕ) where
  pub storing-none : Storing x l p p 1
  storing-none = record { most = omega arith; size = refl; same = refl }

  pub storing-next : {i o v : ℕ} {q r : List ℕ} → Storing x l p q i → i < 32 → length l ≡ 32 → o ≡ context_at (bytes x) i → v ≡ get_or l i 0
      → r ≡ put_word (bytes x) q o v → Storing x l p r (i + 1)
  storing-next {i} {o} {v} {q} g h n a w s =
      rw (s, a, w) (record {
        most = omega arith;
        size = length-put (bytes x) q (context_at (bytes x) i) (get_or l i 0) ∙ g.size;
        same = g.same ∙ next-stored x l i q (omega arith);
      })

  pub storing-all : {i o : ℕ} {q r : List ℕ} → Storing x l q r i → 32 ≤ i → length l ≡ 32 → o ≡ context_at (bytes x) 0 → q ≡ put_word (bytes x) p o 0
      → r ≡ stored_all x (context_stores x 0 (0 ∷ drop 1 l)) p
  storing-all {i} {o} {q} {r} g h n a s =
      sym (first-stored x l p ∙ ap (Rest x l 1) (sym (rw a at s)) ∙ g.same ∙ all-stored x l i (omega arith) r)

-- ---- the request

module _ (x : Xlen) (l : List ℕ) where
  pub few : (length l ≡ 32 → ⊥) → good_params x (Context l) ≡ false
  few n = rw (ne_eqb (length l) 32 n)

  pub wide : length l ≡ 32 → each_fits x (drop 1 l) ≡ false → good_params x (Context l) ≡ false
  wide e f = rw (eq-eqb (length l) 32 e, f)

  pub filled : (p : List ℕ) {q : List ℕ} → IsPage x p → length l ≡ 32 → each_fits x (drop 1 l) ≡ true → q ≡ stored_all x (context_stores x 0 (0 ∷ drop 1 l)) p
      → RequestIs x (Context l) p (Ok 0) q
  unfolding stores
  filled p i e f s = outcome x (Context l) p (done x (Context l) p i (rw (eq-eqb (length l) 32 e, f)) refl refl) refl s
