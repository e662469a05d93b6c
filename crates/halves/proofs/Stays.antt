-- What a request leaves as it is: a refused one every byte, any one the page's length and each bit that it may not change. All of its stores are
-- the whole of it.
use mathlib.Core.Path.{◌≡◌, refl, sym, ap, ◌∙◌}
use mathlib.Core.Bool.{true, false, ◌&&◌, true≢false}
use mathlib.Core.List.{List, [], ◌∷◌}
use mathlib.Core.Logic.{⊎_elim}
use Prim.Native.Nat.{ℕ, zero, suc, ◌%◌}
use lib.Dec.{eqb}
use lib.ListN.{length, get_or, take}
use lib.Seq.{take_all}
use borrow.Author.Tests.{eq-eqb}
use Rattle.layout.specs.declared.xlen.Xlen.{Xlen}
use Rattle.layout.specs.Width.{bytes}
use Rattle.layout.specs.Bits.{bit_of}
use Rattle.layout.specs.Geometry.{dirty_at}
use Rattle.layout.proofs.WordLaws.{byte-put-other}
use Rattle.turns.proofs.Truth.{either, neither}
use Rattle.hypervisor.specs.Answers.{is_done}
use Rattle.hypervisor.specs.Requests.{Store, Word, Mark, stored, stored_all, stores, answer_to}
use Rattle.hypervisor.proofs.Answered.{passed, left-done, after-done, left-same, after_same}
use Rattle.hypervisor.proofs.Stores.{length-all, bit-marked}
use Rattle.halves.specs.Claims.{may_change, RefusalsChangeNothing, OtherBitsStay, AllStoresAreWhole}
use Rattle.halves.proofs.Touched.{touches, any_touches, apart, untouched}

-- a bit that a store does not touch,
bit-stays : (x : Xlen) (s : Store) (p : List ℕ) (j k : ℕ) → touches x s j k ≡ false → bit_of (get_or (stored x s p) j 0) k ≡ bit_of (get_or p j 0) k
bit-stays x (Word o v) p j k n = ap (λ (b : ℕ). bit_of b k) (byte-put-other (bytes x) p o v j (apart o (bytes x) j n))
bit-stays x (Mark i) p j k n =
    bit-marked p i j k
    (λ q r. let y : (eqb j (dirty_at i) && eqb k (i % 8)) ≡ true = rw (eq-eqb j (dirty_at i) q, eq-eqb k (i % 8) r) in true≢false (sym y ∙ n))

module _ (x : Xlen) (j k : ℕ) where
  -- one that none of these does,
  bits-stay : (ss : List Store) (p : List ℕ) → any_touches x ss j k ≡ false → bit_of (get_or (stored_all x ss p) j 0) k ≡ bit_of (get_or p j 0) k
  unfolding stored_all
  bits-stay [] p n = refl
  bits-stay (s ∷ ss) p n =
      let (a, b) = neither (touches x s j k) (any_touches x ss j k) n in
      bits-stay ss (stored x s p) b ∙ bit-stays x s p j k a

  -- and so none of the first n
  first-untouched : (n : ℕ) (ss : List Store) → any_touches x ss j k ≡ false → any_touches x (take n ss) j k ≡ false
  first-untouched zero ss t = refl
  first-untouched (suc n) [] t = refl
  first-untouched (suc n) (s ∷ ss) t =
      let (a, b) = neither (touches x s j k) (any_touches x ss j k) t in
      rw (a, first-untouched n ss b)

pub refusals-change-nothing : RefusalsChangeNothing
refusals-change-nothing n x r p t = (after_same x r p n t, left-same x r p t)

pub other-bits-stay : OtherBitsStay
other-bits-stay n x r p = ⊎_elim (λ t. rw (after-done x r p n t) (made t)) (λ t. rw (after_same x r p n t) (refl, λ j k m. refl)) (either (is_done (answer_to x r p)))
  where
    made : is_done (answer_to x r p) ≡ true → (length (stored_all x (take n (stores x r p)) p) ≡ length p)
        × ((j k : ℕ) → may_change x r p j k ≡ false → bit_of (get_or (stored_all x (take n (stores x r p)) p) j 0) k ≡ bit_of (get_or p j 0) k)
    made t = (
      length-all x (take n (stores x r p)) p,
      λ j k m. bits-stay x j k (take n (stores x r p)) p (first-untouched x j k n (stores x r p) (untouched x j k r p (passed x r p t).good m)),
    )

pub all-stores-whole : AllStoresAreWhole
all-stores-whole n x r p h =
    ⊎_elim (λ t. after-done x r p n t ∙ ap (λ (ss : List Store). stored_all x ss p) (take_all n (stores x r p) h) ∙ sym (left-done x r p t))
    (λ t. after_same x r p n t ∙ sym (left-same x r p t)) (either (is_done (answer_to x r p)))
