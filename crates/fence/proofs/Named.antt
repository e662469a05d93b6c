-- The slots that an entry names: which they are, their split at a slot, and what is left of them after some are removed.
use Prim.Native.Nat.{ℕ, zero, suc, ◌+◌, ◌<◌, ◌≤◌}
use mathlib.Core.Bool.{Bool, true, false, cond, not, ◌&&◌, ◌||◌, false≢true, and-false, and-true, or-false}
use mathlib.Core.List.{List, [], ◌∷◌, ◌++◌}
use mathlib.Core.Logic.{◌≢◌}
use mathlib.Core.Path.{◌≡◌, refl, sym, ap, ◌∙◌}
use native.Mathlib.Nat.{add-zero, zero-add, suc-add}
use native.Mathlib.Omega.{arith}
use borrow.Author.Tests.{eq-eqb, ne_eqb, eqb-true, eqb-false}
use lib.Dec.{eqb}
use lib.ListN.{length, take, drop}
use lib.Seq.{drop-nil}
use Rattle.fence.specs.declared.entry.Fence.{Fence}
use Rattle.fence.specs.Table.{names_slot, remove_slot, remove_slots, named_from, Cleared}
use Rattle.fence.proofs.Cleared.{cleared-none, cleared-then, cleared-slot}

-- the list of slots has slot j
abbrev pub has : List ℕ → ℕ → Bool
has [] j = false
has (i ∷ is) j = eqb j i || has is j

-- removing slots clears those that the list has
pub cleared-slots : (is t : List ℕ) → Cleared (has is) t (remove_slots t is)
cleared-slots [] t = cleared-none t
cleared-slots (i ∷ is) t = cleared-then (cleared-slot t i) (cleared-slots is (remove_slot t i))

-- removing one list of slots and then another
pub remove_slots-append : (t is js : List ℕ) → remove_slots t (is ++ js) ≡ remove_slots (remove_slots t is) js
remove_slots-append t [] js = refl
remove_slots-append t (i ∷ is) js = remove_slots-append (remove_slot t i) is js

-- a slot of the first n is one of all
pub has-take : (n : ℕ) (is : List ℕ) (j : ℕ) → has (take n is) j ≡ true → has is j ≡ true
has-take zero is j e = absurd (false≢true e)
has-take (suc n) [] j e = e
has-take (suc n) (i ∷ is) j e = go (eqb j i) e (has-take n is j)
  where
    go : (b : Bool) → b || has (take n is) j ≡ true → (has (take n is) j ≡ true → has is j ≡ true) → b || has is j ≡ true
    go true q ih = refl
    go false q ih = ih q

-- ---- a list to which a slot is added where b says so

-- whether it has slot j
has-cond : (b : Bool) (i : ℕ) (is : List ℕ) (j : ℕ) → has (cond b (i ∷ is) is) j ≡ b && eqb j i || has is j
has-cond true i is j = refl
has-cond false i is j = refl

-- its slots before those of another list
append-cond : (b : Bool) (i : ℕ) (is js : List ℕ) → cond b (i ∷ (is ++ js)) (is ++ js) ≡ cond b (i ∷ is) is ++ js
append-cond true i is js = refl
append-cond false i is js = refl

-- its length
length-cond : (b : Bool) (i : ℕ) (is : List ℕ) (n : ℕ) → length is ≤ n → length (cond b (i ∷ is) is) ≤ suc n
length-cond true i is n h = omega arith
length-cond false i is n h = omega arith

-- ---- the named slots among the n from slot i on

module _ (f : Fence) (t : List ℕ) where
  -- none below the first
  pub named-below : (n i j : ℕ) → j < i → has (named_from f t i n) j ≡ false
  named-below zero i j h = refl
  named-below (suc n) i j h =
      has-cond (names_slot f t i) i (named_from f t (i + 1) n) j
      ∙ rw (ne_eqb j i (omega arith), and-false, named-below n (i + 1) j (omega arith))

  -- none past the last
  pub named_past : (n i j : ℕ) → i + n ≤ j → has (named_from f t i n) j ≡ false
  named_past zero i j h = refl
  named_past (suc n) i j h =
      has-cond (names_slot f t i) i (named_from f t (i + 1) n) j
      ∙ rw (ne_eqb j i (omega arith), and-false, named_past n (i + 1) j (omega arith))

  -- between them those that the entry names
  pub named_in : (n i j : ℕ) → i ≤ j → j < i + n → has (named_from f t i n) j ≡ names_slot f t j
  named_in zero i j h k = absurd (omega arith)
  named_in (suc n) i j h k =
      has-cond (names_slot f t i) i (named_from f t (i + 1) n) j
      ∙ go (eqb j i) refl (λ a. named_in n (i + 1) j a (omega arith))
    where
      go : (b : Bool) → eqb j i ≡ b → (i + 1 ≤ j → has (named_from f t (i + 1) n) j ≡ names_slot f t j)
          → names_slot f t i && b || has (named_from f t (i + 1) n) j ≡ names_slot f t j
      go true e ih = rw (eqb-true j i e, named-below n (i + 1) i (omega arith), and-true, or-false)
      go false e ih = let away : j ≢ i = eqb-false j i e in rw and-false (ih (omega arith))

  -- those of the first m, and then those of the others
  pub named-split : (m n i : ℕ) → named_from f t i (m + n) ≡ named_from f t i m ++ named_from f t (i + m) n
  named-split zero n i = rw (zero-add, add-zero)
  named-split (suc m) n i =
      let at : i + 1 + m ≡ i + suc m = omega arith in
      rw (suc-add, named-split m n (i + 1), at)
      (append-cond (names_slot f t i) i (named_from f t (i + 1) m) (named_from f t (i + suc m) n))

  -- no more than there are slots
  pub length-named_from : (n i : ℕ) → length (named_from f t i n) ≤ n
  length-named_from zero i = omega arith
  length-named_from (suc n) i = length-cond (names_slot f t i) i (named_from f t (i + 1) n) n (length-named_from n (i + 1))

-- the same slots, where one entry names in one table what another names in another
pub named-same : (f g : Fence) (t u : List ℕ) (n i : ℕ)
    → ((j : ℕ) → i ≤ j → j < i + n → names_slot f t j ≡ names_slot g u j)
    → named_from f t i n ≡ named_from g u i n
named-same f g t u zero i h = refl
named-same f g t u (suc n) i h =
    rw (h i (omega arith) (omega arith), named-same f g t u n (i + 1) (λ j a b. h j (omega arith) (omega arith)))

-- one slot of `named-drop`: b is whether it is named in the first table, p and q say it of each slot, ls and us are the slots after it
drop-step : (p q : ℕ → Bool) (i : ℕ) (ls us : List ℕ)
    → ((m : ℕ) → ((j : ℕ) → i + 1 ≤ j → q j ≡ not (has (take m ls) j) && p j) → us ≡ drop m ls)
    → (b : Bool) → p i ≡ b
    → (m : ℕ) → ((j : ℕ) → i ≤ j → q j ≡ not (has (take m (cond b (i ∷ ls) ls)) j) && p j)
    → cond (q i) (i ∷ us) us ≡ drop m (cond b (i ∷ ls) ls)
drop-step p q i ls us ih false e m h = rw (h i (omega arith), e, and-false) (ih m (λ j a. h j (omega arith)))
drop-step p q i ls us ih true e zero h =
    rw (h i (omega arith), e) (ap (λ (x : List ℕ). i ∷ x) (ih zero (λ j a. h j (omega arith))))
drop-step p q i ls us ih true e (suc m) h =
    rw (h i (omega arith), eq-eqb i i refl) (ih m (λ j a. h j (omega arith) ∙ rw (ne_eqb j i (omega arith))))

-- the first m are named no more, and the others as before: the others are left
pub named-drop : (f : Fence) (t u : List ℕ) (n i m : ℕ)
    → ((j : ℕ) → i ≤ j → names_slot f u j ≡ not (has (take m (named_from f t i n)) j) && names_slot f t j)
    → named_from f u i n ≡ drop m (named_from f t i n)
named-drop f t u zero i m h = sym (drop-nil m)
named-drop f t u (suc n) i m h =
    drop-step (names_slot f t) (names_slot f u) i (named_from f t (i + 1) n) (named_from f u (i + 1) n)
    (λ k. named-drop f t u n (i + 1) k) (names_slot f t i) refl m h

-- one slot of `named_count`: p, q and r are whether f and g name it, and whether g still does
count-step : (p q r : Bool) (i : ℕ) (ls us vs : List ℕ) → r ≡ not p && q → (p ≡ true → q ≡ true)
    → length ls + length us ≡ length vs
    → length (cond p (i ∷ ls) ls) + length (cond r (i ∷ us) us) ≡ length (cond q (i ∷ vs) vs)
count-step true q r i ls us vs e h k = rw (e, h refl) (omega arith)
count-step false true r i ls us vs e h k = rw e (omega arith)
count-step false false r i ls us vs e h k = rw e k

-- where f names none that g does not, those of f and those that g names without them are as many as those of g
pub named_count : (f g : Fence) (t u : List ℕ) (n i : ℕ)
    → ((j : ℕ) → i ≤ j → j < i + n → names_slot g u j ≡ not (names_slot f t j) && names_slot g t j)
    → ((j : ℕ) → names_slot f t j ≡ true → names_slot g t j ≡ true)
    → length (named_from f t i n) + length (named_from g u i n) ≡ length (named_from g t i n)
named_count f g t u zero i h w = refl
named_count f g t u (suc n) i h w =
    count-step (names_slot f t i) (names_slot g t i) (names_slot g u i) i
    (named_from f t (i + 1) n) (named_from g u (i + 1) n) (named_from g t (i + 1) n)
    (h i (omega arith) (omega arith)) (w i)
    (named_count f g t u n (i + 1) (λ j a b. h j (omega arith) (omega arith)) w)
