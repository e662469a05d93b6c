-- A loop that puts the lines of those elements of a list that pass a test.
use mathlib.Core.Path.{◌≡◌, refl, ap, ◌∙◌, subst}
use mathlib.Core.Bool.{Bool, true, false}
use mathlib.Core.List.{List, [], ◌∷◌, ◌++◌, append-nil}
use Prim.Native.Nat.{ℕ, zero, suc, ◌+◌, ◌-◌, ◌*◌, ◌≤◌, ◌<◌}
use native.Mathlib.Nat.{mul-le-mul_left, add-zero}
use native.Mathlib.Omega.{arith}
use native.Mathlib.Numerals.{add-one}
use lib.ListN.{length, get_or, take, length-append}
use lib.Seq.{take-suc, take_all, length-take-le}
use Rattle.text.specs.Buffer.{Put}
use Rattle.text.specs.declared.Buffer.{Buffer}
use Rattle.text.proofs.Puts.{put-nothing, ◌then◌}
use Rattle.lister.specs.Marks.{those}
use Rattle.lister.specs.Listing.{lines}
use Rattle.lister.proofs.Chosen.{those-append, length-those, lines-append, lines-one, length-lines}

-- before element i: the lines of those before it are put, and counted
pub record Passed {A : Type 0} (f : A → Bool) (g : A → List ℕ) (xs : List A) (b : Buffer ℕ) (i : ℕ) (c : Buffer ℕ) (count : ℕ) : Type 0 where
  pub within : i ≤ length xs
  pub puts : Put b (lines g (those f (take i xs))) c
  pub counted : count ≡ length (those f (take i xs))

module _ {A : Type 0} (f : A → Bool) (xs : List A) where
  -- what is chosen among one element more
  one_more : (i : ℕ) (z : A) → i < length xs → those f (take (i + 1) xs) ≡ those f (take i xs) ++ those f (get_or xs i z ∷ [])
  one_more i z h = rw (add-one, take-suc xs i z) (those-append f (take i xs) (get_or xs i z ∷ []))

  taken : (i : ℕ) (z : A) → i < length xs → f (get_or xs i z) ≡ true → those f (take (i + 1) xs) ≡ those f (take i xs) ++ (get_or xs i z ∷ [])
  unfolding those
  taken i z h p =
      let one : those f (get_or xs i z ∷ []) ≡ get_or xs i z ∷ [] = rw p in
      one_more i z h ∙ ap (λ (l : List A). those f (take i xs) ++ l) one

  left : (i : ℕ) (z : A) → i < length xs → f (get_or xs i z) ≡ false → those f (take (i + 1) xs) ≡ those f (take i xs)
  unfolding those
  left i z h p =
      let none : those f (get_or xs i z ∷ []) ≡ [] = rw p in
      one_more i z h ∙ ap (λ (l : List A). those f (take i xs) ++ l) none ∙ append-nil (those f (take i xs))

module _ {A : Type 0} {f : A → Bool} {g : A → List ℕ} {xs : List A} {b : Buffer ℕ} where
  -- before the first element
  pub at_first : Passed f g xs b 0 b 0
  unfolding those lines
  at_first = record { within = omega arith; puts = put-nothing b; counted = refl }

  module _ {i : ℕ} {c : Buffer ℕ} {count : ℕ} (p : Passed f g xs b i c count) where
    -- no more are counted than passed
    pub few : count ≤ i
    few = omega (arith, p.counted, length-those f (take i xs), length-take-le i xs p.within)

    -- with lines of at most k bytes each
    pub near : (k : ℕ) → ((x : A) → length (g x) ≤ k) → c.at ≤ b.at + k * i
    near k h =
        let n = length-lines k g h (those f (take i xs)) in
        let m : length (those f (take i xs)) ≤ i = omega (arith, length-those f (take i xs), length-take-le i xs p.within) in
        omega (arith, p.puts.wrote.place, mul-le-mul_left k m)

    -- an element that passes the test
    pub passes : {x : A} {d : Buffer ℕ} (z : A) → get_or xs i z ≡ x → i < length xs → f x ≡ true → Put c (g x) d → Passed f g xs b (i + 1) d (count + 1)
    passes {x} z same h t q =
        let more : those f (take (i + 1) xs) ≡ those f (take i xs) ++ (x ∷ []) = rw same at (taken f xs i z h (rw same t)) in
        record {
          within = omega arith;
          puts = rw (more, lines-append g (those f (take i xs)) (x ∷ []), lines-one g x) (p.puts then q);
          counted = rw more (simp length-append (omega (arith, p.counted)));
        }

    -- one that does not
    pub fails : {x : A} (z : A) → get_or xs i z ≡ x → i < length xs → f x ≡ false → Passed f g xs b (i + 1) c count
    fails z same h t =
        let more : those f (take (i + 1) xs) ≡ those f (take i xs) = left f xs i z h (rw same t) in
        record { within = omega arith; puts = rw more p.puts; counted = rw more p.counted }

    -- after the last element
    pub at_last : length xs ≤ i → (Put b (lines g (those f xs)) c) × (count ≡ length (those f xs))
    at_last h = (rw (take_all i xs h) at p.puts, rw (take_all i xs h) at p.counted)

-- elements that do not pass, one after the other: n of them
skips : {A : Type 0} {f : A → Bool} {g : A → List ℕ} {xs : List A} {b c : Buffer ℕ} {count : ℕ} (z : A) (n i : ℕ) → i + n ≤ length xs
    → ((k : ℕ) → i ≤ k → k < i + n → f (get_or xs k z) ≡ false) → Passed f g xs b i c count → Passed f g xs b (i + n) c count
skips z zero i h t p = rw add-zero p
skips {f} {g} {xs} {b} {c} {count} z (suc n) i h t p =
    let same : i + 1 + n ≡ i + suc n = omega arith in
    subst (λ (j : ℕ). Passed f g xs b j c count) same
    (skips z n (i + 1) (omega arith) (λ k le less. t k (omega arith) (omega arith)) (fails p z refl (omega arith) (t i (omega arith) (omega arith))))

-- up to element j
pub skips-to : {A : Type 0} {f : A → Bool} {g : A → List ℕ} {xs : List A} {b : Buffer ℕ} {i : ℕ} {c : Buffer ℕ} {count : ℕ} → Passed f g xs b i c count
    → (z : A) (j : ℕ) → i ≤ j → j ≤ length xs → ((k : ℕ) → i ≤ k → k < j → f (get_or xs k z) ≡ false) → Passed f g xs b j c count
skips-to {f = f} {g = g} {xs = xs} {b = b} {i = i} {c = c} {count = count} p z j le h t =
    let same : i + (j - i) ≡ j = omega arith in
    subst (λ (m : ℕ). Passed f g xs b m c count) same (skips z (j - i) i (omega arith) (λ k le less. t k le (omega arith)) p)
