-- A part of memory: taking it out and putting other bytes in its place.
use mathlib.Core.Path.{◌≡◌, sym, ap, ap₂, ◌∙◌, subst}
use mathlib.Core.List.{List, ◌++◌, append_assoc}
use mathlib.Core.Logic.{◌⊎◌, inl, inr}
use Prim.Native.Nat.{ℕ, ◌+◌, ◌-◌, ◌≤◌, ◌<◌}
use native.Mathlib.Omega.{arith}
use lib.ListN.{length, get_or, get_or-append, take, drop, length-append, length-take, length-drop, take-append-drop}
use lib.Seq.{get_or-take, get_or-drop, get_or-append-add, take_at, drop_at, length-take-le}
use Rattle.world.specs.Memory.{part_at, with_part}

-- there is room for n bytes at offset o
abbrev pub Room : ℕ → ℕ → List ℕ → Type 0
Room n o m = o + n ≤ length m

-- the part put back is memory as it was
pub with-same : (n o : ℕ) (m : List ℕ) → with_part n o (part_at n o m) m ≡ m
unfolding with_part part_at
with-same n o m = ap (λ (l : List ℕ). take o m ++ l) (take-append-drop n (drop o m)) ∙ take-append-drop o m

-- byte k of a part
pub part-byte : (n o : ℕ) (m : List ℕ) (k : ℕ) → k < n → get_or (part_at n o m) k 0 ≡ get_or m (o + k) 0
unfolding part_at
part-byte n o m k b = get_or-take n (drop o m) k 0 b ∙ get_or-drop o m k 0

-- where there is room for the part
module _ (n o : ℕ) (m : List ℕ) (r : Room n o m) where
  pub part_length : length (part_at n o m) ≡ n
  unfolding part_at
  part_length = length-take-le n (drop o m) (simp length-drop (omega arith))

  head-length : length (take o m) ≡ o
  head-length = length-take-le o m (omega arith)

  -- other bytes p in its place
  module _ (p : List ℕ) (g : length p ≡ n) where
    pub with-length : length (with_part n o p m) ≡ length m
    unfolding with_part
    with-length = simp (length-append, length-take, length-drop, g) (omega arith)

    -- the part that was put in is the part
    pub part-with : part_at n o (with_part n o p m) ≡ p
    unfolding with_part part_at
    part-with = ap (take n) (drop_at (take o m) (p ++ drop n (drop o m)) o head-length) ∙ take_at p (drop n (drop o m)) n g

    -- the part that is put in last counts
    pub with-with : (q : List ℕ) → with_part n o q (with_part n o p m) ≡ with_part n o q m
    unfolding with_part
    with-with q =
        ap₂ (λ (x y : List ℕ). x ++ (q ++ y)) (take_at (take o m) (p ++ drop n (drop o m)) o head-length)
        (ap (drop n) (drop_at (take o m) (p ++ drop n (drop o m)) o head-length) ∙ drop_at p (drop n (drop o m)) n g)

    -- bytes outside the part stay
    pub outside-stays : (j : ℕ) → (j < o) ⊎ (o + n ≤ j) → get_or (with_part n o p m) j 0 ≡ get_or m j 0
    unfolding with_part
    outside-stays j (inl b) =
        get_or-append (take o m) (p ++ drop n (drop o m)) 0 j (subst (λ (l : ℕ). j < l) (sym head-length) b) ∙ get_or-take o m j 0 b
    outside-stays j (inr b) =
        ap (λ (l : List ℕ). get_or l j 0) (sym (append_assoc (take o m) p (drop n (drop o m))))
        ∙ ap (λ (i : ℕ). get_or ((take o m ++ p) ++ drop n (drop o m)) i 0) at
        ∙ get_or-append-add (take o m ++ p) (drop n (drop o m)) k 0
        ∙ get_or-drop n (drop o m) k 0 ∙ get_or-drop o m (n + k) 0 ∙ ap (λ (i : ℕ). get_or m i 0) back
      where
        k : ℕ
        k = j - (o + n)

        both : length (take o m ++ p) ≡ o + n
        both = length-append (take o m) p ∙ ap₂ ◌+◌ head-length g

        at : j ≡ length (take o m ++ p) + k
        at = omega (arith, both)

        back : o + (n + k) ≡ j
        back = omega arith
