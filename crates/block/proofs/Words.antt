-- Every word of a short block put in, and words put behind a list.
use mathlib.Core.Path.{◌≡◌, refl, ap, ◌∙◌, subst}
use mathlib.Core.List.{List, [], ◌∷◌, ◌++◌}
use Prim.Native.Nat.{ℕ, ◌+◌}
use native.Mathlib.Nat.{zero-add, suc-add}
use native.Mathlib.Omega.{arith}
use lib.ListN.{length, set}

-- two words put in a block of two
pub two : (b : List ℕ) (p q : ℕ) → length b ≡ 2 → set (set b 0 p) 1 q ≡ p ∷ q ∷ []
two (a₁ ∷ a₂ ∷ []) p q e = refl
two [] p q e = absurd (omega arith)
two (a₁ ∷ []) p q e = absurd (omega arith)
two (a₁ ∷ a₂ ∷ a₃ ∷ l) p q e = absurd (omega arith)

-- three in one of three
three : (b : List ℕ) (p q r : ℕ) → length b ≡ 3 → set (set (set b 0 p) 1 q) 2 r ≡ p ∷ q ∷ r ∷ []
three (a₁ ∷ a₂ ∷ a₃ ∷ []) p q r e = refl
three [] p q r e = absurd (omega arith)
three (a₁ ∷ []) p q r e = absurd (omega arith)
three (a₁ ∷ a₂ ∷ []) p q r e = absurd (omega arith)
three (a₁ ∷ a₂ ∷ a₃ ∷ a₄ ∷ l) p q r e = absurd (omega arith)

-- five in one of five
pub five : (b : List ℕ) (p q r s t : ℕ) → length b ≡ 5 → set (set (set (set (set b 0 p) 1 q) 2 r) 3 s) 4 t ≡ p ∷ q ∷ r ∷ s ∷ t ∷ []
five (a₁ ∷ a₂ ∷ a₃ ∷ a₄ ∷ a₅ ∷ []) p q r s t e = refl
five [] p q r s t e = absurd (omega arith)
five (a₁ ∷ []) p q r s t e = absurd (omega arith)
five (a₁ ∷ a₂ ∷ []) p q r s t e = absurd (omega arith)
five (a₁ ∷ a₂ ∷ a₃ ∷ []) p q r s t e = absurd (omega arith)
five (a₁ ∷ a₂ ∷ a₃ ∷ a₄ ∷ []) p q r s t e = absurd (omega arith)
five (a₁ ∷ a₂ ∷ a₃ ∷ a₄ ∷ a₅ ∷ a₆ ∷ l) p q r s t e = absurd (omega arith)

-- a word behind a list
set-behind : (l b : List ℕ) (k v : ℕ) → set (l ++ b) (length l + k) v ≡ l ++ set b k v
set-behind [] b k v = ap (λ (j : ℕ). set b j v) (zero-add k)
set-behind (x ∷ l) b k v =
    ap (λ (j : ℕ). set (x ∷ (l ++ b)) j v) (suc-add (length l) k) ∙ ap (λ (r : List ℕ). x ∷ r) (set-behind l b k v)

-- three words, in the place of the three behind n
pub three-behind : (l b : List ℕ) (n p q r : ℕ) → length l ≡ n → length b ≡ 3
    → set (set (set (l ++ b) (n + 0) p) (n + 1) q) (n + 2) r ≡ l ++ (p ∷ q ∷ r ∷ [])
three-behind l b n p q r e f =
    rw (put b 0 p, put (set b 0 p) 1 q, put (set (set b 0 p) 1 q) 2 r) (ap (λ (d : List ℕ). l ++ d) (three b p q r f))
  where
    put : (d : List ℕ) (k v : ℕ) → set (l ++ d) (n + k) v ≡ l ++ set d k v
    put d k v = subst (λ (m : ℕ). set (l ++ d) (m + k) v ≡ l ++ set d k v) e (set-behind l d k v)
