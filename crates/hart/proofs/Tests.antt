-- Facts about each number of a list or of a range, found by a test that antt computes.
use mathlib.Core.Bool.{Bool, true, false, cond, ◌&&◌}
use mathlib.Core.List.{List, [], ◌∷◌}
use mathlib.Core.Logic.{⊎_elim}
use mathlib.Core.Path.{sym, subst}
use Prim.Native.Nat.{ℕ, zero, suc, ◌<◌}
use native.Mathlib.Nat.{eq-or-lt_of_le, le_of_suc-le-suc, not-suc-le-zero}
use lib.Dec.{T}
use mir.Facts.{and_yes}

-- what holds of both arms holds of the choice
pub cond-all : (P : ℕ → Type 0) (b : Bool) {x y : ℕ} → P x → P y → P (cond b x y)
cond-all P true p q = p
cond-all P false p q = q

-- P of each number of the list
abbrev pub All : (ℕ → Type 0) → List ℕ → Type 0
All P [] = Unit {0}
All P (k ∷ ks) = P k × All P ks

-- the test passes at each number below n
abbrev pub upto : (ℕ → Bool) → ℕ → Bool
upto p zero = true
upto p (suc n) = p n && upto p n

-- a test that passes at each number below n passes at one of them
pub upto-at : (p : ℕ → Bool) (n : ℕ) → T (upto p n) → (k : ℕ) → k < n → T (p k)
upto-at p zero t k h = absurd (not-suc-le-zero h)
upto-at p (suc n) t k h =
    let q = and_yes (p n) (upto p n) t in
    ⊎_elim (λ e. subst (λ (j : ℕ). T (p j)) (sym e) q.0) (upto-at p n q.1 k) (eq-or-lt_of_le (le_of_suc-le-suc h))
