-- The count of the writes that dropped bits.
use mathlib.Core.Path.{◌≡◌, ◌∙◌}
use mathlib.Core.Logic.{⊎_elim}
use Prim.Native.Nat.{ℕ, zero, suc, ◌+◌, ◌-◌, ◌≤◌, ◌<◌, min}
use native.Mathlib.Decide.{dec_lt}
use native.Mathlib.Nat.{eq-or-lt_of_le, min-eq_left, min-eq_right}
use native.Mathlib.Omega.{arith}
use borrow.Author.Tests.{lt-ltb, le-ltb}
use Rattle.hart.specs.Dropped.{most_dropped, more_dropped}

-- as long as there is room each write counts
pub more-sum : (k n : ℕ) → n + k ≤ most_dropped → more_dropped k n ≡ n + k
unfolding more_dropped
more-sum zero n le = omega arith
more-sum (suc k) n le =
    rw (lt-ltb n most_dropped (omega arith))
    (more-sum k (n + 1) (omega arith) ∙ (let e : n + 1 + k ≡ n + suc k = omega arith in e))

-- and then it stays
pub more-most : (k n : ℕ) → n ≤ most_dropped → most_dropped ≤ n + k → more_dropped k n ≡ most_dropped
unfolding more_dropped
more-most zero n le room = omega arith
more-most (suc k) n le room =
    ⊎_elim (λ e. rw (le-ltb n most_dropped (omega arith)) (more-most k n le (omega arith)))
    (λ lt. rw (lt-ltb n most_dropped lt) (more-most k (n + 1) (omega arith) (omega arith))) (eq-or-lt_of_le le)

-- in one: as many count as there is room for
pub more-min : (k n : ℕ) → n ≤ most_dropped → more_dropped k n ≡ n + min k (most_dropped - n)
more-min k n le = go (dec_lt most_dropped (n + k))
  where
    go : Dec (most_dropped < n + k) → more_dropped k n ≡ n + min k (most_dropped - n)
    go (yes over) = rw (min-eq_right {n = most_dropped - n} {m = k} (omega arith)) (let e = more-most k n le (omega arith) in omega arith)
    go (no fits) = rw (min-eq_left {n = k} {m = most_dropped - n} (omega arith)) (more-sum k n (omega arith))
