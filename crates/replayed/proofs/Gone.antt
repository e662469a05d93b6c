-- The used slots of a table from which whole slots were removed.
use mathlib.Core.Bool.{Bool, true, false, cond, not, ◌&&◌}
use mathlib.Core.Path.{◌≡◌, refl}
use mathlib.Core.List.{List}
use mathlib.Core.Logic.{◌⊎◌, inl, inr}
use Prim.Native.Nat.{ℕ, zero, suc, ◌+◌, ◌<◌, ◌/◌, ◌^◌}
use native.Mathlib.Nat.{mod-lt}
use native.Mathlib.Omega.{arith}
use lib.Dec.{eqb}
use Rattle.layout.specs.Bits.{field}
use Rattle.fence.specs.Slots.{slot_word, used}
use Rattle.claims.specs.Claims.{Kept, Removed}
use Rattle.apply.specs.Used.{used_among}
use Rattle.replayed.specs.Claims.{gone_among}

-- a bit is 1 where it says so
bit-said : (x : ℕ) → x < 2 → x ≡ 0 + cond (eqb x 1 && true) 1 0
bit-said zero b = refl
bit-said (suc zero) b = refl
bit-said (suc (suc x)) b = absurd (omega arith)

-- no bit is both
not-both : (t : Bool) → ◌≡◌ {A = ℕ} (cond (t && not t) 1 0) 0
not-both true = refl
not-both false = refl

-- one slot
slot-gone : (t t' : List ℕ) (i : ℕ) → Kept t t' i ⊎ Removed t' i
    → field (slot_word t i 0) 63 1 ≡ field (slot_word t' i 0) 63 1 + cond (used (slot_word t i 0) && not (used (slot_word t' i 0))) 1 0
slot-gone t t' i (inl k) = rw (k 0 (omega arith), not-both (used (slot_word t i 0))) (omega arith)
slot-gone t t' i (inr r) = rw (r 0 (omega arith)) (bit-said (field (slot_word t i 0) 63 1) (mod-lt (slot_word t i 0 / 2 ^ 63) {m = 2} (omega arith)))

-- the slots used before are those used after and those that are gone
pub used-gone : (n : ℕ) (t t' : List ℕ) → ((i : ℕ) → i < n → Kept t t' i ⊎ Removed t' i) → used_among n t ≡ used_among n t' + gone_among n t t'
unfolding used_among gone_among
used-gone zero t t' f = refl
used-gone (suc n) t t' f = omega (arith, used-gone n t t' (λ i b. f i (omega arith)), slot-gone t t' n (f n (omega arith)))

-- where every slot is kept none is gone
pub none-gone : (n : ℕ) (t t' : List ℕ) → ((i : ℕ) → i < n → Kept t t' i) → gone_among n t t' ≡ 0
unfolding gone_among
none-gone zero t t' f = refl
none-gone (suc n) t t' f =
    rw (none-gone n t t' (λ i b. f i (omega arith)), f n (omega arith) 0 (omega arith), not-both (used (slot_word t n 0)))
