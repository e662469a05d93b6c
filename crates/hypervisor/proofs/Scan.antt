-- The lowest entry that is not Pending.
use mathlib.Core.Path.{◌≡◌, refl, sym, subst, ◌∙◌}
use mathlib.Core.Bool.{Bool, true, false, cond, not}
use mathlib.Core.List.{List}
use Prim.Native.Nat.{ℕ, zero, suc, ◌+◌, ◌≤◌, ◌<◌}
use native.Mathlib.Nat.{zero-add}
use native.Mathlib.Omega.{arith}
use Rattle.std.specs.Prelude.{Option, Some, None, MatchOption}
use Rattle.std.specs.Option.{option_map}
use Rattle.std.specs.List.{find, range_with_len}
use Rattle.layout.specs.declared.xlen.Xlen.{Xlen}
use Rattle.layout.specs.Width.{bytes}
use Rattle.layout.specs.Geometry.{entry_count}
use Rattle.hart.proofs.Tests.{cond-all}
use Rattle.page.specs.Entries.{is_pending}
use Rattle.hypervisor.specs.Requests.{free_from, free, FreeIs}

-- the entry that was found, if one was, is the number f, which is below m; if none was, f is m
abbrev Found : ℕ → ℕ → Option ℕ → Type 0
Found f m found = MatchOption found (f ≡ m) (λ e. (e ≡ f) × (e < m))

module _ (x : Xlen) (p : List ℕ) where
  -- the first of n entries from e on that is not Pending
  found-from : (e n : ℕ) → Found (free_from x p e n) (e + n) (find (λ d. not (is_pending x p d)) (range_with_len e n))
  unfolding free_from
  found-from e zero = omega arith
  found-from e (suc n) = go (is_pending x p e) (free_from x p (e + 1) n) _ (found-from (e + 1) n)
    where
      go : (b : Bool) (f : ℕ) (o : Option ℕ) → Found f (e + 1 + n) o → Found (cond b f e) (e + suc n) (cond (not b) (Some e) o)
      go true f o h = let at : e + 1 + n ≡ e + suc n = omega arith in subst (λ (m : ℕ). Found f m o) at h
      go false f o h = (refl, omega arith)

  -- a search of every entry finds the lowest
  pub free-found : (found : Option ℕ)
      → option_map (λ (e : ℕ). e) found ≡ find (λ d. not (is_pending x p d)) (range_with_len 0 (entry_count (bytes x))) → FreeIs x p found
  unfolding free
  free-found found e =
      subst (Found (free_from x p 0 (entry_count (bytes x))) (entry_count (bytes x))) (sym e ∙ same found)
      (rw zero-add at (found-from 0 (entry_count (bytes x))))
    where
      same : (o : Option ℕ) → option_map (λ (e : ℕ). e) o ≡ o
      same None = refl
      same (Some n) = refl

  -- what is found is the lowest, and where none is, there is none
  pub some-free : {found : Option ℕ} {e : ℕ} → FreeIs x p found → found ≡ Some e → (e ≡ free x p) × (e < entry_count (bytes x))
  some-free f s = rw s at f

  pub none-free : {found : Option ℕ} → FreeIs x p found → found ≡ None → free x p ≡ entry_count (bytes x)
  none-free f n = rw n at f

-- it is the number of the entries, or below
from-most : (x : Xlen) (p : List ℕ) (e n : ℕ) → free_from x p e n ≤ e + n
unfolding free_from
from-most x p e zero = omega arith
from-most x p e (suc n) = cond-all (λ (r : ℕ). r ≤ e + suc n) (is_pending x p e) (omega (arith, from-most x p (e + 1) n)) (omega arith)

pub free-most : (x : Xlen) (p : List ℕ) → free x p ≤ entry_count (bytes x)
unfolding free
free-most x p = omega (arith, from-most x p 0 (entry_count (bytes x)))
