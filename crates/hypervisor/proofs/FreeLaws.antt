-- The lowest entry that is not Pending.
use mathlib.Core.Path.{◌≡◌, refl, sym, ◌∙◌}
use mathlib.Core.Bool.{Bool, true, false, cond}
use mathlib.Core.List.{List}
use Prim.Native.Nat.{ℕ, zero, suc, ◌+◌, ◌≤◌, ◌<◌}
use native.Mathlib.Nat.{add-zero, zero-add}
use native.Mathlib.Decide.{ℕ_discrete}
use native.Mathlib.Omega.{arith}
use Rattle.layout.specs.declared.xlen.Xlen.{Xlen}
use Rattle.layout.specs.Width.{bytes}
use Rattle.layout.specs.Geometry.{entry_count}
use Rattle.page.specs.Entries.{is_pending}
use Rattle.hypervisor.specs.Requests.{free_from, free}

module _ (x : Xlen) (p : List ℕ) where
  -- every entry before the one found is Pending
  from-passed : (e n d : ℕ) → e ≤ d → d < free_from x p e n → is_pending x p d ≡ true
  unfolding free_from
  from-passed e zero d l h = absurd (omega arith)
  from-passed e (suc n) d l h = go (is_pending x p e) refl h (ℕ_discrete d e) (from-passed (e + 1) n d)
    where
      go : (b : Bool) → is_pending x p e ≡ b → d < cond b (free_from x p (e + 1) n) e → Dec (d ≡ e)
          → (e + 1 ≤ d → d < free_from x p (e + 1) n → is_pending x p d ≡ true) → is_pending x p d ≡ true
      go true t h (yes q) ih = rw q t
      go true t h (no q) ih = ih (omega arith) h
      go false t h q ih = absurd (omega arith)

  -- the one found, if it is one of the n, is not
  from_found : (e n : ℕ) → free_from x p e n < e + n → is_pending x p (free_from x p e n) ≡ false
  unfolding free_from
  from_found e zero h = absurd (omega arith)
  from_found e (suc n) h = go (is_pending x p e) refl h (from_found (e + 1) n)
    where
      go : (b : Bool) → is_pending x p e ≡ b → cond b (free_from x p (e + 1) n) e < e + suc n
          → (free_from x p (e + 1) n < e + 1 + n → is_pending x p (free_from x p (e + 1) n) ≡ false)
          → is_pending x p (cond b (free_from x p (e + 1) n) e) ≡ false
      go true t h ih = ih (omega arith)
      go false t h ih = t

  -- where all n are Pending, none is found
  from-full : (e n : ℕ) → ((d : ℕ) → e ≤ d → d < e + n → is_pending x p d ≡ true) → free_from x p e n ≡ e + n
  unfolding free_from
  from-full e zero f = sym (add-zero e)
  from-full e (suc n) f =
      rw (f e (omega arith) (omega arith)) (let rest = from-full (e + 1) n (λ d l h. f d (omega arith) (omega arith)) in omega arith)

  -- the same of a page's entries
  pub free-lowest : (d : ℕ) → d < free x p → is_pending x p d ≡ true
  unfolding free
  free-lowest d h = from-passed 0 (entry_count (bytes x)) d (omega arith) h

  pub free-clear : free x p < entry_count (bytes x) → is_pending x p (free x p) ≡ false
  unfolding free
  free-clear h = from_found 0 (entry_count (bytes x)) (omega arith)

  pub free-full : ((d : ℕ) → d < entry_count (bytes x) → is_pending x p d ≡ true) → free x p ≡ entry_count (bytes x)
  unfolding free
  free-full f = from-full 0 (entry_count (bytes x)) (λ d l h. f d (omega arith)) ∙ zero-add (entry_count (bytes x))
