-- A register by its number: whether its parameters are good, and its two stores, one after the other.
use Rattle.std.specs.Prelude.{Option, Some, None}
use mathlib.Core.Path.{◌≡◌, refl, ap, ◌∙◌}
use mathlib.Core.Bool.{true, false}
use mathlib.Core.List.{List}
use Prim.Native.Nat.{ℕ, ◌≤◌}
use lib.ListN.{take}
use lib.Seq.{take_all}
use Rattle.layout.specs.declared.xlen.Xlen.{Xlen}
use Rattle.layout.specs.Width.{bytes}
use Rattle.layout.specs.Geometry.{csr_at}
use Rattle.layout.specs.Words.{put_word}
use Rattle.layout.specs.Dirty.{set_dirty}
use Rattle.csr.specs.Csrs.{at_turn, lookup}
use Rattle.hart.specs.WellMade.{fits_word}
use Rattle.page.specs.Registers.{index}
use Rattle.hypervisor.specs.Requests.{Register, good_register, good_params, register_stores, stores, stored_all, left_after, left}

module _ (x : Xlen) (n v : ℕ) where
  pub unfit : fits_word x v ≡ false → good_params x (Register n v) ≡ false
  unfit u = go (lookup x n)
    where
      go : (f : Option ℕ) → good_register x v f ≡ false
      go (Some t) = u
      go None = refl

  pub unknown : lookup x n ≡ None → good_params x (Register n v) ≡ false
  unknown l = ap (good_register x v) l

  pub known : {t : ℕ} → lookup x n ≡ Some t → fits_word x v ≡ true → good_params x (Register n v) ≡ true
  known l f = ap (good_register x v) l ∙ f

-- the stores of the register at turn t
module _ (x : Xlen) (v t : ℕ) (p : List ℕ) where
  -- the page after the first n of them
  abbrev pub After : ℕ → List ℕ → Type 0
  After n q = q ≡ stored_all x (take n (register_stores x v (Some t))) p

  pub after_none : After 0 p
  unfolding stored_all
  after_none = refl

  pub after-word : {i : ℕ} {q : List ℕ} → i ≡ index (at_turn t) → q ≡ put_word (bytes x) p (csr_at (bytes x) i) v → After 1 q
  unfolding stored_all
  after-word e a = rw e at a

  pub after-mark : (n : ℕ) {i : ℕ} {q r : List ℕ} → 2 ≤ n → After 1 q → i ≡ index (at_turn t) → r ≡ set_dirty q i → After n r
  unfolding stored_all
  after-mark n m s e b = rw (take_all n (register_stores x v (Some t)) m) (rw (s, e) at b)

-- the register being the one with the number, they are the request's
pub stored-found : (x : Xlen) (m v : ℕ) (p : List ℕ) (n : ℕ) {t : ℕ} {q : List ℕ} → lookup x m ≡ Some t → After x v t p n q
    → q ≡ stored_all x (take n (stores x (Register m v) p)) p
unfolding stores
stored-found x m v p n l s = rw l s

-- none or both of them are at most two
pub all_two : (x : Xlen) (m v : ℕ) (p : List ℕ) → left_after 2 x (Register m v) p ≡ left x (Register m v) p
unfolding left_after left stores
all_two x m v p = rw (two (lookup x m))
  where
    two : (f : Option ℕ) → take 2 (register_stores x v f) ≡ register_stores x v f
    two (Some t) = refl
    two None = refl
