-- The elements of a list that pass a test, and their lines.
use mathlib.Core.Path.{◌≡◌, refl, sym, ap, ◌∙◌}
use mathlib.Core.Bool.{Bool, true, false, cond, ◌&&◌}
use mathlib.Core.List.{List, [], ◌∷◌, ◌++◌, append_assoc, append-nil}
use Prim.Native.Nat.{ℕ, zero, suc, ◌+◌, ◌*◌, ◌≤◌, ◌<◌}
use native.Mathlib.Nat.{mul-suc}
use native.Mathlib.Omega.{arith}
use lib.ListN.{length, get_or, length-append}
use Rattle.csr.specs.Csrs.{Csr, Vsatp, every_csr, has, those as had, nth, at_turn}
use Rattle.layout.specs.declared.xlen.Xlen.{Xlen}
use Rattle.layout.specs.declared.xlen.Xlen.TheVariants.{X32, X64}
use Rattle.layout.specs.Width.{bytes}
use Rattle.layout.specs.Geometry.{entry_count}
use Rattle.page.specs.Entries.{entries_from, every_entry}
use Rattle.lister.specs.Marks.{kept, those}
use Rattle.lister.specs.Listing.{lines}

module _ {A : Type 0} where
  pub those-append : (f : A → Bool) (xs ys : List A) → those f (xs ++ ys) ≡ those f xs ++ those f ys
  unfolding those
  those-append f [] ys = refl
  those-append f (x ∷ xs) ys = go (f x) (those-append f xs ys)
    where
      go : (b : Bool) → those f (xs ++ ys) ≡ those f xs ++ those f ys → kept b x (those f (xs ++ ys)) ≡ kept b x (those f xs) ++ those f ys
      go true h = ap (λ (l : List A). x ∷ l) h
      go false h = h

  pub length-those : (f : A → Bool) (xs : List A) → length (those f xs) ≤ length xs
  unfolding those
  length-those f [] = omega arith
  length-those f (x ∷ xs) = go (f x) (length-those f xs)
    where
      go : (b : Bool) → length (those f xs) ≤ length xs → length (kept b x (those f xs)) ≤ suc (length xs)
      go true h = omega arith
      go false h = omega arith

  pub lines-append : (g : A → List ℕ) (xs ys : List A) → lines g (xs ++ ys) ≡ lines g xs ++ lines g ys
  unfolding lines
  lines-append g [] ys = refl
  lines-append g (x ∷ xs) ys = ap (λ (l : List ℕ). g x ++ l) (lines-append g xs ys) ∙ sym (append_assoc (g x) (lines g xs) (lines g ys))

  -- one line
  pub lines-one : (g : A → List ℕ) (x : A) → lines g (x ∷ []) ≡ g x
  unfolding lines
  lines-one g x = append-nil (g x)

  -- lines of at most b bytes each
  pub length-lines : (b : ℕ) (g : A → List ℕ) → ((x : A) → length (g x) ≤ b) → (xs : List A) → length (lines g xs) ≤ b * length xs
  unfolding lines
  length-lines b g h [] = omega arith
  length-lines b g h (x ∷ xs) =
      simp length-append
      (let m : b * suc (length xs) ≡ b * length xs + b = mul-suc b (length xs) in omega (arith, h x, length-lines b g h xs))

-- those of a list that a width has and that pass a test
pub those-had : (x : Xlen) (f : Csr → Bool) (cs : List Csr) → those (λ (c : Csr). has x c && f c) cs ≡ those f (had x cs)
unfolding those
those-had x f [] = refl
those-had x f (c ∷ cs) = go (has x c) (those-had x f cs)
  where
    go : (b : Bool) → those (λ (d : Csr). has x d && f d) cs ≡ those f (had x cs)
        → kept (b && f c) c (those (λ (d : Csr). has x d && f d) cs) ≡ those f (cond b (c ∷ []) [] ++ had x cs)
    go true h = ap (kept (f c) c) h
    go false h = h

-- a register's place among those of either width
nth-at : (cs : List Csr) (t : ℕ) → get_or cs t Vsatp ≡ nth cs t
nth-at [] t = refl
nth-at (c ∷ cs) zero = refl
nth-at (c ∷ cs) (suc t) = nth-at cs t

pub turn_at : (t : ℕ) → get_or every_csr t Vsatp ≡ at_turn t
turn_at t = nth-at every_csr t

-- an entry's place among the entries
entries_at : (n e i : ℕ) → i < n → get_or (entries_from e n) i 0 ≡ e + i
entries_at zero e i h = absurd (omega arith)
entries_at (suc n) e zero h = omega arith
entries_at (suc n) e (suc i) h = entries_at n (e + 1) i (omega arith) ∙ omega arith

pub entry-at : (x : Xlen) (e : ℕ) → e < entry_count (bytes x) → get_or (every_entry x) e 0 ≡ e
entry-at x e h = entries_at (entry_count (bytes x)) 0 e h ∙ omega arith

pub entry-count : (x : Xlen) → length (every_entry x) ≡ entry_count (bytes x)
entry-count X32 = refl
entry-count X64 = refl
