-- Several entries, one after the other: what they name together, and what their removals leave.
use Prim.Native.Nat.{ℕ, ◌*◌, ◌/◌, ◌<◌, ◌≤◌}
use mathlib.Core.Bool.{Bool, true, false, cond, not, ◌&&◌, ◌||◌, and-false, and-or_distrib_left, or_self_left, or-false, or_comm, or_assoc}
use mathlib.Core.List.{List, [], ◌∷◌, ◌++◌}
use mathlib.Core.Path.{◌≡◌, refl, sym}
use native.Mathlib.Omega.{arith}
use borrow.Author.Tests.{lt-ltb, le-ltb, ltb-true}
use lib.Dec.{ltb}
use lib.ListN.{length, get_or}
use Rattle.fence.specs.declared.entry.Fence.{Fence}
use Rattle.fence.specs.Slots.{slot_count, slot_word}
use Rattle.fence.specs.Table.{names_slot, remove_named, Cleared}
use Rattle.fence.proofs.Cleared.{cleared-none, cleared_by, cleared-then, cleared-same, cleared-word, cleared-names}
use Rattle.fence.proofs.Removal.{cleared-named, length-remove_named}

-- the table with every slot removed that one of the entries names, Pending or not, one entry after the other
abbrev pub remove_all : List Fence → List ℕ → List ℕ
remove_all [] t = t
remove_all (f ∷ fs) t = remove_all fs (remove_named f t)

-- some of the entries names slot i of the table
abbrev pub any_names : List Fence → List ℕ → ℕ → Bool
any_names [] t i = false
any_names (f ∷ fs) t i = names_slot f t i || any_names fs t i

-- named by the first, or else by one of the others
or_else : (l a b : Bool) → l && a || l && (not (l && a) && b) ≡ l && (a || b)
or_else true true b = refl
or_else true false b = refl
or_else false a b = refl

-- what is cleared, no entry of the list names
pub cleared-any : {b : ℕ → Bool} {t u : List ℕ} → Cleared b t u → (fs : List Fence) (j : ℕ) → any_names fs u j ≡ not (b j) && any_names fs t j
cleared-any {b} c [] j = sym (and-false (not (b j)))
cleared-any {b} {t} c (f ∷ fs) j =
    rw (cleared-names c f j, cleared-any c fs j)
    (sym (and-or_distrib_left (not (b j)) (names_slot f t j) (any_names fs t j)))

-- the slots that some entry names in the table as it was at the start are cleared
pub cleared-all : (fs : List Fence) (t : List ℕ) → Cleared (λ j. ltb j (slot_count t) && any_names fs t j) t (remove_all fs t)
cleared-all [] t = cleared_by (cleared-none t) (λ j. sym (and-false (ltb j (slot_count t))))
cleared-all (f ∷ fs) t =
    cleared_by (cleared-then (cleared-named f t) (cleared-all fs (remove_named f t)))
    (λ j. rw (length-remove_named f t, cleared-any (cleared-named f t) fs j)
    (or_else (ltb j (slot_count t)) (names_slot f t j) (any_names fs t j)))

-- the table keeps its length
pub length-remove_all : (fs : List Fence) (t : List ℕ) → length (remove_all fs t) ≡ length t
length-remove_all fs t = (cleared-all fs t).size

-- the closed form: a slot is zero if some entry names it, and else as it was
pub remove_all-word : (fs : List Fence) (t : List ℕ) (j : ℕ) → j < slot_count t
    → (k : ℕ) → k < 4 → slot_word (remove_all fs t) j k ≡ cond (any_names fs t j) 0 (slot_word t j k)
remove_all-word fs t j h k m = rw (cleared-word (cleared-all fs t) j k m, lt-ltb j (slot_count t) h)

-- the words past the last whole slot stay
pub remove_all-past : (fs : List Fence) (t : List ℕ) (n : ℕ) → 4 * slot_count t ≤ n → get_or (remove_all fs t) n 0 ≡ get_or t n 0
remove_all-past fs t n h = rw ((cleared-all fs t).words n, le-ltb (n / 4) (slot_count t) (omega arith))

-- what another list of entries names afterwards
pub remove_all-names : (fs gs : List Fence) (t : List ℕ) (j : ℕ) → j < slot_count t
    → any_names gs (remove_all fs t) j ≡ not (any_names fs t j) && any_names gs t j
remove_all-names fs gs t j h = rw (cleared-any (cleared-all fs t) gs j, lt-ltb j (slot_count t) h)

-- with some slots cleared already that the entries name, they leave the same
pub remove_all-after : {b : ℕ → Bool} {t u : List ℕ} → Cleared b t u → (fs : List Fence)
    → ((j : ℕ) → b j ≡ true → ltb j (slot_count t) && any_names fs t j ≡ true) → remove_all fs u ≡ remove_all fs t
remove_all-after {b} {t} {u} c fs h =
    cleared-same (cleared-then c (cleared-all fs u)) (cleared-all fs t) (λ j _. rw (c.size, cleared-any c fs j) (go j (b j) refl))
  where
    go : (j : ℕ) (x : Bool) → b j ≡ x → x || (ltb j (slot_count t) && (not x && any_names fs t j)) ≡ ltb j (slot_count t) && any_names fs t j
    go j true e = sym (h j e)
    go j false e = refl

-- one list of entries and then another
pub remove_all-append : (fs gs : List Fence) (t : List ℕ) → remove_all (fs ++ gs) t ≡ remove_all gs (remove_all fs t)
remove_all-append [] gs t = refl
remove_all-append (f ∷ fs) gs t = remove_all-append fs gs (remove_named f t)

-- what two lists name together
pub any_names-append : (fs gs : List Fence) (t : List ℕ) (j : ℕ) → any_names (fs ++ gs) t j ≡ any_names fs t j || any_names gs t j
any_names-append [] gs t j = refl
any_names-append (f ∷ fs) gs t j = rw (any_names-append fs gs t j) (sym (or_assoc (names_slot f t j) (any_names fs t j) (any_names gs t j)))

-- lists of entries that name the same slots leave the same table
pub remove_all-same : (fs gs : List Fence) (t : List ℕ) → ((j : ℕ) → j < slot_count t → any_names fs t j ≡ any_names gs t j)
    → remove_all fs t ≡ remove_all gs t
remove_all-same fs gs t h = cleared-same (cleared-all fs t) (cleared-all gs t) (λ j _. go j (ltb j (slot_count t)) refl)
  where
    go : (j : ℕ) (b : Bool) → ltb j (slot_count t) ≡ b → b && any_names fs t j ≡ b && any_names gs t j
    go j true e = h j (ltb-true j (slot_count t) e)
    go j false e = refl

-- removing twice is removing once
pub remove_named-twice : (f : Fence) (t : List ℕ) → remove_named f (remove_named f t) ≡ remove_named f t
remove_named-twice f t = remove_all-same (f ∷ f ∷ []) (f ∷ []) t (λ j _. or_self_left (names_slot f t j) false)

-- the order does not matter
pub remove_named-swap : (f g : Fence) (t : List ℕ) → remove_named f (remove_named g t) ≡ remove_named g (remove_named f t)
remove_named-swap f g t = remove_all-same (g ∷ f ∷ []) (f ∷ g ∷ []) t (λ j _. simp or-false (or_comm (names_slot g t j) (names_slot f t j)))
