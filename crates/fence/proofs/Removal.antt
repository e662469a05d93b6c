-- What removal leaves: for one slot, for an entry, and where the removal for an entry stops on the way.
use Prim.Native.Nat.{ℕ, ◌+◌, ◌*◌, ◌/◌, ◌<◌, ◌≤◌}
use mathlib.Core.Bool.{Bool, true, false, cond, not, ◌&&◌, false≢true, and-false, not-and_self}
use mathlib.Core.List.{List}
use mathlib.Core.Logic.{◌≢◌}
use mathlib.Core.Path.{◌≡◌, refl, sym, ap, ◌∙◌}
use native.Mathlib.Nat.{zero-add}
use native.Mathlib.Omega.{arith}
use borrow.Author.Tests.{eq-eqb, ne_eqb, lt-ltb, le-ltb, ltb-true, ltb-false}
use lib.Dec.{ltb}
use lib.ListN.{length, get_or, take, drop, take-append-drop}
use lib.Seq.{take-add, take_all}
use Rattle.fence.specs.declared.entry.Fence.{Fence}
use Rattle.fence.specs.Entry.{everything}
use Rattle.fence.specs.Slots.{slot_count, slot_word}
use Rattle.fence.specs.Table.{names_slot, remove_slot, remove_slots, remove_named, named, Cleared}
use Rattle.fence.proofs.Cleared.{cleared_by, cleared-slot, cleared-word, cleared-names}
use Rattle.fence.proofs.Unreadable.{everything-names, names-used}
use Rattle.fence.proofs.Named.{has, cleared-slots, remove_slots-append, named_in, named_past, named-drop, named_count, length-named_from}

-- ---- Bools

-- what a test of a slot that is left says
left_over : (a b : Bool) → not a && b ≡ true → (b ≡ true) × (a ≡ false)
left_over true b e = absurd (false≢true e)
left_over false b e = (e, refl)

-- ---- one slot

-- the table keeps its length
pub length-remove_slot : (t : List ℕ) (i : ℕ) → length (remove_slot t i) ≡ length t
length-remove_slot t i = (cleared-slot t i).size

-- a removed slot is named by nothing
pub removed-unnamed : (g : Fence) (t : List ℕ) (i : ℕ) → names_slot g (remove_slot t i) i ≡ false
removed-unnamed g t i = rw (cleared-names (cleared-slot t i) g i, eq-eqb i i refl)

-- the other slots stay
pub other_word : (t : List ℕ) (i j k : ℕ) → i ≢ j → k < 4 → slot_word (remove_slot t i) j k ≡ slot_word t j k
other_word t i j k d h = rw (cleared-word (cleared-slot t i) j k h, ne_eqb j i (λ e. d (sym e)))

-- so what an entry names among them stays
pub other-names : (g : Fence) (t : List ℕ) (i j : ℕ) → i ≢ j → names_slot g (remove_slot t i) j ≡ names_slot g t j
other-names g t i j d = rw (cleared-names (cleared-slot t i) g j, ne_eqb j i (λ e. d (sym e)))

-- ---- a list of slots

-- the table keeps its length
pub length-remove_slots : (t is : List ℕ) → length (remove_slots t is) ≡ length t
length-remove_slots t is = (cleared-slots is t).size

-- no entry names a slot that it did not name before
pub slots-names : (g : Fence) (t is : List ℕ) (j : ℕ) → names_slot g (remove_slots t is) j ≡ true → names_slot g t j ≡ true
slots-names g t is j e = (left_over (has is j) (names_slot g t j) (sym (cleared-names (cleared-slots is t) g j) ∙ e)).0

-- ---- an entry

-- the slots that the entry names are those of the table that pass its tests
pub has_named : (f : Fence) (t : List ℕ) (j : ℕ) → has (named f t) j ≡ ltb j (slot_count t) && names_slot f t j
has_named f t j = go (ltb j (slot_count t)) refl
  where
    go : (b : Bool) → ltb j (slot_count t) ≡ b → has (named f t) j ≡ b && names_slot f t j
    go true e = named_in f t (slot_count t) 0 j (omega arith) (rw zero-add (ltb-true j (slot_count t) e))
    go false e = named_past f t (slot_count t) 0 j (rw zero-add (ltb-false j (slot_count t) e))

-- removal for an entry clears the slots that it names
pub cleared-named : (f : Fence) (t : List ℕ) → Cleared (λ j. ltb j (slot_count t) && names_slot f t j) t (remove_named f t)
cleared-named f t = cleared_by (cleared-slots (named f t) t) (has_named f t)

-- at most every slot
pub length-named : (f : Fence) (t : List ℕ) → length (named f t) ≤ slot_count t
length-named f t = length-named_from f t (slot_count t) 0

-- the table keeps its length
pub length-remove_named : (f : Fence) (t : List ℕ) → length (remove_named f t) ≡ length t
length-remove_named f t = (cleared-named f t).size

module _ (f : Fence) (t : List ℕ) where
  -- the words past the last whole slot stay
  pub remove_named-past : (n : ℕ) → 4 * slot_count t ≤ n → get_or (remove_named f t) n 0 ≡ get_or t n 0
  remove_named-past n h = rw ((cleared-named f t).words n, le-ltb (n / 4) (slot_count t) (omega arith))

  -- a slot that the entry does not name stays
  pub remove_named-kept : (j k : ℕ) → k < 4 → names_slot f t j ≡ false → slot_word (remove_named f t) j k ≡ slot_word t j k
  remove_named-kept j k h e = rw (cleared-word (cleared-named f t) j k h, e, and-false)

  module _ (j : ℕ) (h : j < slot_count t) where
    -- the closed form: a slot is zero if the entry names it, and else as it was
    pub remove_named-word : (k : ℕ) → k < 4 → slot_word (remove_named f t) j k ≡ cond (names_slot f t j) 0 (slot_word t j k)
    remove_named-word k m = rw (cleared-word (cleared-named f t) j k m, lt-ltb j (slot_count t) h)

    -- what another entry names afterwards
    pub remove_named-names : (g : Fence) → names_slot g (remove_named f t) j ≡ not (names_slot f t j) && names_slot g t j
    remove_named-names g = rw (cleared-names (cleared-named f t) g j, lt-ltb j (slot_count t) h)

    -- it named it before, and the entry did not
    pub remove_named-left : (g : Fence) → names_slot g (remove_named f t) j ≡ true → (names_slot g t j ≡ true) × (names_slot f t j ≡ false)
    remove_named-left g e = left_over (names_slot f t j) (names_slot g t j) (sym (remove_named-names g) ∙ e)

    -- the entry names nothing any more
    pub remove_named-done : names_slot f (remove_named f t) j ≡ false
    remove_named-done = remove_named-names f ∙ not-and_self (names_slot f t j)

-- a named slot is used: the entry that means every used slot names it too
pub slot-used : (f : Fence) (t : List ℕ) (j : ℕ) → names_slot f t j ≡ true → names_slot everything t j ≡ true
slot-used f t j e =
    everything-names (slot_word t j 0) (slot_word t j 1) (slot_word t j 2)
    ∙ names-used f (slot_word t j 0) (slot_word t j 1) (slot_word t j 2) e

-- the slots removed, and the used slots that are left, are as many as were used
pub removed-count : (f : Fence) (t : List ℕ) → length (named f t) + length (named everything (remove_named f t)) ≡ length (named everything t)
removed-count f t =
    rw (length-remove_named f t)
    (named_count f everything t (remove_named f t) (slot_count t) 0
    (λ j _ b. remove_named-names f t j (omega arith) everything)
    (slot-used f t))

-- ---- a removal that stops on the way

module _ (f : Fence) (t : List ℕ) (n : ℕ) where
  -- after the first n of the named slots the others are left
  pub named-rest : named f (remove_slots t (take n (named f t))) ≡ drop n (named f t)
  named-rest =
      rw (length-remove_slots t (take n (named f t)))
      (named-drop f t (remove_slots t (take n (named f t))) (slot_count t) 0 n (λ j _. cleared-names (cleared-slots (take n (named f t)) t) f j))

  -- to go on from there leaves what the whole removal leaves
  pub remove_named-resumed : remove_named f (remove_slots t (take n (named f t))) ≡ remove_named f t
  remove_named-resumed =
      ap (remove_slots (remove_slots t (take n (named f t)))) named-rest
      ∙ sym (remove_slots-append t (take n (named f t)) (drop n (named f t)))
      ∙ ap (remove_slots t) (take-append-drop n (named f t))

  -- the first n slots, and then the first k of those left, are the first n + k
  pub first_then : (k : ℕ)
      → remove_slots (remove_slots t (take n (named f t))) (take k (named f (remove_slots t (take n (named f t)))))
      ≡ remove_slots t (take (n + k) (named f t))
  first_then k =
      ap (λ (is : List ℕ). remove_slots (remove_slots t (take n (named f t))) (take k is)) named-rest
      ∙ sym (remove_slots-append t (take n (named f t)) (take k (drop n (named f t))))
      ∙ ap (remove_slots t) (sym (take-add n k (named f t)))

  -- as many as there are, or more, are all
  pub first-all : length (named f t) ≤ n → remove_slots t (take n (named f t)) ≡ remove_named f t
  first-all h = ap (remove_slots t) (take_all n (named f t) h)
