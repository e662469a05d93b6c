-- The slots of the translation table that an entry names, and their removal (01, "Fence entries").
use Rattle.std.specs.Prelude.{◌≡◌, Bool, cond, List, [], ◌∷◌, ℕ, zero, suc, ◌+◌, ◌*◌, ◌/◌, length, get_or, set}
use Rattle.fence.specs.declared.entry.Fence.{Fence}
use Rattle.fence.specs.Slots.{slot_count, slot_word}
use Rattle.fence.specs.Names.{names}

-- the entry names slot i of the table
abbrev pub names_slot : Fence → List ℕ → ℕ → Bool
names_slot f t i = names f (slot_word t i 0) (slot_word t i 1) (slot_word t i 2)

-- the table with slot i removed: four zero words
abbrev pub remove_slot : List ℕ → ℕ → List ℕ
remove_slot t i = set (set (set (set t (4 * i) 0) (4 * i + 1) 0) (4 * i + 2) 0) (4 * i + 3) 0

-- the slots that the entry names among the n from slot i on, ascending
abbrev pub named_from : Fence → List ℕ → ℕ → ℕ → List ℕ
named_from f t i zero = []
named_from f t i (suc n) = cond (names_slot f t i) (i ∷ named_from f t (i + 1) n) (named_from f t (i + 1) n)

-- the slots that the entry names, ascending
abbrev pub named : Fence → List ℕ → List ℕ
named f t = named_from f t 0 (slot_count t)

-- the table with these slots removed, one after the other
abbrev pub remove_slots : List ℕ → List ℕ → List ℕ
remove_slots t [] = t
remove_slots t (i ∷ is) = remove_slots (remove_slot t i) is

-- the table with every slot removed that the entry names
abbrev pub remove_named : Fence → List ℕ → List ℕ
remove_named f t = remove_slots t (named f t)

-- u is the table t with the slots that b picks cleared: as long, zero in those slots, and else word for word t
pub record Cleared (b : ℕ → Bool) (t u : List ℕ) : Type 0 where
  pub size : length u ≡ length t
  pub words : (n : ℕ) → get_or u n 0 ≡ cond (b (n / 4)) 0 (get_or t n 0)
