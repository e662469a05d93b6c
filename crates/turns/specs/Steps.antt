-- The steps of a synchronization (01, "Steps and stops").
use Rattle.std.specs.Prelude.{◌≡◌, Bool, cond, List, [], ◌∷◌, ◌++◌, ℕ, ◌-◌, ltb, length, take}
use Rattle.layout.specs.declared.xlen.Xlen.{Xlen}
use Rattle.csr.specs.Csrs.{Csr, followers}
use Rattle.fence.specs.Table.{remove_slot, named}
use Rattle.page.specs.Registers.{is_dirty}
use Rattle.page.specs.Entries.{is_pending, fence_at, clear_entry}
use Rattle.world.specs.State.{State}
use Rattle.turns.specs.Marks.{Mark, Dirty, Pending}
use Rattle.turns.specs.Turn.{write_from_word, clear_its_bit, store_reading, turn}

-- one step: one A or B of a dirty register, one C or one store of D, one slot removed, or one Pending cleared
pub data Step : Type 0 where
  Write Clear Store : Csr → Step
  Remove Done : ℕ → Step

-- the state after one step
unfoldable pub after : (xlen : Xlen) → Step → State → State
after xlen (Write c) s = write_from_word xlen c s
after xlen (Clear c) s = clear_its_bit c s
after xlen (Store c) s = store_reading xlen c s
after xlen (Remove i) s = record { hart = s.hart; page = s.page; table = remove_slot s.table i }
after xlen (Done e) s = record { hart = s.hart; page = clear_entry xlen e s.page; table = s.table }

-- the state after these steps, one after the other
unfoldable pub run : (xlen : Xlen) → List Step → State → State
run xlen [] s = s
run xlen (x ∷ xs) s = run xlen xs (after xlen x s)

-- the stores of D: those followers whose bit is clear
unfoldable pub clean_stores : List Csr → List ℕ → List Step
clean_stores [] p = []
clean_stores (f ∷ fs) p = cond (is_dirty p f) (clean_stores fs p) (Store f ∷ clean_stores fs p)

-- the steps of a register's turn on this page; D's followers are judged by the bits here, which A, B and C leave as they are (a register is
-- not its own follower)
unfoldable pub csr_steps : Csr → List ℕ → List Step
csr_steps c p = cond (is_dirty p c) (Write c ∷ Clear c ∷ []) [] ++ (Store c ∷ clean_stores (followers c) p)

-- the removals of these slots
unfoldable pub removals : List ℕ → List Step
removals [] = []
removals (i ∷ is) = Remove i ∷ removals is

-- the steps of an entry's turn
unfoldable pub entry_steps : (xlen : Xlen) → ℕ → State → List Step
entry_steps xlen e s = cond (is_pending xlen s.page e) (removals (named (fence_at xlen s.page e) s.table) ++ (Done e ∷ [])) []

-- the steps of a turn from this state
abbrev pub turn_steps : (xlen : Xlen) → Mark → State → List Step
turn_steps xlen (Dirty c) s = csr_steps c s.page
turn_steps xlen (Pending e) s = entry_steps xlen e s

-- the steps of the unbroken turns of these from this state
unfoldable pub steps : (xlen : Xlen) → List Mark → State → List Step
steps xlen [] s = []
steps xlen (m ∷ ms) s = turn_steps xlen m s ++ steps xlen ms (turn xlen m s)

-- how many there are
unfoldable pub total : (xlen : Xlen) → List Mark → State → ℕ
total xlen ms s = length (steps xlen ms s)

-- the state after the first n of them
unfoldable pub stopped : (xlen : Xlen) → ℕ → List Mark → State → State
stopped xlen n ms s = run xlen (take n (steps xlen ms s)) s

-- of the steps xs from s the first n are made, and no other: s' is what they leave, `left` says how many more were allowed, and `over`
-- whether a step was left
pub record Made (xlen : Xlen) (xs : List Step) (s : State) (n : ℕ) (s' : State) (left : ℕ) (over : Bool) : Type 0 where
  pub state : s' ≡ run xlen (take n xs) s
  pub left_is : left ≡ n - length xs
  pub over-is : over ≡ ltb n (length xs)
