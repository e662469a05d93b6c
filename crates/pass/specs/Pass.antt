-- All entries' turns in one pass over the table (02, Req 09).
use Rattle.std.specs.Prelude.{◌≡◌, List, map, ℕ, ◌+◌, ◌*◌, ◌<◌, ◌≤◌, length, get_or}
use Rattle.layout.specs.declared.xlen.Xlen.{Xlen}
use Rattle.layout.specs.Width.{bytes}
use Rattle.layout.specs.Geometry.{entry_count}
use Rattle.hart.specs.declared.record.Hart.{Hart}
use Rattle.fence.specs.Slots.{slot_word}
use Rattle.fence.specs.Entry.{everything}
use Rattle.fence.specs.Table.{named}
use Rattle.page.specs.Entries.{every_entry}
use Rattle.world.specs.State.{state_from}
use Rattle.turns.specs.Marks.{Pending}
use Rattle.turns.specs.Turn.{turns}
use Rattle.turns.specs.Steps.{total}

-- how many slots are used: those that an entry for everything names
abbrev pub used_slots : List ℕ → ℕ
used_slots t = length (named everything t)

-- after the first k slots of table t these stand as the turns of all entries leave them, and the other words as they were; a function of which
-- this is said is lent the page by &, so the page stays
pub record Swept (x : Xlen) (page t : List ℕ) (k : ℕ) (t' : List ℕ) : Type 0 where
  pub size : length t' ≡ length t
  pub first : (h : Hart) (i c : ℕ) → i < k → c < 4 → slot_word t' i c ≡ slot_word (turns x (map Pending (every_entry x)) (state_from h page t)).table i c
  pub others : (j : ℕ) → 4 * k ≤ j → get_or t' j 0 ≡ get_or t j 0

-- page' and t' are what the turns of all entries leave, in r steps, which are no more than entries and 256 slots
pub record AllServed (x : Xlen) (page t page' t' : List ℕ) (r : ℕ) : Type 0 where
  pub state : (h : Hart) → state_from h page' t' ≡ turns x (map Pending (every_entry x)) (state_from h page t)
  pub steps : (h : Hart) → r ≡ total x (map Pending (every_entry x)) (state_from h page t)
  pub few : r ≤ entry_count (bytes x) + 256
