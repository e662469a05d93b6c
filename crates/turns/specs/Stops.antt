-- What 01 says of the record and the table after a stop ("Steps and stops"). A mark is cleared if it was set at the start of the list of
-- stops and is clear now.
use Rattle.std.specs.Prelude.{◌≡◌, Bool, true, false, cond, not, ◌&&◌, List, [], ◌∷◌, ◌++◌, ℕ, ◌<◌}
use Rattle.csr.specs.Csrs.{Csr, turn_order}
use Rattle.layout.specs.declared.xlen.Xlen.{Xlen}
use Rattle.layout.specs.Width.{bytes}
use Rattle.layout.specs.Geometry.{entry_count}
use Rattle.hart.specs.declared.record.Hart.{Hart}
use Rattle.hart.specs.Registers.{write}
use Rattle.fence.specs.Table.{names_slot}
use Rattle.fence.specs.Slots.{slot_count}
use Rattle.page.specs.Registers.{is_dirty, csr_word}
use Rattle.page.specs.Entries.{fence_at}
use Rattle.world.specs.State.{State}
use Rattle.turns.specs.Marks.{Mark, Dirty, Pending, is_marked}

-- the mark is cleared: set on the page p₀ of the start, clear on the page p of now
unfoldable pub cleared : (xlen : Xlen) → List ℕ → List ℕ → Mark → Bool
cleared xlen p₀ p m = is_marked xlen p₀ m && not (is_marked xlen p m)

-- the writes of the start's word of each register of the list whose mark is cleared, in order
unfoldable pub cleared_writes : (xlen : Xlen) → List Csr → List ℕ → List ℕ → Hart → Hart
cleared_writes xlen [] p₀ p h = h
cleared_writes xlen (c ∷ cs) p₀ p h = cleared_writes xlen cs p₀ p (cond (cleared xlen p₀ p (Dirty c)) (write c (csr_word xlen p₀ c) h) h)

-- c is the next register whose mark the call for cs has yet to clear: the first of cs, in turn order, whose bit is set now
pub record Next (cs : List Csr) (p : List ℕ) (c : Csr) : Type 0 where
  pub before : List Csr
  pub behind : List Csr
  pub split : cs ≡ before ++ (c ∷ behind)
  pub clean : (d : Csr) (l m : List Csr) → before ≡ l ++ (d ∷ m) → is_dirty p d ≡ false
  pub dirty : is_dirty p c ≡ true

-- after a stop the record is the start's with these writes made in turn order: the start's word of each register whose mark is cleared,
-- then at most one more, that of the next register whose mark this call has yet to clear
pub data RecordAfter (xlen : Xlen) (cs : List Csr) (s₀ s : State) : Type 0 where
  no_more : s.hart ≡ cleared_writes xlen (turn_order xlen) s₀.page s.page s₀.hart → RecordAfter xlen cs s₀ s
  one_more : (c : Csr) → Next cs s.page c
      → s.hart ≡ write c (csr_word xlen s₀.page c) (cleared_writes xlen (turn_order xlen) s₀.page s.page s₀.hart) → RecordAfter xlen cs s₀ s

-- no slot is named by an entry, taken as it stood at the start, whose mark is cleared
pub record NoneLeft (xlen : Xlen) (s₀ s : State) : Type 0 where
  pub none_left : (e i : ℕ) → e < entry_count (bytes xlen) → cleared xlen s₀.page s.page (Pending e) ≡ true → i < slot_count s.table
      → names_slot (fence_at xlen s₀.page e) s.table i ≡ false
