-- Requests one after the other, and what the two synchronizations of everything make of them.
use Rattle.std.specs.Prelude.{◌≡◌, Bool, true, false, cond, ◌&&◌, ◌||◌, ℕ, ◌<◌, eqb, Option, Some, None}
use mathlib.Core.List.{List, [], ◌∷◌, Memᴰ}
use Rattle.layout.specs.declared.xlen.Xlen.{Xlen}
use Rattle.layout.specs.Width.{bytes}
use Rattle.layout.specs.Geometry.{page_size}
use Rattle.csr.specs.Csrs.{Csr, lookup, turn_of, turn_order}
use Rattle.hart.specs.declared.record.Hart.{Hart}
use Rattle.hart.specs.Bits.{all_ones}
use Rattle.hart.specs.Registers.{write}
use Rattle.fence.specs.Slots.{slot_count}
use Rattle.fence.specs.Table.{names_slot}
use Rattle.world.specs.Memory.{with_part}
use Rattle.world.specs.World.{World, width, offset, lent}
use Rattle.turns.specs.Marks.{Mark, is_marked}
use Rattle.checks.specs.Fids.{fid_csr, fid_fence}
use Rattle.checks.specs.Codes.{accepted}
use Rattle.checks.specs.Checks.{call_answer}
use Rattle.nacl.specs.Calls.{call_left}
use Rattle.claims.specs.Events.{page_in}
use Rattle.claims.specs.Claims.{IsMark, Kept}
use Rattle.hypervisor.specs.declared.fences.Asked.{Asked}
use Rattle.hypervisor.specs.Answers.{is_done}
use Rattle.hypervisor.specs.Fences.{fence_asked}
use Rattle.hypervisor.specs.Requests.{Request, Register, Hfence, Context, answer_to, left}

-- ---- requests

-- the page after these requests, each on what the one before leaves
unfoldable pub requested : Xlen → List Request → List ℕ → List ℕ
requested x [] p = p
requested x (r ∷ rs) p = requested x rs (left x r p)

-- each of them is accepted
unfoldable pub all_done : Xlen → List Request → List ℕ → Bool
all_done x [] p = true
all_done x (r ∷ rs) p = is_done (answer_to x r p) && all_done x rs (left x r p)

-- w after the hypervisor made these requests on its page
unfoldable pub filled : List Request → World → World
filled rs w = lent w.hart w.base (with_part (page_size (bytes (width w))) (offset w) (requested (width w) rs (page_in w w)) w.memory) w.table

-- ---- the registers to be written

-- the number found is c's
abbrev pub is_found_as : Csr → Option ℕ → Bool
is_found_as c (Some t) = eqb t (turn_of c)
is_found_as c None = false

-- the request is to write c
abbrev pub writes : Xlen → Csr → Request → Bool
writes x c (Register n v) = is_found_as c (lookup x n)
writes x c (Hfence a) = false
writes x c (Context vs) = false

-- the value that it gives
abbrev pub value_given : Request → ℕ
value_given (Register n v) = v
value_given (Hfence a) = 0
value_given (Context vs) = 0

-- c is to be written
abbrev pub is_written : Xlen → Csr → List Request → Bool
is_written x c [] = false
is_written x c (r ∷ rs) = writes x c r || is_written x c rs

-- with the value of the last of these requests for it
abbrev pub last_value : Xlen → Csr → List Request → ℕ
last_value x c [] = 0
last_value x c (r ∷ rs) = cond (is_written x c rs) (last_value x c rs) (value_given r)

-- the record after those of the registers that are to be written are written, in this order
unfoldable pub writes_made : Xlen → List Request → List Csr → Hart → Hart
writes_made x rs [] h = h
writes_made x rs (c ∷ cs) h = writes_made x rs cs (cond (is_written x c rs) (write c (last_value x c rs) h) h)

-- ---- the synchronizations

-- w after FID 2 of every register
abbrev pub after_csrs : ℕ → World → World
after_csrs eid w = call_left eid fid_csr (all_ones (width w)) 0 0 w

-- and then FID 3 of every entry
abbrev pub after_both : ℕ → World → World
after_both eid w = call_left eid fid_fence (all_ones (width w)) 0 0 (after_csrs eid w)

-- with these requests made on w's page both are accepted: after them the record has the writes made, in turn order; the table has no slot that
-- a fence of the requests names, and every slot as it was that none of them names; and no mark of the page is set
pub record BothServe (eid : ℕ) (rs : List Request) (w : World) : Type 0 where
  pub csrs : accepted (call_answer eid fid_csr (all_ones (width w)) 0 0 w) ≡ true
  pub fences : accepted (call_answer eid fid_fence (all_ones (width w)) 0 0 (after_csrs eid w)) ≡ true
  pub record_is : (after_both eid w).hart ≡ writes_made (width w) rs (turn_order (width w)) w.hart
  pub table : (a : Asked) (i : ℕ) → Memᴰ (Hfence a) rs → names_slot (fence_asked a) (after_both eid w).table i ≡ false
  pub other-slots : (i : ℕ) → i < slot_count w.table
      → ((a : Asked) → Memᴰ (Hfence a) rs → names_slot (fence_asked a) w.table i ≡ false)
      → Kept w.table (after_both eid w).table i
  pub marks : (m : Mark) → IsMark (width w) m → is_marked (width w) (page_in w (after_both eid w)) m ≡ false
