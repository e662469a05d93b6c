-- After an accepted FID 3 for every entry no entry is Pending, and no slot is named by one that was.
use mathlib.Core.Path.{◌≡◌, refl, subst}
use mathlib.Core.Bool.{true, false}
use mathlib.Core.List.Memᴰ
use mathlib.Core.List.{List, Memᴰ}
use Prim.Native.Nat.{ℕ, zero, suc, ◌+◌, ◌*◌, ◌%◌, ◌≤◌, ◌<◌}
use native.Mathlib.Decide.{ℕ_discrete, dec_lt}
use native.Mathlib.Omega.{arith}
use lib.Dec.{eqb, leb}
use lib.ListN.{length, get_or-eq_default}
use borrow.Author.Tests.{eqb-true}
use Rattle.layout.specs.declared.xlen.Xlen.{Xlen}
use Rattle.layout.specs.Width.{bytes}
use Rattle.layout.specs.Geometry.{entry_count}
use Rattle.hart.specs.Bits.{all_ones}
use Rattle.fence.specs.declared.entry.Fence.{Fence}
use Rattle.fence.specs.Slots.{slot_count}
use Rattle.fence.specs.Table.{names_slot}
use Rattle.page.specs.Entries.{entries_from, is_pending, fence_at}
use Rattle.world.specs.World.{World, width}
use Rattle.turns.specs.Marks.{Pending}
use Rattle.turns.specs.Stops.{cleared}
use Rattle.checks.specs.Fids.{fid_fence}
use Rattle.checks.specs.Codes.{accepted}
use Rattle.checks.specs.Checks.{call_answer}
use Rattle.checks.proofs.Judged.{tables}
use Rattle.checks.proofs.Truth.{both}
use Rattle.stops.specs.Sync.{asked}
use Rattle.stops.proofs.Singly.{ones-ask}
use Rattle.nacl.specs.Calls.{call_left}
use Rattle.nacl.proofs.CallLaws.{passed-one}
use Rattle.claims.specs.Events.{Call, page_in}
use Rattle.claims.specs.Claims.{MarksServed}
use Rattle.claims.proofs.Served.{cleared-marks-served}
use Rattle.claims.proofs.Slots.{only-named-slots-change}

-- each entry of a page is one of those that are numbered
entry_in : (e n d : ℕ) → e ≤ d → d < e + n → Memᴰ d (entries_from e n)
entry_in e zero d l h = absurd (omega arith)
entry_in e (suc n) d l h = go (ℕ_discrete d e) (entry_in (e + 1) n d)
  where
    go : Dec (d ≡ e) → (e + 1 ≤ d → d < e + 1 + n → Memᴰ d (entries_from (e + 1) n)) → Memᴰ d (entries_from e (suc n))
    go (yes q) ih = Memᴰ.head q
    go (no q) ih = Memᴰ.tail (ih (omega arith) (omega arith))

-- past the table's end there is no slot that could be named
past_end : (f : Fence) (t : List ℕ) (i : ℕ) → length t % 4 ≡ 0 → slot_count t ≤ i → names_slot f t i ≡ false
past_end f t i m h = let past : length t ≤ 4 * i + 0 = omega arith in rw (get_or-eq_default t 0 past)

module _ (eid : ℕ) (w : World) (y : accepted (call_answer eid fid_fence (all_ones (width w)) 0 0 w) ≡ true) where
  abbrev v : World
  v = call_left eid fid_fence (all_ones (width w)) 0 0 w

  served : MarksServed eid fid_fence (all_ones (width w)) 0 0 w v
  served = cleared-marks-served eid fid_fence (all_ones (width w)) 0 0 w refl

  -- every entry is asked for
  all_asked_lem : (e : ℕ) → e < entry_count (bytes (width w)) → Memᴰ (Pending e) (asked (width w) fid_fence (all_ones (width w)))
  all_asked_lem e b = rw (ones-ask (width w)).1 (Memᴰ.map Pending (entry_in 0 (entry_count (bytes (width w))) e (omega arith) (omega arith)))

  -- and so none is Pending afterwards
  clear : (e : ℕ) → e < entry_count (bytes (width w)) → is_pending (width w) (page_in w v) e ≡ false
  clear e b = served.cleared y (Pending e) (all_asked_lem e b)

  -- the table has whole slots only
  whole-slots : length v.table % 4 ≡ 0
  whole-slots =
      let (m, l) = both (eqb (length w.table % 4) 0) (leb (length w.table) 1024) (tables w (passed-one eid fid_fence (all_ones (width w)) 0 0 w y)).0 in
      rw (only-named-slots-change (Call eid fid_fence (all_ones (width w)) 0 0) w).size (eqb-true (length w.table % 4) 0 m)

  at_width : (e i : ℕ) → e < entry_count (bytes (width w)) → is_pending (width w) (page_in w w) e ≡ true
      → names_slot (fence_at (width w) (page_in w w) e) v.table i ≡ false
  unfolding cleared
  at_width e i b t = go (dec_lt i (slot_count v.table))
    where
      go : Dec (i < slot_count v.table) → names_slot (fence_at (width w) (page_in w w) e) v.table i ≡ false
      go (yes l) = served.fences.none_left e i b (rw (t, clear e b)) l
      go (no l) = past_end (fence_at (width w) (page_in w w) e) v.table i whole-slots (omega arith)

-- the same for a width that is the world's
pub none-pending : (eid : ℕ) (w : World) (x : Xlen) → width w ≡ x → accepted (call_answer eid fid_fence (all_ones x) 0 0 w) ≡ true → (e : ℕ)
    → e < entry_count (bytes x) → is_pending x (page_in w (call_left eid fid_fence (all_ones x) 0 0 w)) e ≡ false
none-pending eid w x q =
    subst (λ (x : Xlen). accepted (call_answer eid fid_fence (all_ones x) 0 0 w) ≡ true → (e : ℕ)
    → e < entry_count (bytes x) → is_pending x (page_in w (call_left eid fid_fence (all_ones x) 0 0 w)) e ≡ false)
    q (clear eid w)

pub unnamed : (eid : ℕ) (w : World) (x : Xlen) → width w ≡ x → accepted (call_answer eid fid_fence (all_ones x) 0 0 w) ≡ true → (e i : ℕ)
    → e < entry_count (bytes x) → is_pending x (page_in w w) e ≡ true → names_slot (fence_at x (page_in w w) e) (call_left eid fid_fence (all_ones x) 0 0 w).table i ≡ false
unnamed eid w x q =
    subst (λ (x : Xlen). accepted (call_answer eid fid_fence (all_ones x) 0 0 w) ≡ true → (e i : ℕ)
    → e < entry_count (bytes x) → is_pending x (page_in w w) e ≡ true → names_slot (fence_at x (page_in w w) e) (call_left eid fid_fence (all_ones x) 0 0 w).table i ≡ false)
    q (at_width eid w)
