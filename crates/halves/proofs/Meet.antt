-- After accepted requests on a page that was just set both synchronizations are accepted: the first makes the writes, and the second leaves no slot
-- that a fence of the requests names, every other slot as it was, and no mark.
use mathlib.Core.Path.{◌≡◌, refl, sym, ap, ◌∙◌, subst}
use mathlib.Core.Bool.{true, false}
use mathlib.Core.List.{List, map, Memᴰ}
use Prim.Native.Nat.{ℕ, ◌<◌}
use Rattle.layout.specs.declared.xlen.Xlen.{Xlen}
use Rattle.layout.specs.Width.{bytes}
use Rattle.layout.specs.Geometry.{entry_count, page_size}
use Rattle.csr.specs.Csrs.{Csr, has, turn_order}
use Rattle.hart.specs.Bits.{all_ones}
use Rattle.fence.specs.declared.entry.Fence.{Fence}
use Rattle.fence.specs.Slots.{slot_count}
use Rattle.fence.specs.Table.{names_slot}
use Rattle.page.specs.Registers.{is_dirty}
use Rattle.page.specs.Entries.{is_pending, fence_at}
use Rattle.world.specs.World.{World, offset}
use Rattle.world.specs.State.{State, state_from, state_of, with_state}
use Rattle.world.proofs.MemoryLaws.{Room}
use Rattle.world.proofs.StateLaws.{page-length, taken_out, still-room}
use Rattle.turns.specs.Marks.{Mark, Dirty}
use Rattle.turns.specs.Turn.{turns}
use Rattle.turns.specs.Steps.{steps}
use Rattle.turns.proofs.Closed.{closed}
use Rattle.turns.proofs.Holds.{laws}
use Rattle.turns.proofs.Kept.{StateKept, kept_same, state-same, run-kept}
use Rattle.turns.proofs.Turns.{all-steps}
use Rattle.checks.specs.Fids.{fid_set, fid_csr, fid_fence}
use Rattle.checks.specs.Codes.{accepted}
use Rattle.checks.specs.Checks.{call_answer}
use Rattle.checks.proofs.Accepted.{Passed, answered, room_of}
use Rattle.stops.specs.Sync.{synced}
use Rattle.stops.proofs.Forms.{whole-passed, still-passed}
use Rattle.stops.proofs.Singly.{ones-ask}
use Rattle.nacl.specs.Calls.{call_left}
use Rattle.nacl.proofs.CallLaws.{answer-csr, answer-fence, left-csr}
use Rattle.claims.specs.Events.{page_in}
use Rattle.claims.specs.Claims.{Kept}
use Rattle.claims.proofs.Turned.{order-once, entry-stays}
use Rattle.claims.proofs.Fields.{other-fields-stay}
use Rattle.hypervisor.specs.declared.fences.Asked.{Asked}
use Rattle.hypervisor.specs.Fences.{fence_asked}
use Rattle.hypervisor.specs.Requests.{Request, Hfence}
use Rattle.halves.specs.Both.{requested, all_done, filled, writes_made, after_csrs, BothServe}
use Rattle.halves.specs.Claims.{Of64Bits, BothHalvesMeet}
use Rattle.halves.proofs.Requested.{Requested, requested-all}
use Rattle.halves.proofs.Writes.{written-had, only-written, writes-made}
use Rattle.halves.proofs.Ready.{Ready, ready, same_width}
use Rattle.halves.proofs.Unnamed.{unnamed}
use Rattle.halves.proofs.Others.{others-kept}
use Rattle.halves.proofs.Cleared.{none-marked}

module _ (eid : ℕ) (rs : List Request) (v : World) (R : Ready eid v) (o : (r : Request) → Memᴰ r rs → Of64Bits r)
    (d : all_done v.hart.xlen rs (page_in v v) ≡ true) where
  abbrev x : Xlen
  x = v.hart.xlen

  rm : Room (page_size (bytes x)) (offset v) v.memory
  rm = room_of eid fid_csr (all_ones x) v R.csrs

  -- the page after the requests
  abbrev p : List ℕ
  p = requested x rs (page_in v v)

  Q : Requested x rs (page_in v v) p
  Q = requested-all x rs (page_in v v) (page-length v rm) o d

  -- the world with it
  abbrev s : State
  s = state_from v.hart p v.table

  abbrev w : World
  w = with_state v s

  kept : StateKept x s (state_of v)
  kept = record { hart = kept_same v.hart; page = Q.page; table = refl }

  lends : state_of w ≡ s
  lends = taken_out v rm s refl refl Q.page

  csrs-pass : Passed eid fid_csr (all_ones x) w
  csrs-pass = still-passed v rm s kept eid fid_csr (all_ones x) R.csrs

  -- after FID 2
  abbrev t : State
  t = turns x (map Dirty (turn_order x)) s

  abbrev u : World
  u = with_state w t

  left_is : call_left eid fid_csr (all_ones x) 0 0 w ≡ u
  unfolding synced
  left_is =
      left-csr eid (all_ones x) 0 0 w ∙ whole-passed eid fid_csr (all_ones x) w csrs-pass
      ∙ ap (λ (ms : List Mark). with_state w (turns x ms (state_of w))) (ones-ask x).0
      ∙ ap (λ (r : State). with_state w (turns x (map Dirty (turn_order x)) r)) lends

  hart-is : t.hart ≡ writes_made x rs (turn_order x) v.hart
  hart-is =
      ap (λ (r : State). r.hart) (closed x (laws x) (turn_order x) s Q.page (order-once x))
      ∙ writes-made x rs (page_in v v) p Q R.clean (turn_order x) v.hart

  -- FID 3 passes its checks still
  turns-kept : StateKept x t s
  turns-kept =
      subst (λ (r : State). StateKept x r s) (all-steps x (map Dirty (turn_order x)) s Q.page)
      (run-kept x (steps x (map Dirty (turn_order x)) s) s s (state-same x s Q.page))

  room_after : Room (page_size (bytes x)) (offset w) w.memory
  room_after = still-room v rm s refl refl Q.page

  fences-pass : Passed eid fid_fence (all_ones x) u
  fences-pass =
      still-passed w room_after t (subst (StateKept x t) (sym lends) turns-kept) eid fid_fence (all_ones x)
      (still-passed v rm s kept eid fid_fence (all_ones x) R.fences)

  fences-accepted : accepted (call_answer eid fid_fence (all_ones x) 0 0 u) ≡ true
  fences-accepted = ap accepted (answer-fence eid (all_ones x) 0 0 u ∙ answered eid fid_fence (all_ones x) u fences-pass)

  -- and has served the fences
  page-is : page_in u u ≡ t.page
  page-is = ap (λ (r : State). r.page) (taken_out w room_after t turns-kept.hart.xlen turns-kept.hart.shmem turns-kept.page)

  served : (a : Asked) (i : ℕ) → Memᴰ (Hfence a) rs → names_slot (fence_asked a) (call_left eid fid_fence (all_ones x) 0 0 u).table i ≡ false
  served a i m =
      let f = Q.fences a m in
      let (q, e) = entry-stays x (turn_order x) s Q.page (order-once x) f.at f.entry in
      subst (λ (g : Fence). names_slot g (call_left eid fid_fence (all_ones x) 0 0 u).table i ≡ false)
      (ap (λ (l : List ℕ). fence_at x l f.at) page-is ∙ e ∙ f.decodes)
      (unnamed eid u x turns-kept.hart.xlen fences-accepted f.at i f.entry (ap (λ (l : List ℕ). is_pending x l f.at) page-is ∙ q ∙ f.pending))

  -- and left the other slots: each entry that is Pending has one of the fences
  table_is : t.table ≡ v.table
  table_is = ap (λ (r : State). r.table) (closed x (laws x) (turn_order x) s Q.page (order-once x))

  unnamed-by : (i : ℕ) → ((a : Asked) → Memᴰ (Hfence a) rs → names_slot (fence_asked a) v.table i ≡ false) → (e : ℕ) → e < entry_count (bytes x)
      → is_pending x (page_in u u) e ≡ true → names_slot (fence_at x (page_in u u) e) u.table i ≡ false
  unnamed-by i n e b y =
      let (q, g) = entry-stays x (turn_order x) s Q.page (order-once x) e b in
      let f = Q.new e b (R.none-pending e b) (sym q ∙ ap (λ (l : List ℕ). is_pending x l e) (sym page-is) ∙ y) in
      rw (page-is, g, f.decodes, table_is) (n f.fence f.request)

  kept-slots : (i : ℕ) → i < slot_count v.table → ((a : Asked) → Memᴰ (Hfence a) rs → names_slot (fence_asked a) v.table i ≡ false)
      → Kept v.table (call_left eid fid_fence (all_ones x) 0 0 u).table i
  kept-slots i h n =
      subst (λ (l : List ℕ). i < slot_count l → Kept l (call_left eid fid_fence (all_ones x) 0 0 u).table i) table_is
      (λ b. others-kept eid u x turns-kept.hart.xlen i b (unnamed-by i n)) h

  -- a register that is dirty after the requests is one that the width has
  had : (c : Csr) → is_dirty (page_in w w) c ≡ true → has x c ≡ true
  had c y =
      written-had x c rs
      (sym (only-written x rs (page_in v v) p Q R.clean c) ∙ ap (λ (r : State). is_dirty r.page c) (sym lends) ∙ y)

  csrs-accepted : accepted (call_answer eid fid_csr (all_ones x) 0 0 w) ≡ true
  csrs-accepted = ap accepted (answer-csr eid (all_ones x) 0 0 w ∙ answered eid fid_csr (all_ones x) w csrs-pass)

  fences-after : accepted (call_answer eid fid_fence (all_ones x) 0 0 (after_csrs eid w)) ≡ true
  fences-after = subst (λ (r : World). accepted (call_answer eid fid_fence (all_ones x) 0 0 r) ≡ true) (sym left_is) fences-accepted

  meet : BothServe eid rs (filled rs v)
  unfolding filled
  meet =
      record {
        csrs = csrs-accepted;
        fences = fences-after;
        record_is = (other-fields-stay (after_csrs eid w)).fence eid (all_ones x) 0 0 ∙ ap (λ (r : World). r.hart) left_is ∙ hart-is;
        table = λ a i m. subst (λ (r : World). names_slot (fence_asked a) (call_left eid fid_fence (all_ones x) 0 0 r).table i ≡ false) (sym left_is) (served a i m);
        other-slots = λ i h n. subst (λ (r : World). Kept v.table (call_left eid fid_fence (all_ones x) 0 0 r).table i) (sym left_is) (kept-slots i h n);
        marks = none-marked eid w csrs-accepted fences-after had;
      }

pub both-halves-meet : BothHalvesMeet
both-halves-meet eid a0 a1 a2 w rs b n f₀ f₁ o d =
    let v = call_left eid fid_set a0 a1 a2 w in
    meet eid rs v (ready eid a0 a1 a2 w b n f₀ f₁) o (subst (λ (y : Xlen). all_done y rs (page_in v v) ≡ true) (sym (same_width eid a0 a1 a2 w b)) d)
