-- The table: every slot stays that no pending entry among those asked for names, the others stay or are removed whole, and an accepted call
-- removes them.
use mathlib.Core.Path.{◌≡◌, refl, sym, ap, ◌∙◌, subst}
use mathlib.Core.Bool.{Bool, true, false, cond, ◌&&◌, ◌||◌, false≢true}
use mathlib.Core.List.{List, [], ◌∷◌, map}
use mathlib.Core.Logic.{◌⊎◌, inl, inr, ⊎_elim}
use Prim.Native.Nat.{ℕ, ◌<◌}
use native.Mathlib.Omega.{arith}
use lib.Dec.{eqb, ltb}
use lib.ListN.{take}
use borrow.Author.Tests.{lt-ltb}
use Rattle.layout.specs.declared.xlen.Xlen.{Xlen}
use Rattle.csr.specs.Csrs.{Csr, Hgeip, Hip, Vsip}
use Rattle.hart.specs.declared.trap.Trap.{Trap}
use Rattle.hart.specs.Trap.{trapped}
use Rattle.fence.specs.Slots.{slot_count}
use Rattle.fence.specs.Table.{names_slot, Cleared}
use Rattle.fence.proofs.Cleared.{cleared-none, cleared-slot, cleared-then, cleared_by, cleared-word}
use Rattle.fence.proofs.Several as Several
use Rattle.page.specs.Registers.{IsPage}
use Rattle.page.specs.Entries.{is_pending, fence_at}
use Rattle.world.specs.World.{World}
use Rattle.world.specs.State.{State, state_of, with_state}
use Rattle.turns.specs.Marks.{Mark, Dirty, Pending}
use Rattle.turns.specs.Turn.{write_from_word, clear_its_bit, store_reading, turns}
use Rattle.turns.specs.Steps.{Step, Write, Clear, Store, Remove, Done, after, run, steps, stopped}
use Rattle.turns.specs.Clean.{store_clean_words}
use Rattle.turns.proofs.Closed as Closed
use Rattle.turns.proofs.FenceLeaves.{pending_fences, table-left}
use Rattle.turns.proofs.Holds.{laws}
use Rattle.turns.proofs.Numbers.{mem, mem-first, mem-more}
use Rattle.turns.proofs.Truth.{either}
use Rattle.turns.proofs.Turns.{turns-page}
use Rattle.checks.specs.Fids.{eid_nacl, fid_csr, fid_fence}
use Rattle.checks.specs.Codes.{accepted}
use Rattle.checks.specs.Checks.{check7, call_answer, sync_answer}
use Rattle.checks.proofs.Accepted.{passed}
use Rattle.checks.proofs.Truth.{both}
use Rattle.stops.specs.Sync.{asked, synced_for, stoppable}
use Rattle.stops.specs.Stops.{after_stops}
use Rattle.stops.proofs.Reports.{enough}
use Rattle.stops.proofs.Restart.{restartable}
use Rattle.stops.proofs.Forms.{stop-refused}
use Rattle.trap.specs.Trap.{trap_stored}
use Rattle.nacl.specs.Calls.{call_left}
use Rattle.nacl.specs.Lines.{lines_stored, line_answer, line_done, line_left}
use Rattle.nacl.specs.Traps.{trap_taken, trap_answer, trap_done, trap_left}
use Rattle.nacl.proofs.CallLaws.{sync-call}
use Rattle.claims.proofs.Blanks.{set-parts, set-table}
use Rattle.claims.specs.Events.{Event, Call, Stoppable, Lines, TrapBack, blanks, left_by, call_marks, marks_asked}
use Rattle.claims.specs.Claims.{any_names, Kept, Removed, TableLeft, OnlyNamedSlotsChange, NamedSlotsAreRemoved}
use Rattle.claims.proofs.TrapState.{stored-table}
use Rattle.claims.proofs.Turned.{marks, turned, Askable, Left, idle, made, clean-rest, entry-stays, call-left}

-- ---- slots cleared

module _ {b : ℕ → Bool} {t u : List ℕ} (c : Cleared b t u) (i : ℕ) where
  kept : b i ≡ false → Kept t u i
  kept n k h = rw n at (cleared-word c i k h)

  removed : b i ≡ true → Removed u i
  removed y k h = rw y at (cleared-word c i k h)

  kept-or-removed : Kept t u i ⊎ Removed u i
  kept-or-removed = ⊎_elim (λ y. inr (removed y)) (λ n. inl (kept n)) (either (b i))

-- an event that leaves the table as it was
same-table : (x : Event) (w : World) → (left_by x w).table ≡ w.table → TableLeft x w
same-table x w e = record { size = rw e; others = λ i h n k m. rw e; whole = λ i h. inl (λ k m. rw e) }

-- ---- whole turns

-- the marks' fences
names-marks : (xlen : Xlen) (cs : List Csr) (es : List ℕ) (s : State) (p : List ℕ) (i : ℕ)
    → ((e : ℕ) → mem e es ≡ true → (is_pending xlen p e ≡ is_pending xlen s.page e) × (fence_at xlen p e ≡ fence_at xlen s.page e))
    → Several.any_names (pending_fences xlen es p) s.table i ≡ any_names xlen (marks cs es) s i
unfolding any_names pending_fences
names-marks xlen (c ∷ cs) es s p i same = names-marks xlen cs es s p i same
names-marks xlen [] [] s p i same = refl
names-marks xlen [] (e ∷ es) s p i same =
    let (q, f) = same e (mem-first e es) in
    rw (q, f) (go (is_pending xlen s.page e) (names-marks xlen [] es s p i (λ d m. same d (mem-more d e es m))))
  where
    go : (b : Bool) → Several.any_names (pending_fences xlen es p) s.table i ≡ any_names xlen (map Pending es) s i
        → Several.any_names (cond b (fence_at xlen s.page e ∷ pending_fences xlen es p) (pending_fences xlen es p)) s.table i
        ≡ (b && names_slot (fence_at xlen s.page e) s.table i) || any_names xlen (map Pending es) s i
    go true ih = ap (λ (x : Bool). names_slot (fence_at xlen s.page e) s.table i || x) ih
    go false ih = ih

-- the slots that they name are cleared
turned-slots : (xlen : Xlen) (cs : List Csr) (es : List ℕ) (s : State) → Askable xlen cs es → IsPage xlen s.page
    → Cleared (λ j. ltb j (slot_count s.table) && any_names xlen (marks cs es) s j) s.table (turned xlen cs es s).table
turned-slots xlen cs es s k g =
    subst (Cleared _ s.table) (sym table_is)
    (cleared_by (Several.cleared-all (pending_fences xlen es mid.page) s.table)
    (λ j. ap (λ (x : Bool). ltb j (slot_count s.table) && x)
    (names-marks xlen cs es s mid.page j (λ e m. entry-stays xlen cs s g k.csrs-once e (k.entries e m)))))
  where
    mid : State
    mid = turns xlen (map Dirty cs) s

    table_is : (turned xlen cs es s).table ≡ Several.remove_all (pending_fences xlen es mid.page) s.table
    table_is =
        table-left xlen es mid k.entries k.entries-once (turns-page xlen (map Dirty cs) s g)
        ∙ ap (λ (x : State). Several.remove_all (pending_fences xlen es mid.page) x.table) (Closed.closed xlen (laws xlen) cs s g k.csrs-once)

-- what a call leaves of the table
record Slots (xlen : Xlen) (good : Bool) (ms : List Mark) (s : State) (t : List ℕ) : Type 0 where
  picks : ℕ → Bool
  slots : Cleared picks s.table t
  others : (i : ℕ) → i < slot_count s.table → any_names xlen ms s i ≡ false → picks i ≡ false
  named : good ≡ true → (i : ℕ) → i < slot_count s.table → any_names xlen ms s i ≡ true → picks i ≡ true

left-slots : (xlen : Xlen) {good : Bool} {fid : ℕ} {ms : List Mark} {s t : State} → Left xlen good fid ms s t → Slots xlen good ms s t.table
left-slots xlen {s = s} (idle none a) =
    record {
      picks = λ j. false;
      slots = rw a.table (cleared-none s.table);
      others = λ i h n. refl;
      named = λ y i h n. unfold any_names in absurd (false≢true (rw (none y) at n));
    }
left-slots xlen {ms = ms} {s = s} (made cs es q k g a) =
    record {
      picks = λ j. ltb j (slot_count s.table) && any_names xlen ms s j;
      slots = rw (a.table, q) (turned-slots xlen cs es s k g);
      others = λ i h n. rw (lt-ltb i (slot_count s.table) h) n;
      named = λ y i h n. rw (lt-ltb i (slot_count s.table) h) n;
    }

call-slots : (eid fid a0 a1 a2 : ℕ) (w : World)
    → Slots w.hart.xlen (accepted (call_answer eid fid a0 a1 a2 w)) (call_marks w.hart.xlen w.hart.features fid a0) (state_of w) (call_left eid fid a0 a1 a2 w).table
call-slots eid fid a0 a1 a2 w = ⊎_elim set-slots (λ n. left-slots w.hart.xlen (call-left eid fid a0 a1 a2 w n)) (either (blanks (Call eid fid a0 a1 a2) w))
  where
    -- a set that blanks a page asks for no mark, and leaves the table
    set-slots : blanks (Call eid fid a0 a1 a2) w ≡ true
        → Slots w.hart.xlen (accepted (call_answer eid fid a0 a1 a2 w)) (call_marks w.hart.xlen w.hart.features fid a0) (state_of w) (call_left eid fid a0 a1 a2 w).table
    set-slots b =
        record {
          picks = λ j. false;
          slots = rw (set-table eid fid a0 a1 a2 w b) (cleared-none w.table);
          others = λ i h n. refl;
          named = λ y i h n. unfold any_names in absurd (false≢true (rw (set-parts eid fid a0 a1 a2 w b).0 at n));
        }

call-table : (eid fid a0 a1 a2 : ℕ) (w : World) → TableLeft (Call eid fid a0 a1 a2) w
call-table eid fid a0 a1 a2 w =
    let c = call-slots eid fid a0 a1 a2 w in
    record { size = c.slots.size; others = λ i h n. kept c.slots i (c.others i h n); whole = λ i h. kept-or-removed c.slots i }

-- ---- stops

-- some slots are cleared
abbrev Reduced : List ℕ → List ℕ → Type 0
Reduced t u = (b : ℕ → Bool) × Cleared b t u

step-reduced : (xlen : Xlen) (x : Step) (s : State) → Reduced s.table (after xlen x s).table
unfolding after write_from_word clear_its_bit store_reading
step-reduced xlen (Write c) s = (λ j. false, cleared-none s.table)
step-reduced xlen (Clear c) s = (λ j. false, cleared-none s.table)
step-reduced xlen (Store c) s = (λ j. false, cleared-none s.table)
step-reduced xlen (Remove i) s = (λ j. eqb j i, cleared-slot s.table i)
step-reduced xlen (Done e) s = (λ j. false, cleared-none s.table)

run-reduced : (xlen : Xlen) (xs : List Step) (s : State) → Reduced s.table (run xlen xs s).table
unfolding run
run-reduced xlen [] s = (λ j. false, cleared-none s.table)
run-reduced xlen (x ∷ xs) s =
    let (b, c) = step-reduced xlen x s in
    let (d, e) = run-reduced xlen xs (after xlen x s) in
    (λ j. b j || d j, cleared-then c e)

stop-reduced : (n eid fid a : ℕ) (w : World) → Reduced w.table (stoppable n eid fid a w).table
unfolding stoppable synced_for stopped
stop-reduced n eid fid a w = go (accepted (sync_answer eid fid a w))
  where
    go : (b : Bool) → Reduced w.table (cond b (with_state w (run w.hart.xlen (take n (steps w.hart.xlen (asked w.hart.xlen fid a) (state_of w))) (state_of w))) w).table
    go true = run-reduced w.hart.xlen (take n (steps w.hart.xlen (asked w.hart.xlen fid a) (state_of w))) (state_of w)
    go false = (λ j. false, cleared-none w.table)

-- a slot that the call leaves as it was the stop leaves so: after the stop the call ends the same, and what is removed stays removed
module _ (n eid fid a : ℕ) (w : World) (two : (eqb fid fid_csr || eqb fid fid_fence) ≡ true) where
  ends : Reduced (stoppable n eid fid a w).table (call_left eid fid a 0 0 w).table
  unfolding after_stops
  ends =
      subst (λ (v : World). Reduced (stoppable n eid fid a w).table v.table)
      (enough 376 eid fid a (stoppable n eid fid a w) (omega arith) ∙ (restartable (n ∷ []) eid fid a w).same_end ∙ sym (sync-call eid fid a 0 0 w two).1)
      (stop-reduced 376 eid fid a (stoppable n eid fid a w))

  between : (i : ℕ) → Kept w.table (call_left eid fid a 0 0 w).table i → Kept w.table (stoppable n eid fid a w).table i
  between i same k m =
      let (b, c) = stop-reduced n eid fid a w in
      let (d, e) = ends in
      ⊎_elim (λ y. let z = removed c i y k m in z ∙ sym (still (d i) z) ∙ sym (cleared-word e i k m) ∙ same k m) (λ q. kept c i q k m) (either (b i))
    where
      still : (x : Bool) {y : ℕ} → y ≡ 0 → cond x 0 y ≡ 0
      still true z = refl
      still false z = z

stop-table : (n eid fid a : ℕ) (w : World) → TableLeft (Stoppable n eid fid a) w
stop-table n eid fid a w =
    ⊎_elim go (λ r. same-table (Stoppable n eid fid a) w (ap (λ (v : World). v.table) (stop-refused n eid fid a w r)))
    (either (accepted (sync_answer eid fid a w)))
  where
    go : accepted (sync_answer eid fid a w) ≡ true → TableLeft (Stoppable n eid fid a) w
    go t =
        let two = (both (eqb eid eid_nacl) (eqb fid fid_csr || eqb fid fid_fence) (passed eid fid a w t).three).1 in
        let (b, c) = stop-reduced n eid fid a w in
        record {
          size = c.size;
          others = λ i h q. between n eid fid a w two i ((call-table eid fid a 0 0 w).others i h q);
          whole = λ i h. kept-or-removed c i;
        }

-- ---- lines and traps

line-table : (lines : ℕ) (w : World) → (line_left lines w).table ≡ w.table
unfolding line_left line_done
line-table lines w = go (accepted (line_answer lines w)) (check7 (lines_stored lines w))
  where
    v : World
    v = lines_stored lines w

    go : (a b : Bool) → (cond a (cond b (with_state v (store_clean_words w.hart.xlen (Hgeip ∷ Hip ∷ Vsip ∷ []) (state_of v))) v) w).table ≡ w.table
    go true true = (clean-rest w.hart.xlen (Hgeip ∷ Hip ∷ Vsip ∷ []) (state_of v)).1
    go true false = refl
    go false b = refl

trap-table : (t : Trap) (w : World) → (trap_left t w).table ≡ w.table
unfolding trap_left trap_done trapped
trap-table t w = go (accepted (trap_answer w)) (check7 (trap_taken t w))
  where
    v : World
    v = trap_taken t w

    go : (a b : Bool) → (cond a (cond b (with_state v (trap_stored w.hart.xlen (state_of v))) v) w).table ≡ w.table
    go true true = stored-table w.hart.xlen (state_of v)
    go true false = refl
    go false b = refl

-- ---- the claims

pub only-named-slots-change : OnlyNamedSlotsChange
only-named-slots-change (Call eid fid a0 a1 a2) w = call-table eid fid a0 a1 a2 w
only-named-slots-change (Stoppable n eid fid a) w = stop-table n eid fid a w
only-named-slots-change (Lines lines) w = same-table (Lines lines) w (line-table lines w)
only-named-slots-change (TrapBack t) w = same-table (TrapBack t) w (trap-table t w)

pub named-slots-removed : NamedSlotsAreRemoved
named-slots-removed eid fid a0 a1 a2 w i y h n =
    let c = call-slots eid fid a0 a1 a2 w in
    removed c.slots i (c.named y i h n)
