-- Record, memory and table are well made at every record, so that none is answered -1.
use mathlib.Core.Bool.{Bool, true, false, cond, not, ◌&&◌, true≢false, false≢true}
use mathlib.Core.Path.{◌≡◌, refl, sym, ap, ◌∙◌, subst}
use mathlib.Core.List.{List, [], ◌∷◌, ◌++◌}
use mathlib.Core.Logic.{⊎_elim}
use Prim.Native.Nat.{ℕ, zero, suc, ◌+◌}
use native.Mathlib.Omega.{arith}
use lib.Dec.{leb, ltb}
use lib.IntN.{ℤ, pos, negsuc}
use lib.ListN.{length, take, drop, replicate, length-set}
use lib.Seq.{get_or-drop}
use borrow.Author.Tests.{not-true}
use Rattle.layout.specs.declared.xlen.Xlen.{Xlen}
use Rattle.layout.specs.Width.{bytes}
use Rattle.layout.specs.Geometry.{page_size}
use Rattle.layout.proofs.WordLaws.{Bytes, word_bound, bytes-put}
use Rattle.layout.proofs.DirtyLaws.{bytes-clear}
use Rattle.csr.specs.Csrs.{Csr, Hstatus, Hip, Vsip, turn_order}
use Rattle.hart.specs.declared.record.Hart.{Hart}
use Rattle.hart.specs.declared.trap.Trap.{Trap}
use Rattle.hart.specs.Record.{returned}
use Rattle.hart.specs.Registers.{read}
use Rattle.hart.specs.WellMade.{leaves, fits_word}
use Rattle.hart.specs.Dropped.{Report}
use Rattle.fence.specs.Slots.{slot_count}
use Rattle.page.specs.Registers.{IsPage, put_csr, clear_mark}
use Rattle.page.specs.Entries.{clear_entry}
use Rattle.world.specs.Memory.{part_at, with_part}
use Rattle.world.specs.World.{World, width, offset, lent}
use Rattle.world.specs.State.{State, state_of}
use Rattle.world.proofs.StateLaws.{page-length}
use Rattle.turns.specs.Marks.{Mark}
use Rattle.turns.specs.Turn.{turns}
use Rattle.turns.specs.Steps.{steps}
use Rattle.turns.specs.Blank.{put_all, blank}
use Rattle.turns.proofs.Turns.{all-steps}
use Rattle.checks.specs.Fids.{fid_csr, fid_sret}
use Rattle.checks.specs.Codes.{accepted, code_of}
use Rattle.checks.specs.Checks.{cut, check1, call_answer}
use Rattle.checks.proofs.Accepted.{passed, room_of}
use Rattle.checks.proofs.Truth as Truth
use Rattle.stops.specs.Sync.{asked, synced}
use Rattle.sret.specs.Sret.{csrs_offered, entries_offered, offered_done, context_loaded, swaps, swapped, autoswapped, resumed, sret}
use Rattle.nacl.specs.Calls.{blanked, page_set, done, call_left, call_reports, tallied}
use Rattle.nacl.specs.Lines.{line_answer, line_left}
use Rattle.nacl.specs.Traps.{cut_trap, trap_left, trap_reports}
use Rattle.nacl.proofs.CallLaws.{refusal, left, at_most, answer-csr, sret-passed}
use Rattle.claims.specs.Events.{Event, Call, Lines, TrapBack, Stoppable, passable, blanks, answer_to, left_by}
use Rattle.claims.specs.Claims.{Check, first_code, checks_of}
use Rattle.claims.proofs.Answers.{codes-by-checks}
use Rattle.claims.proofs.Blanks.{set-parts, set-left}
use Rattle.claims.proofs.Edits.{Keeps}
use Rattle.claims.proofs.Fields.{other-fields-stay}
use Rattle.claims.proofs.Left.{Left, same, other, memory-left, room-there}
use Rattle.claims.proofs.Refusals as Refused
use Rattle.claims.proofs.Sret.{run_length}
use Rattle.claims.proofs.Turned.{by-fid, clean-rest}
use Rattle.claims.proofs.WellMade.{well-made-stays, cut_fits, cut-traps}
use Rattle.recording.specs.Format.{header_length, body_length, kind_of, good_header, record_length, body_word}
use Rattle.apply.specs.Effects.{Effect, call_of, write_effect, with_slot, slot_effect, trap_of, trap_effect, effect}
use Rattle.replay.specs.Replay.{Fed, started, following, effect_of, records, fed}
use Rattle.replayed.specs.Claims.{Sound, StaysSound, NoneFails}
use Rattle.replayed.proofs.Effects.{either, each-kind}

-- ---- bytes

-- lists of bytes one after the other, parts of them, and zeroes
bytes-append : (p q : List ℕ) → Bytes p → Bytes q → Bytes (p ++ q)
bytes-append [] q a b j = b j
bytes-append (x ∷ xs) q a b zero = a 0
bytes-append (x ∷ xs) q a b (suc j) = bytes-append xs q (λ k. a (suc k)) b j

bytes_take : (n : ℕ) (p : List ℕ) → Bytes p → Bytes (take n p)
bytes_take zero p b j = omega arith
bytes_take (suc n) [] b j = b j
bytes_take (suc n) (x ∷ xs) b zero = b 0
bytes_take (suc n) (x ∷ xs) b (suc j) = bytes_take n xs (λ k. b (suc k)) j

bytes_drop : (n : ℕ) (p : List ℕ) → Bytes p → Bytes (drop n p)
bytes_drop n p b j = rw (get_or-drop n p j 0) (b (n + j))

bytes-zero : (n : ℕ) → Bytes (replicate n 0)
bytes-zero zero j = omega arith
bytes-zero (suc n) zero = omega arith
bytes-zero (suc n) (suc j) = bytes-zero n j

-- a part put into memory, and one taken out of it
bytes-with : (n o : ℕ) (p m : List ℕ) → Bytes p → Bytes m → Bytes (with_part n o p m)
unfolding with_part
bytes-with n o p m a b =
    bytes-append (take o m) (p ++ drop n (drop o m)) (bytes_take o m b) (bytes-append p (drop n (drop o m)) a (bytes_drop n (drop o m) (bytes_drop o m b)))

bytes-part : (n o : ℕ) (m : List ℕ) → Bytes m → Bytes (part_at n o m)
unfolding part_at
bytes-part n o m b = bytes_take n (drop o m) (bytes_drop o m b)

-- every edit of a page stores bytes
edits-bytes : (x : Xlen) (cs : List Csr) (ms : List Mark) (stored : Bool) → Keeps x cs ms stored Bytes
unfolding put_csr clear_mark clear_entry
edits-bytes x cs ms stored =
    record {
      put = λ c v p i g b. bytes-put (bytes x) p _ v b;
      clear = λ c p i g b. bytes-clear p _ b;
      done = λ e p i l g b. bytes-put (bytes x) p _ _ b;
      swap = λ v p t g b. bytes-put (bytes x) p _ v b;
    }

-- and so does a set
blank-bytes : (x : Xlen) (h : Hart) → Bytes (blank x h)
unfolding blank put_all put_csr
blank-bytes x h = all (turn_order x) (replicate (page_size (bytes x)) 0) (bytes-zero (page_size (bytes x)))
  where
    all : (cs : List Csr) (p : List ℕ) → Bytes p → Bytes (put_all x cs h p)
    all [] p b = b
    all (c ∷ cs) p b = all cs _ (bytes-put (bytes x) p _ (read c h) b)

-- memory is bytes after every event
event-bytes : (x : Event) (w : World) → Bytes w.memory → Bytes (left_by x w).memory
unfolding page_set blanked
event-bytes x w b = split x (blanks x w) refl
  where
    edited : (x : Event) → Left w Bytes (left_by x w).memory → Bytes (left_by x w).memory
    edited x (same e) = subst Bytes (sym e) b
    edited x (other q t r (g, y) e) = subst Bytes (sym e) (bytes-with (page_size (bytes w.hart.xlen)) (offset w) q w.memory y b)

    split : (x : Event) (t : Bool) → blanks x w ≡ t → Bytes (left_by x w).memory
    split x false f =
        edited x (memory-left x w f Bytes (edits-bytes w.hart.xlen _ _ _) (bytes-part (page_size (bytes w.hart.xlen)) (offset w) w.memory b))
    split (Call eid fid a0 a1 a2) true f =
        let d = (set-parts eid fid a0 a1 a2 w f).2 in
        subst (λ (v : World). Bytes v.memory) (sym (set-left eid fid a0 a1 a2 w f))
        (rw d (bytes-with (page_size (bytes w.hart.xlen)) _ (blank w.hart.xlen w.hart) w.memory (blank-bytes w.hart.xlen w.hart) b))
    split (Stoppable n eid fid a) true f = absurd (false≢true f)
    split (Lines lines) true f = absurd (false≢true f)
    split (TrapBack t) true f = absurd (false≢true f)

-- ---- the number of stored registers

-- turns keep it
turns-length : (x : Xlen) (ms : List Mark) (s : State) → IsPage x s.page → length (turns x ms s).hart.csrs ≡ length s.hart.csrs
turns-length x ms s g = subst (λ (t : State). length t.hart.csrs ≡ length s.hart.csrs) (all-steps x ms s g) (run_length x (steps x ms s) s)

-- so does SRET
sret-length : (x : Xlen) (s : State) → IsPage x s.page → length (sret x s).hart.csrs ≡ length s.hart.csrs
unfolding sret resumed context_loaded offered_done returned autoswapped swapped
sret-length x s g =
    ap (λ (h : Hart). length h.csrs) (clean-rest x (Hstatus ∷ Hip ∷ Vsip ∷ []) _).0
    ∙ back (autoswapped x (context_loaded x (offered_done x s))).hart ∙ swap (context_loaded x (offered_done x s))
    ∙ turns-length x (csrs_offered x s.hart.features ++ entries_offered x s.hart.features) s g
  where
    back : (h : Hart) → length (returned h).csrs ≡ length h.csrs
    back h = simp length-set

    swap : (u : State) → length (autoswapped x u).hart.csrs ≡ length u.hart.csrs
    swap u = go (swaps x u.hart.features u.page)
      where
        go : (b : Bool) → length (cond b (swapped x u) u).hart.csrs ≡ length u.hart.csrs
        go true = simp length-set
        go false = refl

-- and any call
call_length : (eid fid a0 a1 a2 : ℕ) (w : World) → length (call_left eid fid a0 a1 a2 w).hart.csrs ≡ length w.hart.csrs
unfolding done synced
call_length eid fid a0 a1 a2 w =
    ⊎_elim
    (λ y. by-fid (λ (f : ℕ). accepted (call_answer eid f a0 a1 a2 w) ≡ true → length (call_left eid f a0 a1 a2 w).hart.csrs ≡ length w.hart.csrs) fid
    (at_most eid fid a0 a1 a2 w y)
    (λ z. ap (λ (h : Hart). length h.csrs) ((other-fields-stay w).probe eid a0 a1 a2))
    (λ z. ap (λ (h : Hart). length h.csrs) ((other-fields-stay w).set eid a0 a1 a2))
    csr
    (λ z. ap (λ (h : Hart). length h.csrs) ((other-fields-stay w).fence eid a0 a1 a2))
    resume y)
    (λ n. ap (λ (v : World). length v.hart.csrs) (refusal eid fid a0 a1 a2 w n).1)
    (Truth.either (accepted (call_answer eid fid a0 a1 a2 w)))
  where
    x : Xlen
    x = w.hart.xlen

    csr : accepted (call_answer eid fid_csr a0 a1 a2 w) ≡ true → length (call_left eid fid_csr a0 a1 a2 w).hart.csrs ≡ length w.hart.csrs
    csr z =
        let q = passed eid fid_csr a0 w (rw (answer-csr eid a0 a1 a2 w) at z) in
        ap (λ (v : World). length v.hart.csrs) (left eid fid_csr a0 a1 a2 w z)
        ∙ turns-length x (asked x fid_csr a0) (state_of w) (page-length w (room_of eid fid_csr a0 w q))

    resume : accepted (call_answer eid fid_sret a0 a1 a2 w) ≡ true → length (call_left eid fid_sret a0 a1 a2 w).hart.csrs ≡ length w.hart.csrs
    resume z =
        ap (λ (v : World). length v.hart.csrs) (left eid fid_sret a0 a1 a2 w z)
        ∙ sret-length x (state_of w) (page-length w (room-there w (sret-passed eid a0 a1 a2 w z).1))

-- a line change
line-length : (lines : ℕ) (w : World) → length (line_left lines w).hart.csrs ≡ length w.hart.csrs
line-length lines w =
    ⊎_elim (λ y. ap (λ (h : Hart). length h.csrs) ((other-fields-stay w).lines lines y))
    (λ n. ap (λ (v : World). length v.hart.csrs) (Refused.refusals-change-nothing (Lines lines) w n).same) (Truth.either (accepted (line_answer lines w)))

-- a trap
trap-length : (t : Trap) (w : World) → length (trap_left t w).hart.csrs ≡ length w.hart.csrs
trap-length t w = simp length-set at (ap length ((other-fields-stay w).trap t).csrs)

-- ---- a record

-- an event keeps a world sound, if it keeps that number
event-sound : (x : Event) (w : World) → passable x w ≡ true → length (left_by x w).hart.csrs ≡ length w.hart.csrs → Sound w → Sound (left_by x w)
event-sound x w p l s =
    record {
      types = record { memory = event-bytes x w s.types.memory; csrs = l ∙ s.types.csrs };
      made = well-made-stays x w s.types p s.made;
    }

-- the count has no part in it
tallied-sound : (rs : List Report) (w : World) → Sound w → Sound (tallied rs w)
unfolding check1
tallied-sound rs w s = record { types = record { memory = s.types.memory; csrs = s.types.csrs }; made = s.made }

-- a call
call-sound : (b : List ℕ) (w : World) → Sound w → Sound (call_of b w).world
call-sound b w s =
    let x = width w in
    let f : (i : ℕ) → ℕ = λ i. cut x (body_word b i) in
    let fits : (i : ℕ) → fits_word x (f i) ≡ true = λ i. (cut_fits x (body_word b i)).0 in
    tallied-sound (call_reports (f 0) (f 1) (f 2) (f 3) (f 4) w) (call_left (f 0) (f 1) (f 2) (f 3) (f 4) w)
    (event-sound (Call (f 0) (f 1) (f 2) (f 3) (f 4)) w (rw (fits 0, fits 1, fits 2, fits 3, fits 4)) (call_length (f 0) (f 1) (f 2) (f 3) (f 4) w) s)

-- a trap
trap-sound : (b : List ℕ) (w : World) → Bytes b → Sound w → Sound (trap_effect (trap_of b) w).world
trap-sound b w k s =
    let t = cut_trap (width w) (trap_of b) in
    tallied-sound (trap_reports t w) (trap_left t w)
    (event-sound (TrapBack t) w (cut-traps (trap_of b) w (word_bound 8 b 0 k) (word_bound 8 b 8 k) (word_bound 8 b 16 k) (word_bound 8 b 24 k)) (trap-length t w) s)

-- bytes written in memory
write-sound : (at : ℕ) (p : List ℕ) (w : World) → Bytes p → Sound w → Sound (write_effect at p w).world
unfolding write_effect
write-sound at p w k s =
    either (λ (e : Effect). Sound e.world) (leb (at + length p) (length w.memory)) _ _
    (record { types = record { memory = bytes-with (length p) at p w.memory k s.types.memory; csrs = s.types.csrs }; made = unfold check1 in s.made }) s

-- a slot placed
slot-sound : (i a b c d : ℕ) (w : World) → Sound w → Sound (slot_effect i a b c d w).world
unfolding slot_effect check1 with_slot
slot-sound i a b c d w s =
    either (λ (e : Effect). Sound e.world) (ltb i (slot_count w.table)) _ _
    (record { types = record { memory = s.types.memory; csrs = s.types.csrs }; made = placed }) s
  where
    placed : check1 (lent w.hart w.base w.memory (with_slot i a b c d w.table)) ≡ true
    placed = simp length-set s.made

-- any record
effect-sound : (kind : ℕ) (b : List ℕ) (w : World) → Bytes b → Sound w → Sound (effect kind b w).world
effect-sound kind b w k s =
    each-kind (λ (e : Effect). Sound e.world) kind b w (λ _. call-sound b w s) (write-sound (body_word b 0) (drop 8 b) w (bytes_drop 8 b k) s)
    (event-sound (Lines (body_word b 0)) w refl (line-length (body_word b 0) w) s)
    (slot-sound (body_word b 0) (body_word b 1) (body_word b 2) (body_word b 3) (body_word b 4) w s) (trap-sound b w k s)

-- ---- a recording

-- the world of either
either-world : (t : Bool) (f g : Fed) → Sound f.state.world → Sound g.state.world → Sound (cond t f g).state.world
either-world true f g a b = a
either-world false f g a b = b

-- records one after the other
records-sound : (k n : ℕ) (w : World) (p : List ℕ) → Bytes p → Sound w → Sound (records k n w p).state.world
unfolding records
records-sound zero n w p b s = s
records-sound (suc k) n w p b s =
    either-world (ltb (length p) header_length) _ _ s
    (either-world (not (good_header p)) _ _ s
    (either-world (ltb (length p) (record_length p)) _ _ s
    (records-sound k (following n) (effect_of w p).world (drop (record_length p) p) (bytes_drop (record_length p) p b)
    (effect-sound (kind_of p) (take (body_length p) (drop header_length p)) w (bytes_take (body_length p) (drop header_length p) (bytes_drop header_length p b)) s))))

-- the beginning
started-sound : Sound started.world
unfolding check1 leaves
started-sound = record { types = record { memory = bytes-zero (page_size 8); csrs = refl }; made = refl }

pub stays-sound : StaysSound
unfolding fed
stays-sound p b = records-sound (length p) 1 started.world p b started-sound

-- ---- the answers

-- the code is -1
is_one : ℤ → Bool
is_one (pos n) = false
is_one (negsuc zero) = true
is_one (negsuc (suc n)) = false

-- none of these checks has it
others : List Check → Bool
others [] = true
others (c ∷ cs) = not (is_one c.code) && others cs

-- so the first that fails has another
first-other : (cs : List Check) → others cs ≡ true → is_one (first_code cs) ≡ false
unfolding others is_one
first-other [] e = refl
first-other (c ∷ cs) e =
    let (a, b) = Truth.both (not (is_one c.code)) (others cs) e in
    go c.passes (not-true (is_one c.code) a) (first-other cs b)
  where
    go : (t : Bool) → is_one c.code ≡ false → is_one (first_code cs) ≡ false → is_one (cond t (first_code cs) c.code) ≡ false
    go true a b = b
    go false a b = a

-- where check 1 passes no event is answered it
event-code : (x : Event) (w : World) → check1 w ≡ true → is_one (first_code (checks_of x w)) ≡ false
unfolding others is_one
event-code (Call eid fid a0 a1 a2) w t = rw t (first-other (drop 1 (checks_of (Call eid fid a0 a1 a2) w)) refl)
event-code (Stoppable n eid fid a) w t = rw t (first-other (drop 1 (checks_of (Stoppable n eid fid a) w)) refl)
event-code (Lines lines) w t = rw t (first-other (drop 1 (checks_of (Lines lines) w)) refl)
event-code (TrapBack k) w t = rw t (first-other (drop 1 (checks_of (TrapBack k) w)) refl)

-- and no record
other-code : (kind : ℕ) (b : List ℕ) (w : World) → check1 w ≡ true → is_one (code_of (effect kind b w).answer) ≡ false
unfolding is_one write_effect slot_effect
other-code kind b w t =
    each-kind Fine kind b w (λ _. event (Call (f 0) (f 1) (f 2) (f 3) (f 4))) (either Fine (leb (body_word b 0 + length (drop 8 b)) (length w.memory)) _ _ refl refl)
    (event (Lines (body_word b 0))) (either Fine (ltb (body_word b 0) (slot_count w.table)) _ _ refl refl) (event (TrapBack (cut_trap (width w) (trap_of b))))
  where
    Fine : Effect → Type 0
    Fine e = is_one (code_of e.answer) ≡ false

    f : ℕ → ℕ
    f i = cut (width w) (body_word b i)

    event : (x : Event) → is_one (code_of (answer_to x w)) ≡ false
    event x = ap is_one (codes-by-checks x w) ∙ event-code x w t

pub none-fails : NoneFails
unfolding is_one
none-fails kind b w s e = true≢false (sym (ap is_one e) ∙ other-code kind b w s.made)
