-- Which fields of the record may change.
use mathlib.Core.Path.{◌≡◌, refl, sym, ap, ◌∙◌, subst}
use mathlib.Core.Bool.{Bool, true, false, cond}
use mathlib.Core.List.{List, [], ◌∷◌, ◌++◌}
use mathlib.Core.Logic.{◌≢◌}
use Prim.Native.Nat.{ℕ}
use lib.Dec.{eqb}
use native.Mathlib.Omega.{arith}
use lib.ListN.{take, set as store}
use lib.Seq.{set-set, set_comm}
use Rattle.layout.specs.declared.xlen.Xlen.{Xlen}
use Rattle.layout.specs.Geometry.{swap_at}
use Rattle.layout.specs.Width.{bytes}
use Rattle.layout.specs.Words.{word_at}
use Rattle.csr.specs.Csrs.{Csr, Hstatus, Htval, Htinst}
use Rattle.hart.specs.declared.record.Hart.{Hart}
use Rattle.hart.specs.Record.{with_csrs, with_lines, with_shmem, returned}
use Rattle.hart.specs.declared.trap.Trap.{Trap}
use Rattle.hart.specs.Registers.{written, write}
use Rattle.hart.specs.Stored.{hold}
use Rattle.hart.specs.Trap.{trapped}
use Rattle.page.specs.Registers.{IsPage, csr_word}
use Rattle.world.specs.World.{World}
use Rattle.world.specs.State.{State, state_of}
use Rattle.world.proofs.StateLaws.{page-length}
use Rattle.world.proofs.WorldLaws.{room}
use Rattle.turns.specs.Marks.{Mark}
use Rattle.turns.specs.Turn.{write_from_word, clear_its_bit, store_reading, turns}
use Rattle.turns.specs.Steps.{Step, Write, Clear, Store, Remove, Done, after, run, steps, stopped}
use Rattle.turns.specs.Clean.{store_clean_words}
use Rattle.turns.proofs.Turns.{all-steps}
use Rattle.turns.proofs.FenceTurns.{turns-hart}
use Rattle.turns.proofs.FenceInvariant as Fences
use Rattle.turns.proofs.FenceApart.{same-hart}
use Rattle.checks.specs.Fids.{fid_probe, fid_set, fid_csr, fid_fence, fid_sret}
use Rattle.checks.specs.Checks.{check7, call_answer, sync_answer}
use Rattle.checks.specs.Codes.{accepted}
use Rattle.checks.proofs.Accepted.{Passed, passed, room_of}
use Rattle.stops.specs.Sync.{entries_asked, asked, synced, synced_for, stoppable}
use Rattle.stops.proofs.Restart.{asked-entries}
use Rattle.sret.specs.Sret.{csrs_offered, entries_offered, offered_done, context_loaded, swaps, swapped, autoswapped, resumed, sret}
use Rattle.trap.specs.Trap.{trap_stored}
use Rattle.nacl.specs.Calls.{page_set, done, call_left}
use Rattle.nacl.specs.Lines.{lines_stored, line_answer, line_done, line_left}
use Rattle.nacl.specs.Traps.{trap_taken, trap_answer, trap_done, trap_left}
use Rattle.nacl.proofs.CallLaws.{left, answer-csr, sret-passed}
use Rattle.nacl.proofs.Outcomes.{set-done}
use Rattle.claims.proofs.TrapState.{stored-hart}
use Rattle.claims.proofs.Turned.{clean-rest}
use Rattle.claims.specs.Events.{Event, Call, Stoppable, Lines, TrapBack, left_by}
use Rattle.claims.specs.Claims.{SretKeeps, but_trapped, TrapKeeps, RecordLeft, OtherFieldsStay}

-- what holds of both holds of the one that a test takes
either_way : {A : Type 0} (P : A → Type 0) (b : Bool) {x y : A} → (b ≡ true → P x) → P y → P (cond b x y)
either_way P true f g = f refl
either_way P false f g = g

-- ---- steps

-- h is g with other stored registers
abbrev Rest : Hart → Hart → Type 0
Rest g h = h ≡ with_csrs g h.csrs

-- a step changes the stored registers alone, and so do any
after-rest : (xlen : Xlen) (x : Step) (g : Hart) (s : State) → Rest g s.hart → Rest g (after xlen x s).hart
unfolding after write_from_word clear_its_bit store_reading
after-rest xlen (Write c) g s e = ap (λ (h : Hart). with_csrs h (written s.hart.xlen c (csr_word xlen s.page c) s.hart.csrs)) e
after-rest xlen (Clear c) g s e = e
after-rest xlen (Store c) g s e = e
after-rest xlen (Remove i) g s e = e
after-rest xlen (Done d) g s e = e

run-rest : (xlen : Xlen) (xs : List Step) (g : Hart) (s : State) → Rest g s.hart → Rest g (run xlen xs s).hart
unfolding run
run-rest xlen [] g s e = e
run-rest xlen (x ∷ xs) g s e = run-rest xlen xs g (after xlen x s) (after-rest xlen x g s e)

-- so do turns, stopped or not
stopped-rest : (xlen : Xlen) (n : ℕ) (ms : List Mark) (s : State) → Rest s.hart (stopped xlen n ms s).hart
unfolding stopped
stopped-rest xlen n ms s = run-rest xlen (take n (steps xlen ms s)) s.hart s refl

pub turns-rest : (xlen : Xlen) (ms : List Mark) (s : State) → IsPage xlen s.page → Rest s.hart (turns xlen ms s).hart
turns-rest xlen ms s g = subst (λ (t : State). Rest s.hart t.hart) (all-steps xlen ms s g) (run-rest xlen (steps xlen ms s) s.hart s refl)

-- clean words change nothing of the record
clean-hart : (xlen : Xlen) (cs : List Csr) (s : State) → (store_clean_words xlen cs s).hart ≡ s.hart
clean-hart xlen cs s = (clean-rest xlen cs s).0

-- ---- SRET

-- what follows the synchronization keeps these fields
after-offered : (xlen : Xlen) (s : State) → SretKeeps s.hart (resumed xlen (autoswapped xlen (context_loaded xlen s))).hart
unfolding resumed autoswapped swapped context_loaded returned
after-offered xlen s = subst (SretKeeps s.hart) (sym (clean-hart xlen _ _)) (go (swaps xlen (context_loaded xlen s).hart.features (context_loaded xlen s).page))
  where
    go : (b : Bool) → SretKeeps s.hart (returned (cond b (swapped xlen (context_loaded xlen s)) (context_loaded xlen s)).hart)
    go true = record { xlen = refl; lines = refl; shmem = refl; sepc = refl; stvec = refl; scause = refl; stval = refl; dropped = refl; features = refl }
    go false = record { xlen = refl; lines = refl; shmem = refl; sepc = refl; stvec = refl; scause = refl; stval = refl; dropped = refl; features = refl }

-- and so does the synchronization
sret-keeps : (xlen : Xlen) (s : State) → IsPage xlen s.page → SretKeeps s.hart (sret xlen s).hart
unfolding sret offered_done
sret-keeps xlen s g =
    let e = turns-rest xlen (csrs_offered xlen s.hart.features ++ entries_offered xlen s.hart.features) s g in
    let k = after-offered xlen (offered_done xlen s) in
    record {
      xlen = k.xlen ∙ ap (λ (h : Hart). h.xlen) e;
      lines = k.lines ∙ ap (λ (h : Hart). h.lines) e;
      shmem = k.shmem ∙ ap (λ (h : Hart). h.shmem) e;
      sepc = k.sepc ∙ ap (λ (h : Hart). h.sepc) e;
      stvec = k.stvec ∙ ap (λ (h : Hart). h.stvec) e;
      scause = k.scause ∙ ap (λ (h : Hart). h.scause) e;
      stval = k.stval ∙ ap (λ (h : Hart). h.stval) e;
      dropped = k.dropped ∙ ap (λ (h : Hart). h.dropped) e;
      features = k.features ∙ ap (λ (h : Hart). h.features) e;
    }

-- ---- a trap

-- whatever stands in hstatus, htval and htinst, the others stay
but-three : (a b c : ℕ) (l : List ℕ) → but_trapped (hold Htinst c (hold Htval b (hold Hstatus a l))) ≡ but_trapped l
but-three a b c l =
    rw (set_comm (store (store l 0 a) 9 b) 10 0 c 0 (omega arith), over l 0 9 a b 0 (omega arith), over (store l 0 0) 9 10 b c 0 (omega arith), set-set (store (store l 0 0) 9 0) 10 c 0)
  where
    over : (l : List ℕ) (i j a b c : ℕ) → i ≢ j → store (store (store l i a) j b) i c ≡ store (store l i c) j b
    over l i j a b c n = ap (λ (k : List ℕ). store k i c) (set_comm l i j a b n) ∙ set-set (store l j b) i a c ∙ set_comm l j i b c (λ e. n (sym e))

but-hstatus : (a : ℕ) (l : List ℕ) → but_trapped (hold Hstatus a l) ≡ but_trapped l
but-hstatus a l = rw (set-set l 0 a 0)

-- the trap, and a swap after it, keep the other fields
module _ (t : Trap) (h : Hart) where
  trap-keeps : TrapKeeps h (trapped t h)
  unfolding trapped
  trap-keeps = record { xlen = refl; csrs = but-three _ _ _ h.csrs; lines = refl; shmem = refl; stvec = refl; dropped = refl; features = refl; general = refl }

  swap-keeps : (v : ℕ) → TrapKeeps h (write Hstatus v (trapped t h))
  unfolding trapped
  swap-keeps v =
      record { xlen = refl; csrs = but-hstatus _ (trapped t h).csrs ∙ but-three _ _ _ h.csrs; lines = refl; shmem = refl; stvec = refl; dropped = refl; features = refl; general = refl }

-- ---- the claim

module _ (w : World) where
  -- what holds of the record after an accepted call and as it was holds of what a call leaves
  by_answer : (P : Hart → Type 0) (eid fid a0 a1 a2 : ℕ) → (accepted (call_answer eid fid a0 a1 a2 w) ≡ true → P (done fid a0 a1 w).hart) → P w.hart
      → P (call_left eid fid a0 a1 a2 w).hart
  unfolding call_left
  by_answer P eid fid a0 a1 a2 f k = either_way (λ (v : World). P v.hart) (accepted (call_answer eid fid a0 a1 a2 w)) f k

  by-stop : (P : Hart → Type 0) (n eid fid a : ℕ) → (Passed eid fid a w → P (stopped w.hart.xlen n (asked w.hart.xlen fid a) (state_of w)).hart) → P w.hart
      → P (stoppable n eid fid a w).hart
  unfolding stoppable synced_for
  by-stop P n eid fid a f k = either_way (λ (v : World). P v.hart) (accepted (sync_answer eid fid a w)) (λ t. f (passed eid fid a w t)) k

  -- the calls, by FID
  probe : (eid a0 a1 a2 : ℕ) → (call_left eid fid_probe a0 a1 a2 w).hart ≡ w.hart
  unfolding done
  probe eid a0 a1 a2 = by_answer (λ h. h ≡ w.hart) eid fid_probe a0 a1 a2 (λ t. refl) refl

  set : (eid a0 a1 a2 : ℕ) → let h = (call_left eid fid_set a0 a1 a2 w).hart in h ≡ with_shmem w.hart h.shmem
  unfolding done page_set
  set eid a0 a1 a2 = by_answer (λ h. h ≡ with_shmem w.hart h.shmem) eid fid_set a0 a1 a2 (λ t. refl) refl

  csr : (eid a0 a1 a2 : ℕ) → Rest w.hart (call_left eid fid_csr a0 a1 a2 w).hart
  unfolding done synced
  csr eid a0 a1 a2 =
      by_answer (Rest w.hart) eid fid_csr a0 a1 a2
      (λ t. turns-rest w.hart.xlen (asked w.hart.xlen fid_csr a0) (state_of w) (page-length w (room_of eid fid_csr a0 w (passed eid fid_csr a0 w (rw answer-csr at t))))) refl

  fence : (eid a0 a1 a2 : ℕ) → (call_left eid fid_fence a0 a1 a2 w).hart ≡ w.hart
  unfolding done synced
  fence eid a0 a1 a2 = by_answer (λ h. h ≡ w.hart) eid fid_fence a0 a1 a2 (λ t. turns-hart w.hart.xlen (entries_asked w.hart.xlen a0) (state_of w)) refl

  return : (eid a0 a1 a2 : ℕ) → SretKeeps w.hart (call_left eid fid_sret a0 a1 a2 w).hart
  unfolding done check7
  return eid a0 a1 a2 =
      by_answer (SretKeeps w.hart) eid fid_sret a0 a1 a2
      (λ t. sret-keeps w.hart.xlen (state_of w) (page-length w (room w.hart.xlen w.base w.memory w.hart.shmem (sret-passed eid a0 a1 a2 w t).1)))
      (record { xlen = refl; lines = refl; shmem = refl; sepc = refl; stvec = refl; scause = refl; stval = refl; dropped = refl; features = refl })

  -- steps of entries leave the record
  stopped-fence : (n eid a : ℕ) → (stoppable n eid fid_fence a w).hart ≡ w.hart
  stopped-fence n eid a = by-stop (λ h. h ≡ w.hart) n eid fid_fence a go refl
    where
      go : Passed eid fid_fence a w → (stopped w.hart.xlen n (asked w.hart.xlen fid_fence a) (state_of w)).hart ≡ w.hart
      go q =
          let es = entries_asked w.hart.xlen a in
          let g = page-length w (room_of eid fid_fence a w q) in
          let en = asked-entries w.hart.xlen a q.five in
          let h = Fences.stop-keeps w.hart.xlen es (state_of w) g en n (state_of w) (Fences.start w.hart.xlen es (state_of w) g en) in
          same-hart w.hart.xlen h.done h.rest (state_of w) _ h.reached

  -- the lines
  line-done : (v : World) → (line_done v).hart ≡ v.hart
  unfolding line_done
  line-done v = either_way (λ (u : World). u.hart ≡ v.hart) (check7 v) (λ t. clean-hart v.hart.xlen _ _) refl

  line : (lines : ℕ) → accepted (line_answer lines w) ≡ true → (line_left lines w).hart ≡ with_lines w.hart lines
  unfolding line_left
  line lines t = rw t (line-done (lines_stored lines w))

  -- a trap
  trap : (t : Trap) → TrapKeeps w.hart (trap_left t w).hart
  unfolding trap_left trap_done check7 trapped
  trap t =
      either_way (λ (v : World). TrapKeeps w.hart v.hart) (accepted (trap_answer w))
      (λ y. either_way (λ (v : World). TrapKeeps w.hart v.hart) (check7 (trap_taken t w)) (λ f. page) (trap-keeps t w.hart)) same
    where
      s : State
      s = state_of (trap_taken t w)

      page : TrapKeeps w.hart (trap_stored w.hart.xlen s).hart
      page =
          subst (TrapKeeps w.hart) (sym (stored-hart w.hart.xlen s))
          (either_way (TrapKeeps w.hart) (swaps w.hart.xlen s.hart.features s.page) (λ y. swap-keeps t w.hart (word_at (bytes w.hart.xlen) s.page (swap_at (bytes w.hart.xlen)))) (trap-keeps t w.hart))

      same : TrapKeeps w.hart w.hart
      same = record { xlen = refl; csrs = refl; lines = refl; shmem = refl; stvec = refl; dropped = refl; features = refl; general = refl }

  -- memory stays where it is
  abbrev SameBase : World → Type 0
  SameBase v = v.base ≡ w.base

  base : (x : Event) → SameBase (left_by x w)
  unfolding call_left done page_set synced stoppable synced_for line_left line_done trap_left trap_done
  base (Call eid fid a0 a1 a2) =
      either_way SameBase (accepted (call_answer eid fid a0 a1 a2 w)) (λ t. either_way SameBase (eqb fid fid_probe) (λ f. refl)
      (either_way SameBase (eqb fid fid_set) (λ f. refl) (either_way SameBase (eqb fid fid_sret) (λ f. refl) refl))) refl
  base (Stoppable n eid fid a) = either_way SameBase (accepted (sync_answer eid fid a w)) (λ t. refl) refl
  base (Lines lines) =
      either_way SameBase (accepted (line_answer lines w)) (λ t. either_way SameBase (check7 (lines_stored lines w)) (λ f. refl) refl) refl
  base (TrapBack t) = either_way SameBase (accepted (trap_answer w)) (λ y. either_way SameBase (check7 (trap_taken t w)) (λ f. refl) refl) refl

pub other-fields-stay : OtherFieldsStay
unfolding page_set
other-fields-stay w =
    record {
      base = base w;
      probe = probe w;
      set = set w;
      page = λ eid a0 a1 a2 t. ap (λ (v : World). v.hart.shmem) (left eid fid_set a0 a1 a2 w t ∙ set-done a0 a1 w);
      csr = csr w;
      fence = fence w;
      sret = return w;
      stopped-csr = λ n eid a. by-stop w (Rest w.hart) n eid fid_csr a (λ q. stopped-rest w.hart.xlen n (asked w.hart.xlen fid_csr a) (state_of w)) refl;
      stopped-fence = stopped-fence w;
      lines = line w;
      trap = trap w;
    }
