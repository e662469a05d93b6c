-- What passes check 1 passes it after every event.
use mathlib.Core.Path.{◌≡◌, refl, sym, ap, ◌∙◌, subst}
use mathlib.Core.Bool.{Bool, true, false, cond, ◌&&◌, ◌||◌}
use mathlib.Core.List.{List, [], ◌∷◌, ◌++◌}
use mathlib.Core.Logic.{⊎_elim}
use Prim.Native.Nat.{ℕ, zero, suc, ◌+◌, ◌%◌, ◌^◌, ◌≤◌, ◌<◌}
use Rattle.std.specs.Prelude.{Ok, Some, None}
use native.Mathlib.Omega.{arith}
use lib.Dec.{eqb, leb}
use lib.ListN.{get_or}
use borrow.Author.Tests.{ltb-true, eq-eqb, lt-ltb}
use Rattle.claims.specs.Events.{Call, Stoppable, Lines, TrapBack, below_xlen, passable}
use Rattle.claims.specs.Claims.{CutNumbersFit, CutTrapsPass, WellMadeStays}
use Rattle.layout.specs.Width.{bytes, bits}
use Rattle.layout.specs.declared.xlen.Xlen.{Xlen}
use Rattle.layout.specs.declared.xlen.Xlen.TheVariants.{X32, X64}
use Rattle.layout.specs.Bits.{clear_bit}
use Rattle.layout.specs.Geometry.{context_at, page_size, swap_at}
use Rattle.layout.specs.Words.{word_at}
use Rattle.layout.proofs.WordLaws.{Bytes, word_bound, word-part}
use Rattle.csr.specs.Csrs.{Hstatus, Hgeip, Hip, Vsip, Htval, Htinst}
use Rattle.hart.specs.declared.record.Hart.{Hart}
use Rattle.hart.specs.declared.trap.Trap.{Trap}
use Rattle.hart.specs.Record.{is_s, with_general, returned}
use Rattle.hart.specs.Registers.{write}
use Rattle.hart.specs.Stored.{stored_count, held, hold}
use Rattle.hart.specs.Trap.{trap_hstatus, trapped}
use Rattle.hart.specs.WellMade.{leaves, fits_word, each_fits, lines_well_made, shmem_well_made, well_made}
use Rattle.hart.proofs.BitLaws.{and-ones}
use Rattle.hart.proofs.Fits.{words-write, well_made-words}
use Rattle.hart.proofs.Shape.{Words}
use Rattle.hart.proofs.WellMadeLaws.{parts-well_made, well_made-parts, hold-left, words-fit, fit_words, well_made-write}
use Rattle.page.specs.Registers.{IsPage}
use Rattle.world.specs.Memory.{part_at}
use Rattle.world.specs.World.{World, offset}
use Rattle.world.specs.State.{State, state_from, state_of, with_state}
use Rattle.world.proofs.StateLaws.{page-length}
use Rattle.turns.specs.Marks.{Mark}
use Rattle.turns.specs.Turn.{turns}
use Rattle.turns.specs.Steps.{steps, stopped}
use Rattle.turns.specs.Clean.{store_clean_words}
use Rattle.turns.proofs.Kept.{StateKept, state-same, run-kept}
use Rattle.turns.proofs.Truth.{either}
use Rattle.turns.proofs.Turns.{all-steps}
use Rattle.checks.specs.declared.answer.Success.TheVariants.{Value}
use Rattle.checks.specs.declared.answer.Refusal.TheVariants.{Failed, NotSupported, InvalidParam}
use Rattle.checks.specs.Fids.{fid_set, fid_csr, fid_fence, fid_sret}
use Rattle.checks.specs.Codes.{accepted}
use Rattle.checks.specs.Checks.{table_well_made, check1, check2, check7, is_call, is_drop, good_set, answer_by, call_answer, sync_answer}
use Rattle.checks.proofs.Accepted.{Passed, passed, room_of}
use Rattle.checks.proofs.Judged.{guard, tables}
use Rattle.checks.proofs.Truth.{both, and_intro}
use Rattle.stops.specs.Sync.{asked, stoppable, synced, synced_for}
use Rattle.stops.proofs.Forms.{stop-passed, stop-refused}
use Rattle.sret.specs.Context.{context_from}
use Rattle.sret.specs.Sret.{csrs_offered, entries_offered, offered_done, context_loaded, swaps, swapped, autoswapped, resumed, sret}
use Rattle.trap.specs.Trap.{trap_stored}
use Rattle.nacl.specs.Calls.{page_set, done, call_left}
use Rattle.nacl.specs.Lines.{lines_stored, line_answer, line_done, line_left}
use Rattle.nacl.specs.Traps.{trap_taken, trap_answer, trap_done, trap_left}
use Rattle.nacl.proofs.CallLaws.{refusal, left, at_most, answer-csr, answer-fence, sret-passed}
use Rattle.claims.proofs.Hstatus.{spv-cleared, trap-legal}
use Rattle.claims.proofs.Left.{front-left, room-there}
use Rattle.claims.proofs.TrapState.{stored-hart, stored-table}
use Rattle.claims.proofs.Turned.{by-fid, clean-rest}

-- ---- SRET

-- the return keeps a hart well made
well_made-returned : (h : Hart) → well_made h ≡ true → well_made (returned h) ≡ true
unfolding returned
well_made-returned h t =
    let p = well_made-parts h t in
    let f = words-fit h p.words in
    parts-well_made (returned h)
    (record { csrs = hold-left h.xlen Hstatus _ h.csrs (omega arith) (spv-cleared h.xlen _ (both (leaves h.xlen Hstatus (held Hstatus h.csrs)) _ p.csrs).0) p.csrs; lines = p.lines; sepc = p.sepc; stvec = p.stvec; shmem = p.shmem; x = p.x; features = p.features; words = fit_words (returned h) (record { pc = f.sepc; sepc = f.sepc; stvec = f.stvec; scause = f.scause; stval = f.stval; x = f.x }) })

-- so do general registers that fit, with X0 0
well_made-general : (h : Hart) (xs : List ℕ) → each_fits h.xlen xs ≡ true → well_made h ≡ true → well_made (with_general h (0 ∷ xs)) ≡ true
well_made-general h xs f t =
    let p = well_made-parts h t in
    let q = words-fit h p.words in
    parts-well_made (with_general h (0 ∷ xs))
    (record { csrs = p.csrs; lines = p.lines; sepc = p.sepc; stvec = p.stvec; shmem = p.shmem; x = refl; features = p.features; words = fit_words (with_general h (0 ∷ xs)) (record { pc = q.pc; sepc = q.sepc; stvec = q.stvec; scause = q.scause; stval = q.stval; x = and_intro (fits_word h.xlen 0) _ (zero-fits h.xlen) f }) })
  where
    zero-fits : (x : Xlen) → fits_word x 0 ≡ true
    zero-fits X32 = refl
    zero-fits X64 = refl

-- a number of as many bytes as a word has fits
word_fits : (x : Xlen) (v : ℕ) → v < 256 ^ bytes x → fits_word x v ≡ true
word_fits X32 v b = lt-ltb v (2 ^ 32) b
word_fits X64 v b = refl

-- so do the context's words
context-fits : (x : Xlen) (p : List ℕ) → ((i : ℕ) → i < 32 → word_at (bytes x) p (context_at (bytes x) i) < 256 ^ bytes x)
    → (i n : ℕ) → i + n ≤ 32 → each_fits x (context_from x i n p) ≡ true
unfolding context_from
context-fits x p f i zero b = refl
context-fits x p f i (suc n) b =
    and_intro (fits_word x (word_at (bytes x) p (context_at (bytes x) i))) _ (word_fits x _ (f i (omega arith))) (context-fits x p f (i + 1) n (omega arith))

-- the context ends before the entries
pub context-ends : (x : Xlen) (i : ℕ) → i < 32 → context_at (bytes x) i + bytes x ≤ 0x800
context-ends X32 i l = omega arith
context-ends X64 i l = omega arith

-- every word in front of the entries is one of bytes
abbrev FrontFits : Xlen → List ℕ → Type 0
FrontFits x p = (o : ℕ) → o + bytes x ≤ 0x800 → word_at (bytes x) p o < 256 ^ bytes x

-- so the context's words fit after the turns, which leave them as they are
offered-fits : (x : Xlen) (s : State) → IsPage x s.page → FrontFits x s.page → each_fits x (context_from x 1 31 (offered_done x s).page) ≡ true
offered-fits x s g f =
    context-fits x (offered_done x s).page
    (λ i l. subst (λ (v : ℕ). v < 256 ^ bytes x) (sym (front-left x s g (context_at (bytes x) i) (context-ends x i l))) (f (context_at (bytes x) i) (context-ends x i l)))
    1 31 (omega arith)

-- ---- a trap

-- a word is one that fits
word_of : (x : Xlen) (v : ℕ) → below_xlen x v ≡ true → fits_word x v ≡ true
word_of X32 v t = t
word_of X64 v t = refl

-- and what htval and htinst can hold
all-legal : (x : Xlen) (v : ℕ) → below_xlen x v ≡ true → (leaves x Htval v ≡ true) × (leaves x Htinst v ≡ true)
unfolding leaves
all-legal X32 v t = let e = and-ones 32 v (ltb-true v (2 ^ 32) t) in (eq-eqb _ v e, eq-eqb _ v e)
all-legal X64 v t = let e = and-ones 64 v (ltb-true v (2 ^ 64) t) in (eq-eqb _ v e, eq-eqb _ v e)

-- a trap of such words keeps a hart well made
well_made-trapped : (t : Trap) (h : Hart) → below_xlen h.xlen t.cause && below_xlen h.xlen t.tval && below_xlen h.xlen t.htval && below_xlen h.xlen t.htinst ≡ true
    → well_made h ≡ true → well_made (trapped t h) ≡ true
unfolding trapped
well_made-trapped t h k m =
    let (k₁, inst) = both (below_xlen h.xlen t.cause && below_xlen h.xlen t.tval && below_xlen h.xlen t.htval) _ k in
    let (k₂, val) = both (below_xlen h.xlen t.cause && below_xlen h.xlen t.tval) _ k₁ in
    let (cause, tval) = both (below_xlen h.xlen t.cause) _ k₂ in
    let p = well_made-parts h m in
    let f = words-fit h p.words in
    let x = h.xlen in
    let taken = trap_hstatus t.gva (is_s h.mode) (held Hstatus h.csrs) in
    parts-well_made (trapped t h)
    (record {
      csrs = hold-left x Htinst t.htinst (hold Htval t.htval (hold Hstatus taken h.csrs)) (omega arith) (all-legal x t.htinst inst).1
          (hold-left x Htval t.htval (hold Hstatus taken h.csrs) (omega arith) (all-legal x t.htval val).0
          (hold-left x Hstatus taken h.csrs (omega arith) (trap-legal t.gva (is_s h.mode) x _ (both (leaves x Hstatus (held Hstatus h.csrs)) _ p.csrs).0) p.csrs));
      lines = p.lines;
      sepc = eq-eqb (clear_bit h.pc 0 % 2) 0 (omega arith);
      stvec = p.stvec;
      shmem = p.shmem;
      x = p.x;
      features = p.features;
      words = fit_words (trapped t h) (record { pc = f.stvec; sepc = narrow x h.pc f.pc; stvec = f.stvec; scause = word_of x t.cause cause; stval = word_of x t.tval tval; x = f.x });
    })
  where
    narrow : (x : Xlen) (v : ℕ) → fits_word x v ≡ true → fits_word x (clear_bit v 0) ≡ true
    narrow X32 v b = lt-ltb (clear_bit v 0) (2 ^ 32) (omega (arith, ltb-true v (2 ^ 32) b))
    narrow X64 v b = refl

-- a state that passes check 1
abbrev Made : State → Type 0
Made s = (table_well_made s.table ≡ true) × (well_made s.hart ≡ true)

kept-made : (xlen : Xlen) {s s₀ : State} → StateKept xlen s s₀ → Made s₀ → Made s
kept-made xlen k m = (ap (λ (n : ℕ). eqb (n % 4) 0 && leb n 1024) k.table ∙ m.0, k.hart.well m.1)

pub turns-kept : (xlen : Xlen) (ms : List Mark) (s : State) → IsPage xlen s.page → StateKept xlen (turns xlen ms s) s
turns-kept xlen ms s g = subst (λ (t : State). StateKept xlen t s) (all-steps xlen ms s g) (run-kept xlen (steps xlen ms s) s s (state-same xlen s g))

swap-made : (xlen : Xlen) (s : State) → Made s → Made (autoswapped xlen s)
unfolding autoswapped swapped
swap-made xlen s m = go (swaps xlen s.hart.features s.page)
  where
    go : (b : Bool) → Made (cond b (swapped xlen s) s)
    go true = (m.0, well_made-write Hstatus (word_at (bytes xlen) s.page (swap_at (bytes xlen))) s.hart m.1)
    go false = m

resumed-made : (xlen : Xlen) (s : State) → Made s → Made (resumed xlen s)
unfolding resumed
resumed-made xlen s m =
    let (h, t) = clean-rest xlen (Hstatus ∷ Hip ∷ Vsip ∷ []) (state_from (returned s.hart) s.page s.table) in
    (ap table_well_made t ∙ m.0, ap well_made h ∙ well_made-returned s.hart m.1)

-- all of SRET
sret-made : (x : Xlen) (s : State) → s.hart.xlen ≡ x → IsPage x s.page → FrontFits x s.page → Made s → Made (sret x s)
unfolding sret context_loaded offered_done
sret-made x s e g b m =
    let k = turns-kept x (csrs_offered x s.hart.features ++ entries_offered x s.hart.features) s g in
    let (t, h) = kept-made x k m in
    let d = offered_done x s in
    let fits = subst (λ (y : Xlen). each_fits y (context_from x 1 31 d.page) ≡ true) (sym (k.hart.xlen ∙ e)) (offered-fits x s g b) in
    resumed-made x _ (swap-made x (context_loaded x d) (t, well_made-general d.hart (context_from x 1 31 d.page) fits h))

-- the words in front of the entries fit, of a memory of bytes
page-words : (w : World) → Bytes w.memory → FrontFits w.hart.xlen (state_of w).page
unfolding part_at
page-words w b o l =
    let x = w.hart.xlen in
    subst (λ (v : ℕ). v < 256 ^ bytes x) (sym (word-part (bytes x) (page_size (bytes x)) (offset w) o w.memory (omega arith)))
    (word_bound (bytes x) w.memory (offset w + o) b)

-- ---- the numbers that a reading takes

-- SPV cleared makes none bigger
cleared-below : (n : ℕ) (csrs : List ℕ) → ((k : ℕ) → k < stored_count → get_or csrs k 0 < n)
    → (k : ℕ) → k < stored_count → get_or (hold Hstatus (clear_bit (held Hstatus csrs) 7) csrs) k 0 < n
cleared-below n [] f k b = f k b
cleared-below n (c ∷ csrs) f zero b = omega (arith, f 0 b)
cleared-below n (c ∷ csrs) f (suc k) b = f (suc k) b

-- after SRET the stored registers and the lines fit a word, whatever memory holds
sret-words : (x : Xlen) (s : State) → IsPage x s.page → well_made s.hart ≡ true → Words (sret x s).hart
unfolding sret resumed autoswapped swapped context_loaded offered_done returned
sret-words x s g t =
    let d = offered_done x s in
    let k = turns-kept x (csrs_offered x s.hart.features ++ entries_offered x s.hart.features) s g in
    let q = well_made-words d.hart (k.hart.well t) in
    let e = autoswapped x (context_loaded x d) in
    subst Words (sym (clean-rest x (Hstatus ∷ Hip ∷ Vsip ∷ []) (state_from (returned e.hart) e.page e.table)).0)
    (returned-words e.hart (swap-words (context_loaded x d) (record { csrs = q.csrs; lines = q.lines })))
  where
    swap-words : (u : State) → Words u.hart → Words (autoswapped x u).hart
    swap-words u q = go (swaps x u.hart.features u.page)
      where
        go : (b : Bool) → Words (cond b (swapped x u) u).hart
        go true = words-write Hstatus (word_at (bytes x) u.page (swap_at (bytes x))) u.hart q
        go false = q

    returned-words : (h : Hart) → Words h → Words (returned h)
    returned-words h q = record { csrs = cleared-below (2 ^ bits h.xlen) h.csrs q.csrs; lines = q.lines }

-- ---- the events

-- what a reading takes fits
pub made-words : (w : World) → check1 w ≡ true → Words w.hart
made-words w t = well_made-words w.hart (tables w t).1

-- the two parts of check 1
passes : (w : World) → Made (state_of w) → check1 w ≡ true
unfolding check1
passes w (t, h) = and_intro (table_well_made w.table) (well_made w.hart) t h

module _ (w : World) (t : check1 w ≡ true) where
  made : Made (state_of w)
  made = tables w t

  -- FID 2 and 3, stopped or whole
  stopped-passes : (n eid fid a : ℕ) → Passed eid fid a w → check1 (synced_for n fid a w) ≡ true
  unfolding synced_for stopped
  stopped-passes n eid fid a q =
      passes (synced_for n fid a w)
      (kept-made w.hart.xlen (run-kept w.hart.xlen _ (state_of w) (state_of w) (state-same w.hart.xlen (state_of w) (page-length w (room_of eid fid a w q)))) made)

  synced-passes : (eid fid a : ℕ) → Passed eid fid a w → check1 (synced fid a w) ≡ true
  unfolding synced
  synced-passes eid fid a q =
      passes (synced fid a w) (kept-made w.hart.xlen (turns-kept w.hart.xlen (asked w.hart.xlen fid a) (state_of w) (page-length w (room_of eid fid a w q))) made)

  -- set: no page, or one at an aligned address that fits
  set-passes : (eid a0 a1 a2 : ℕ) → fits_word w.hart.xlen a0 ≡ true → accepted (call_answer eid fid_set a0 a1 a2 w) ≡ true → check1 (page_set a0 a1 w) ≡ true
  unfolding page_set call_answer answer_by
  set-passes eid a0 a1 a2 f y =
      let (one, t₁) = guard (check1 w) Failed _ y in
      let (two, t₂) = guard (check2 w) NotSupported _ t₁ in
      let (three, t₃) = guard (is_call eid fid_set) NotSupported _ t₂ in
      let (five, t₄) = guard (good_set w.hart.xlen a0 a1 a2) InvalidParam _ t₃ in
      let p = well_made-parts w.hart made.1 in
      let s = aligned (is_drop w.hart.xlen a0 a1) (both (eqb a2 0) _ five).1 in
      passes (page_set a0 a1 w) (
        made.0,
        parts-well_made (page_set a0 a1 w).hart
            (record { csrs = p.csrs; lines = p.lines; sepc = p.sepc; stvec = p.stvec; shmem = s; x = p.x; features = p.features; words = p.words }),
      )
    where
      aligned : (b : Bool) → (b || eqb (a0 % 4096) 0) ≡ true → shmem_well_made w.hart.xlen (cond b None (Some a0)) ≡ true
      aligned true z = refl
      aligned false z = and_intro (eqb (a0 % 4096) 0) (fits_word w.hart.xlen a0) z f

  sret-passes : (eid a0 a1 a2 : ℕ) → Bytes w.memory → accepted (call_answer eid fid_sret a0 a1 a2 w) ≡ true → check1 (done fid_sret a0 a1 w) ≡ true
  unfolding done
  sret-passes eid a0 a1 a2 b z =
      let g = page-length w (room-there w (sret-passed eid a0 a1 a2 w z).1) in
      passes (with_state w (sret w.hart.xlen (state_of w))) (sret-made w.hart.xlen (state_of w) refl g (page-words w b) made)

  call_passes : (eid fid a0 a1 a2 : ℕ) → Bytes w.memory → fits_word w.hart.xlen a0 ≡ true → accepted (call_answer eid fid a0 a1 a2 w) ≡ true
      → check1 (done fid a0 a1 w) ≡ true
  call_passes eid fid a0 a1 a2 b f y =
      by-fid (λ (f : ℕ). accepted (call_answer eid f a0 a1 a2 w) ≡ true → check1 (done f a0 a1 w) ≡ true) fid (at_most eid fid a0 a1 a2 w y)
      (λ z. unfold done in t)
      (λ z. unfold done in set-passes eid a0 a1 a2 f z)
      (λ z. unfold done in synced-passes eid fid_csr a0 (passed eid fid_csr a0 w (rw (answer-csr eid a0 a1 a2 w) at z)))
      (λ z. unfold done in synced-passes eid fid_fence a0 (passed eid fid_fence a0 w (rw (answer-fence eid a0 a1 a2 w) at z)))
      (λ z. sret-passes eid a0 a1 a2 b z)
      y

  -- what reads take fits, whatever the address and memory
  call_fits : (eid fid a0 a1 a2 : ℕ) → accepted (call_answer eid fid a0 a1 a2 w) ≡ true → Words (done fid a0 a1 w).hart
  call_fits eid fid a0 a1 a2 y =
      let q = well_made-words w.hart made.1 in
      by-fid (λ (f : ℕ). accepted (call_answer eid f a0 a1 a2 w) ≡ true → Words (done f a0 a1 w).hart) fid (at_most eid fid a0 a1 a2 w y)
      (λ z. unfold done in q)
      (λ z. unfold done page_set in record { csrs = q.csrs; lines = q.lines })
      (λ z. unfold done in made-words (synced fid_csr a0 w) (synced-passes eid fid_csr a0 (passed eid fid_csr a0 w (rw (answer-csr eid a0 a1 a2 w) at z))))
      (λ z. unfold done in made-words (synced fid_fence a0 w) (synced-passes eid fid_fence a0 (passed eid fid_fence a0 w (rw (answer-fence eid a0 a1 a2 w) at z))))
      (λ z. unfold done in sret-words w.hart.xlen (state_of w) (page-length w (room-there w (sret-passed eid a0 a1 a2 w z).1)) made.1)
      y

  -- a line change: the lines are good, and clean words change memory only
  lines-pass : (lines : ℕ) → accepted (line_answer lines w) ≡ true → check1 (line_done (lines_stored lines w)) ≡ true
  unfolding line_done line_answer
  lines-pass lines y = go (check7 v)
    where
      v : World
      v = lines_stored lines w

      good : Made (state_of v)
      good =
          let (one, t₁) = guard (check1 w) Failed _ y in
          let (fits, t₂) = guard (lines_well_made lines) InvalidParam (Ok (Value 0)) t₁ in
          let p = well_made-parts w.hart made.1 in (
            made.0,
            parts-well_made v.hart
                (record { csrs = p.csrs; lines = fits; sepc = p.sepc; stvec = p.stvec; shmem = p.shmem; x = p.x; features = p.features; words = p.words }),
          )

      go : (b : Bool) → check1 (cond b (with_state v (store_clean_words w.hart.xlen (Hgeip ∷ Hip ∷ Vsip ∷ []) (state_of v))) v) ≡ true
      go true =
          let (h, e) = clean-rest w.hart.xlen (Hgeip ∷ Hip ∷ Vsip ∷ []) (state_of v) in
          passes (with_state v (store_clean_words w.hart.xlen (Hgeip ∷ Hip ∷ Vsip ∷ []) (state_of v))) (ap table_well_made e ∙ good.0, ap well_made h ∙ good.1)
      go false = passes v good

  -- a trap: the record is good, the swap keeps it so, and clean words change memory only
  trap-passes : (k : Trap) → passable (TrapBack k) w ≡ true → check1 (trap_done (trap_taken k w)) ≡ true
  unfolding trap_done trapped
  trap-passes k p = go (check7 v)
    where
      v : World
      v = trap_taken k w

      x : Xlen
      x = w.hart.xlen

      good : well_made v.hart ≡ true
      good = well_made-trapped k w.hart p made.1

      stored : well_made (trap_stored x (state_of v)).hart ≡ true
      stored = ap well_made (stored-hart x (state_of v)) ∙ swap (swaps x v.hart.features (state_of v).page)
        where
          swap : (b : Bool) → well_made (cond b (write Hstatus (word_at (bytes x) (state_of v).page (swap_at (bytes x))) v.hart) v.hart) ≡ true
          swap true = well_made-write Hstatus (word_at (bytes x) (state_of v).page (swap_at (bytes x))) v.hart good
          swap false = good

      go : (b : Bool) → check1 (cond b (with_state v (trap_stored x (state_of v))) v) ≡ true
      go true = passes (with_state v (trap_stored x (state_of v))) (ap table_well_made (stored-table x (state_of v)) ∙ made.0, stored)
      go false = passes v (made.0, good)

-- ---- the kinds of event

-- a call, of a memory of bytes and a first number of the hart's width
pub call_stays : (eid fid a0 a1 a2 : ℕ) (w : World) → Bytes w.memory → fits_word w.hart.xlen a0 ≡ true → check1 w ≡ true
    → check1 (call_left eid fid a0 a1 a2 w) ≡ true
call_stays eid fid a0 a1 a2 w b f t =
    ⊎_elim (λ y. ap check1 (left eid fid a0 a1 a2 w y) ∙ call_passes w t eid fid a0 a1 a2 b f y)
    (λ n. ap check1 (refusal eid fid a0 a1 a2 w n).1 ∙ t) (either (accepted (call_answer eid fid a0 a1 a2 w)))

-- an accepted SRET, with any numbers
pub sret-stays : (eid a0 a1 a2 : ℕ) (w : World) → Bytes w.memory → accepted (call_answer eid fid_sret a0 a1 a2 w) ≡ true
    → check1 (call_left eid fid_sret a0 a1 a2 w) ≡ true
sret-stays eid a0 a1 a2 w b y =
    ap check1 (left eid fid_sret a0 a1 a2 w y) ∙ sret-passes w (sret-passed eid a0 a1 a2 w y).0 eid a0 a1 a2 b y

-- what a reading takes of the record that a call leaves fits a word, with neither
pub call-words : (eid fid a0 a1 a2 : ℕ) (w : World) → check1 w ≡ true → Words (call_left eid fid a0 a1 a2 w).hart
call-words eid fid a0 a1 a2 w t =
    ⊎_elim (λ y. subst (λ (v : World). Words v.hart) (sym (left eid fid a0 a1 a2 w y)) (call_fits w t eid fid a0 a1 a2 y))
    (λ n. subst (λ (v : World). Words v.hart) (sym (refusal eid fid a0 a1 a2 w n).1) (made-words w t)) (either (accepted (call_answer eid fid a0 a1 a2 w)))

-- a run of the stoppable form
pub stop-stays : (n eid fid a : ℕ) (w : World) → check1 w ≡ true → check1 (stoppable n eid fid a w) ≡ true
stop-stays n eid fid a w t =
    ⊎_elim (λ y. let q = passed eid fid a w y in ap check1 (stop-passed n eid fid a w q) ∙ stopped-passes w t n eid fid a q)
    (λ r. ap check1 (stop-refused n eid fid a w r) ∙ t) (either (accepted (sync_answer eid fid a w)))

-- a line change
pub line_stays : (lines : ℕ) (w : World) → check1 w ≡ true → check1 (line_left lines w) ≡ true
line_stays lines w t = unfold line_left in go (accepted (line_answer lines w)) refl
  where
    go : (b : Bool) → accepted (line_answer lines w) ≡ b → check1 (cond b (line_done (lines_stored lines w)) w) ≡ true
    go true y = lines-pass w t lines y
    go false y = t

-- a trap
pub trap-stays : (k : Trap) (w : World) → passable (TrapBack k) w ≡ true → check1 w ≡ true → check1 (trap_left k w) ≡ true
trap-stays k w p t = unfold trap_left in go (accepted (trap_answer w))
  where
    go : (b : Bool) → check1 (cond b (trap_done (trap_taken k w)) w) ≡ true
    go true = trap-passes w t k p
    go false = t

-- every event
pub well-made-stays : WellMadeStays
well-made-stays (Call eid fid a0 a1 a2) w o p t =
    let x = w.hart.xlen in
    let rest = (both (fits_word x fid) (each_fits x (a0 ∷ a1 ∷ a2 ∷ [])) (both (fits_word x eid) (each_fits x (fid ∷ a0 ∷ a1 ∷ a2 ∷ [])) p).1).1 in
    call_stays eid fid a0 a1 a2 w o.memory (both (fits_word x a0) (each_fits x (a1 ∷ a2 ∷ [])) rest).0 t
well-made-stays (Stoppable n eid fid a) w o p t = stop-stays n eid fid a w t
well-made-stays (Lines lines) w o p t = line_stays lines w t
well-made-stays (TrapBack k) w o p t = trap-stays k w p t

-- four words of a trap
four : {a b c d : Bool} → a ≡ true → b ≡ true → c ≡ true → d ≡ true → a && b && c && d ≡ true
four p q r s = rw (p, q, r) s

-- a number that was cut fits
pub cut_fits : CutNumbersFit
cut_fits X32 a = (lt-ltb (a % 2 ^ 32) (2 ^ 32) (omega arith), λ t. omega (arith, ltb-true a (2 ^ 32) t), λ b. lt-ltb (a % 2 ^ 32) (2 ^ 32) (omega arith))
cut_fits X64 a = (refl, λ t. refl, λ b. lt-ltb a (2 ^ 64) b)

-- so do the words of a trap
pub cut-traps : CutTrapsPass
cut-traps t w a b c d =
    let f = cut_fits w.hart.xlen in
    four ((f t.cause).2 a) ((f t.tval).2 b) ((f t.htval).2 c) ((f t.htinst).2 d)
