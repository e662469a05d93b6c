-- What an event leaves of memory: memory as it was, or in the page's place a page with every property that the event's edits keep.
use mathlib.Core.Path.{◌≡◌, refl, sym, ap, ap₂, ◌∙◌, subst}
use mathlib.Core.Bool.{Bool, true, false, cond, ◌&&◌, false≢true}
use mathlib.Core.List.{List, [], ◌∷◌, ◌++◌, Memᴰ}
use mathlib.Core.Logic.{inl, ⊎_elim}
use Prim.Native.Nat.{ℕ, zero, suc, ◌+◌, ◌≤◌}
use native.Mathlib.Nat.{le_refl}
use native.Mathlib.Omega.{arith}
use lib.Dec.{eqb}
use Rattle.claims.proofs.Places.{bytes-few}
use Rattle.layout.specs.Width.{bytes}
use Rattle.layout.specs.declared.xlen.Xlen.{Xlen}
use Rattle.layout.specs.Geometry.{csr_at, entry_at, flags_at, page_size, swap_at}
use Rattle.layout.specs.Bits.{bit_of}
use Rattle.layout.specs.Words.{word_at}
use Rattle.layout.proofs.WordLaws.{length-put, word-put-other}
use Rattle.layout.proofs.DirtyLaws as Bits
use Rattle.layout.proofs.IndexLaws.{index-lt}
use Rattle.csr.specs.Csrs.{Csr, Hstatus, Hgeip, Hip, Vsip, number, turn_order}
use Rattle.hart.specs.Features.{has_feature}
use Rattle.hart.specs.declared.trap.Trap.{Trap}
use Rattle.hart.specs.Record.{returned}
use Rattle.hart.specs.Registers.{read}
use Rattle.hart.specs.Trap.{trapped}
use Rattle.fence.specs.Entry.{clear_pending}
use Rattle.page.specs.Registers.{IsPage, index, clear_mark, put_csr}
use Rattle.page.specs.Entries.{entry_word, clear_entry}
use Rattle.world.specs.Memory.{part_at, with_part}
use Rattle.world.specs.World.{World, offset}
use Rattle.world.specs.State.{State, state_from, state_of, with_state}
use Rattle.world.proofs.MemoryLaws.{Room, part-with}
use Rattle.world.proofs.WorldLaws.{room}
use Rattle.world.proofs.StateLaws.{page-length}
use Rattle.turns.specs.Marks.{Mark}
use Rattle.turns.specs.Steps.{steps, total, stopped}
use Rattle.turns.specs.Clean.{store_clean_words, trap_words}
use Rattle.turns.proofs.Kept.{state-same, run-kept}
use Rattle.turns.proofs.Turns.{all-steps, enough}
use Rattle.turns.proofs.Truth.{either}
use Rattle.checks.specs.Fids.{fid_probe, fid_set, fid_csr, fid_fence, fid_sret}
use Rattle.checks.specs.Codes.{accepted}
use Rattle.checks.specs.Checks.{check7, call_answer, sync_answer}
use Rattle.checks.proofs.Accepted.{Passed, passed, room_of}
use Rattle.stops.specs.Sync.{asked, synced, synced_for}
use Rattle.stops.proofs.Forms.{stop-passed, stop-refused}
use Rattle.sret.specs.Sret.{csrs_offered, entries_offered, offered_done, context_loaded, swaps, swapped, autoswapped, resumed, sret}
use Rattle.trap.specs.Trap.{trap_stored}
use Rattle.nacl.specs.Calls.{page_set, done}
use Rattle.nacl.specs.Lines.{lines_stored, line_answer, line_done, line_left}
use Rattle.nacl.specs.Traps.{trap_taken, trap_answer, trap_done, trap_left}
use Rattle.nacl.proofs.CallLaws.{refusal, left, at_most, answer-csr, answer-fence, sret-passed}
use Rattle.claims.proofs.Blanks.{is-drop}
use Rattle.claims.specs.Events.{Event, Call, Stoppable, Lines, TrapBack, blanks, left_by, call_marks, call_words, marks_asked, words_allowed, swap_allowed, page_in}
use Rattle.claims.proofs.Edits.{Keeps, stopped-good, turns-good, clean-good, lower-order, asked-within, offered-within}

-- memory m is that of w, or has in the page's place a page with property P
pub data Left (w : World) (P : List ℕ → Type 0) (m : List ℕ) : Type 0 where
  same : m ≡ w.memory → Left w P m
  other : (q : List ℕ) → check7 w ≡ true → Room (page_size (bytes w.hart.xlen)) (offset w) w.memory → IsPage w.hart.xlen q × P q → m ≡ with_part (page_size (bytes w.hart.xlen)) (offset w) q w.memory
      → Left w P m

-- ---- SRET

-- the swap keeps what its store keeps
swap-good : (xlen : Xlen) (cs : List Csr) (ms : List Mark) (stored : Bool) (P : List ℕ → Type 0) → Keeps xlen cs ms stored P → (t : State)
    → swaps xlen t.hart.features t.page ≡ stored → IsPage xlen t.page × P t.page
    → IsPage xlen (autoswapped xlen t).page × P (autoswapped xlen t).page
unfolding autoswapped swapped
swap-good xlen cs ms stored P k t e q = go (swaps xlen t.hart.features t.page) refl
  where
    go : (b : Bool) → swaps xlen t.hart.features t.page ≡ b → IsPage xlen (cond b (swapped xlen t) t).page × P (cond b (swapped xlen t) t).page
    go true y = (length-put (bytes xlen) t.page (swap_at (bytes xlen)) (read Hstatus t.hart) ∙ q.0, k.swap (read Hstatus t.hart) t.page (sym e ∙ y) q.0 q.1)
    go false y = q

-- no turn stores a word in front of the entries
front_kept : (xlen : Xlen) (cs : List Csr) (ms : List Mark) (o : ℕ) → o + bytes xlen ≤ 0x800 → (p₀ : List ℕ) → Keeps xlen cs ms false (λ p. word_at (bytes xlen) p o ≡ word_at (bytes xlen) p₀ o)
unfolding put_csr clear_mark clear_entry
front_kept xlen cs ms o b p₀ =
    record {
      put = λ c v p i g q. word-put-other (bytes xlen) (bytes xlen) p (csr_at (bytes xlen) (index c)) v o (inl (omega arith)) ∙ q;
      clear = λ c p i g q. Bits.word-clear (bytes xlen) p (index c) o (index-lt (number c)) (inl (omega arith)) ∙ q;
      done = λ e p i a g q. word-put-other (bytes xlen) (bytes xlen) p (entry_at (bytes xlen) e) (clear_pending xlen (entry_word xlen p e 0)) o (inl (omega arith)) ∙ q;
      swap = λ v p t g q. absurd (false≢true t);
    }

module _ (xlen : Xlen) (s : State) where
  abbrev offered : List Mark
  offered = csrs_offered xlen s.hart.features ++ entries_offered xlen s.hart.features

  abbrev words : List Csr
  words = call_words xlen s.hart.features fid_sret 0

  -- so after the turns it is as it was
  pub front-left : (IsPage xlen) s.page → (o : ℕ) → o + bytes xlen ≤ 0x800 → word_at (bytes xlen) (offered_done xlen s).page o ≡ word_at (bytes xlen) s.page o
  unfolding offered_done
  front-left g o b =
      (turns-good xlen words offered false (λ p. word_at (bytes xlen) p o ≡ word_at (bytes xlen) s.page o) (front_kept xlen words offered o b s.page) offered
      (offered-within xlen s.hart.features) s (g, refl)).1

  -- and the swap is asked for if it was before
  pub same-swap : (IsPage xlen) s.page → swaps xlen (offered_done xlen s).hart.features (offered_done xlen s).page ≡ swaps xlen s.hart.features s.page
  unfolding offered_done
  same-swap g =
      ap₂ (λ (f v : ℕ). has_feature f 3 && eqb (bit_of v 0) 1)
      (subst (λ (t : State). t.hart.features ≡ s.hart.features) (all-steps xlen offered s g) (run-kept xlen (steps xlen offered s) s s (state-same xlen s g)).hart.features)
      (front-left g flags_at (omega (arith, bytes-few xlen)))

  module _ (P : List ℕ → Type 0) (k : Keeps xlen words offered (swaps xlen s.hart.features s.page) P) where
    -- the clean words
    last-words : (f : Csr) → Memᴰ f (Hstatus ∷ Hip ∷ Vsip ∷ []) → Memᴰ f words
    last-words f i = go (has_feature s.hart.features 0)
      where
        go : (b : Bool) → Memᴰ f (cond b (turn_order xlen) (Hstatus ∷ Hip ∷ Vsip ∷ []))
        go true = lower-order xlen (Hstatus ∷ Hip ∷ Vsip ∷ []) refl i
        go false = i

    -- all of SRET
    sret-good : (IsPage xlen) s.page × P s.page → IsPage xlen (sret xlen s).page × P (sret xlen s).page
    unfolding sret resumed context_loaded offered_done
    sret-good q =
        let t = autoswapped xlen (context_loaded xlen (offered_done xlen s)) in
        clean-good xlen words offered (swaps xlen s.hart.features s.page) P k (Hstatus ∷ Hip ∷ Vsip ∷ [])
        (state_from (returned t.hart) t.page t.table) last-words
        (swap-good xlen words offered (swaps xlen s.hart.features s.page) P k (context_loaded xlen (offered_done xlen s)) (same-swap q.0)
        (turns-good xlen words offered (swaps xlen s.hart.features s.page) P k offered (offered-within xlen s.hart.features) s q))

-- ---- the events

-- there is room for a page that is there
pub room-there : (w : World) → check7 w ≡ true → Room (page_size (bytes w.hart.xlen)) (offset w) w.memory
unfolding check7
room-there w t = room w.hart.xlen w.base w.memory w.hart.shmem t

-- what is so for each FID up to 4 is so for a FID that is at most 4
each-fid : (P : ℕ → Type 0) (fid : ℕ) → fid ≤ fid_sret → P fid_probe → P fid_set → P fid_csr → P fid_fence → P fid_sret → P fid
each-fid P zero b p₀ p₁ p₂ p₃ p₄ = p₀
each-fid P (suc zero) b p₀ p₁ p₂ p₃ p₄ = p₁
each-fid P (suc (suc zero)) b p₀ p₁ p₂ p₃ p₄ = p₂
each-fid P (suc (suc (suc zero))) b p₀ p₁ p₂ p₃ p₄ = p₃
each-fid P (suc (suc (suc (suc zero)))) b p₀ p₁ p₂ p₃ p₄ = p₄
each-fid P (suc (suc (suc (suc (suc n))))) b p₀ p₁ p₂ p₃ p₄ = absurd (omega arith)

module _ (w : World) (P : List ℕ → Type 0) (h : P (page_in w w)) where
  -- P stays with the edits of a call
  abbrev Kept : ℕ → ℕ → Bool → Type 0
  Kept fid a stored = Keeps w.hart.xlen (call_words w.hart.xlen w.hart.features fid a) (call_marks w.hart.xlen w.hart.features fid a) stored P

  -- the first n steps of FID 2 or 3
  stopped-left : (n eid fid a : ℕ) (stored : Bool) → Kept fid a stored → Passed eid fid a w → Left w P (synced_for n fid a w).memory
  unfolding synced_for
  stopped-left n eid fid a stored k q =
      let r = room_of eid fid a w q in
      other (stopped w.hart.xlen n (asked w.hart.xlen fid a) (state_of w)).page q.seven r
      (stopped-good w.hart.xlen (call_words w.hart.xlen w.hart.features fid a) (call_marks w.hart.xlen w.hart.features fid a) stored P k (asked w.hart.xlen fid a)
      (asked-within w.hart.features eid fid a w q) n (state_of w) (page-length w r, h))
      refl

  -- all
  synced-left : (eid fid a : ℕ) (stored : Bool) → Kept fid a stored → Passed eid fid a w → Left w P (synced fid a w).memory
  unfolding synced_for synced
  synced-left eid fid a stored k q =
      subst (λ (t : State). Left w P (with_state w t).memory)
      (enough w.hart.xlen (total w.hart.xlen (asked w.hart.xlen fid a) (state_of w)) (asked w.hart.xlen fid a) (state_of w) (page-length w (room_of eid fid a w q)) (le_refl (total w.hart.xlen (asked w.hart.xlen fid a) (state_of w))))
      (stopped-left (total w.hart.xlen (asked w.hart.xlen fid a) (state_of w)) eid fid a stored k q)

  module _ (eid a0 a1 a2 : ℕ) where
    -- an accepted call
    Accepted : ℕ → Type 0
    Accepted fid =
        blanks (Call eid fid a0 a1 a2) w ≡ false → accepted (call_answer eid fid a0 a1 a2 w) ≡ true → Kept fid a0 (swap_allowed (Call eid fid a0 a1 a2) w)
        → Left w P (done fid a0 a1 w).memory

    call-left : (fid : ℕ) → fid ≤ fid_sret → Accepted fid
    unfolding Accepted
    call-left fid b = each-fid Accepted fid b probe set csr fence resume
      where
        probe : Accepted fid_probe
        probe b t k = unfold done in same refl

        set : Accepted fid_set
        set b t k = let d = is-drop eid a0 a1 a2 w b t in unfold done page_set in same (rw d)

        csr : Accepted fid_csr
        csr b t k = unfold done in synced-left eid fid_csr a0 false k (passed eid fid_csr a0 w (rw (answer-csr eid a0 a1 a2 w) at t))

        fence : Accepted fid_fence
        fence b t k = unfold done in synced-left eid fid_fence a0 false k (passed eid fid_fence a0 w (rw (answer-fence eid a0 a1 a2 w) at t))

        resume : Accepted fid_sret
        resume b t k =
            let r = room-there w (sret-passed eid a0 a1 a2 w t).1 in
            unfold done in other (sret w.hart.xlen (state_of w)).page (sret-passed eid a0 a1 a2 w t).1 r (sret-good w.hart.xlen (state_of w) P k (page-length w r, h)) refl

  -- a line change
  lines_left : (lines : ℕ) → Keeps w.hart.xlen (words_allowed (Lines lines) w) [] false P → Left w P (line_left lines w).memory
  unfolding line_left line_done
  lines_left lines k = go (accepted (line_answer lines w)) (check7 (lines_stored lines w)) refl
    where
      words : List Csr
      words = Hgeip ∷ Hip ∷ Vsip ∷ []

      v : World
      v = lines_stored lines w

      go : (b c : Bool) → check7 v ≡ c → Left w P (cond b (cond c (with_state v (store_clean_words w.hart.xlen words (state_of v))) v) w).memory
      go true true t =
          let r = room-there v t in
          other (store_clean_words w.hart.xlen words (state_of v)).page (unfold check7 in t) r (clean-good w.hart.xlen words [] false P k words (state_of v) (λ f i. i) (page-length v r, h)) refl
      go true false t = same refl
      go false c t = same refl

  -- a trap
  trap-left : (t : Trap) → Keeps w.hart.xlen trap_words [] (swaps w.hart.xlen w.hart.features (page_in w w)) P → Left w P (trap_left t w).memory
  unfolding trap_left trap_done trap_stored trapped
  trap-left t k = go (accepted (trap_answer w)) (check7 (trap_taken t w)) refl
    where
      v : World
      v = trap_taken t w

      x : Xlen
      x = w.hart.xlen

      stored : Bool
      stored = swaps x w.hart.features (page_in w w)

      go : (b c : Bool) → check7 v ≡ c → Left w P (cond b (cond c (with_state v (store_clean_words x trap_words (autoswapped x (state_of v)))) v) w).memory
      go true true y =
          let r = room-there v y in
          other (store_clean_words x trap_words (autoswapped x (state_of v))).page (unfold check7 in y) r
          (clean-good x trap_words [] stored P k trap_words (autoswapped x (state_of v)) (λ f i. i) (swap-good x trap_words [] stored P k (state_of v) refl (page-length v r, h))) refl
      go true false y = same refl
      go false c y = same refl

-- what any event leaves of memory, for a property that the page had
pub memory-left : (x : Event) (w : World) → blanks x w ≡ false → (P : List ℕ → Type 0) → Keeps w.hart.xlen (words_allowed x w) (marks_asked x w) (swap_allowed x w) P → P (page_in w w)
    → Left w P (left_by x w).memory
unfolding Accepted
memory-left (Call eid fid a0 a1 a2) w b P k h =
    ⊎_elim
    (λ t. subst (λ (v : World). Left w P v.memory) (sym (left eid fid a0 a1 a2 w t)) (call-left w P h eid a0 a1 a2 fid (at_most eid fid a0 a1 a2 w t) b t k))
    (λ n. same (ap (λ (v : World). v.memory) (refusal eid fid a0 a1 a2 w n).1)) (either (accepted (call_answer eid fid a0 a1 a2 w)))
memory-left (Stoppable n eid fid a) w b P k h =
    ⊎_elim
    (λ t. let q = passed eid fid a w t in
    subst (λ (v : World). Left w P v.memory) (sym (stop-passed n eid fid a w q)) (stopped-left w P h n eid fid a false k q))
    (λ r. same (ap (λ (v : World). v.memory) (stop-refused n eid fid a w r))) (either (accepted (sync_answer eid fid a w)))
memory-left (Lines lines) w b P k h = lines_left w P h lines k
memory-left (TrapBack t) w b P k h = trap-left w P h t k

-- so the page that is left has it
pub page-left : (x : Event) (w : World) → blanks x w ≡ false → (P : List ℕ → Type 0) → Keeps w.hart.xlen (words_allowed x w) (marks_asked x w) (swap_allowed x w) P → P (page_in w w)
    → P (page_in w (left_by x w))
page-left x w b P k h = go (memory-left x w b P k h)
  where
    go : Left w P (left_by x w).memory → P (page_in w (left_by x w))
    go (same e) = subst (λ (m : List ℕ). P (part_at (page_size (bytes w.hart.xlen)) (offset w) m)) (sym e) h
    go (other q t r (g, y) e) =
        subst (λ (m : List ℕ). P (part_at (page_size (bytes w.hart.xlen)) (offset w) m)) (sym e)
        (subst P (sym (part-with (page_size (bytes w.hart.xlen)) (offset w) w.memory r q g)) y)
