-- With feature 0, a register that is dirty after an event has the word it had.
use mathlib.Core.Path.{◌≡◌, refl, sym, ap, ◌∙◌, subst}
use mathlib.Core.Bool.{Bool, true, false, cond, true≢false}
use mathlib.Core.List.Memᴰ
use mathlib.Core.List.{List, [], ◌∷◌, map, Memᴰ}
use mathlib.Core.Logic.{inr, ⊎_elim}
use Prim.Native.Nat.{ℕ, ◌<◌}
use native.Mathlib.Nat.{le_refl}
use native.Mathlib.Omega.{arith}
use Rattle.csr.specs.Csrs.{has}
use Rattle.claims.proofs.Places.{swap_ends, config-ends}
use Rattle.layout.specs.Width.{bytes}
use Rattle.layout.specs.declared.xlen.Xlen.{Xlen}
use Rattle.layout.specs.Geometry.{csr_at, entry_at, entry_count, page_size, swap_at}
use Rattle.layout.specs.Words.{put_word}
use Rattle.layout.proofs.IndexLaws.{index-lt}
use Rattle.layout.proofs.WordLaws.{length-put, word-put-other}
use Rattle.csr.specs.Csrs.{Csr, Hstatus, Hgeip, Hip, Vsip, number}
use Rattle.hart.specs.Features.{has_feature}
use Rattle.hart.specs.declared.trap.Trap.{Trap}
use Rattle.hart.specs.Registers.{read}
use Rattle.hart.specs.Trap.{trapped}
use Rattle.fence.specs.Entry.{clear_pending}
use Rattle.page.specs.Registers.{IsPage, index, is_dirty, csr_word, put_csr}
use Rattle.page.specs.Entries.{entry_word, clear_entry}
use Rattle.page.proofs.RegisterLaws.{same, same-eq, page-put, dirty-put, word-put, word-clear}
use Rattle.world.specs.World.{World, offset}
use Rattle.world.specs.State.{State, state_of, with_state}
use Rattle.world.proofs.MemoryLaws.{part-with}
use Rattle.world.proofs.StateLaws.{page-length}
use Rattle.turns.specs.Marks.{Dirty}
use Rattle.turns.specs.Turn.{store_reading}
use Rattle.turns.specs.Steps.{total, stopped}
use Rattle.turns.specs.Clean.{unclean, store_clean_words, trap_words}
use Rattle.turns.proofs.Closed.{distinct}
use Rattle.turns.proofs.Holds.{laws}
use Rattle.turns.proofs.Invariant as Invariant
use Rattle.turns.proofs.Truth.{either}
use Rattle.turns.proofs.Turns.{enough}
use Rattle.checks.specs.Fids.{fid_probe, fid_set, fid_csr, fid_fence, fid_sret}
use Rattle.checks.specs.Codes.{accepted}
use Rattle.checks.specs.Checks.{check7, call_answer, sync_answer}
use Rattle.checks.proofs.Accepted as Checks
use Rattle.checks.proofs.Accepted.{Passed, passed, room_of}
use Rattle.stops.specs.Sync.{csrs_asked, asked, synced, synced_for, stoppable}
use Rattle.stops.proofs.Forms.{stop-passed, stop-refused}
use Rattle.stops.proofs.Restart.{asked-distinct}
use Rattle.sret.specs.Sret.{csrs_offered, entries_offered, swaps, swapped, autoswapped}
use Rattle.trap.specs.Trap.{trap_stored}
use Rattle.nacl.specs.Calls.{done, call_left}
use Rattle.nacl.specs.Lines.{lines_stored, line_answer, line_done, line_left}
use Rattle.nacl.specs.Traps.{trap_taken, trap_answer, trap_done, trap_left}
use Rattle.nacl.proofs.CallLaws.{refusal, left, at_most, answer-csr}
use Rattle.claims.specs.Events.{Event, Call, Stoppable, Lines, TrapBack, blanks, left_by, words_allowed, page_in}
use Rattle.claims.proofs.Edits.{in_order, order-had}
use Rattle.claims.proofs.Left.{room-there, page-left}
use Rattle.claims.proofs.Marks.{bit-swap}
use Rattle.claims.proofs.Served.{cleared-marks-served}
use Rattle.claims.proofs.Turned.{by-fid}
use Rattle.claims.specs.Claims.{DirtyWordsStay}

-- ---- words that no event of the kind may store

-- a Pending cleared and a swap word stored are in no register's word
pub word-done : (xlen : Xlen) (e : ℕ) (c : Csr) (p : List ℕ) → e < entry_count (bytes xlen) → csr_word xlen (clear_entry xlen e p) c ≡ csr_word xlen p c
unfolding csr_word clear_entry
word-done xlen e c p b = word-put-other (bytes xlen) (bytes xlen) p (entry_at (bytes xlen) e) (clear_pending xlen (entry_word xlen p e 0)) (csr_at (bytes xlen) (index c)) (inr (omega (arith, config-ends xlen e b)))

pub word-swap : (xlen : Xlen) (v : ℕ) (c : Csr) (p : List ℕ) → csr_word xlen (put_word (bytes xlen) p (swap_at (bytes xlen)) v) c ≡ csr_word xlen p c
unfolding csr_word
word-swap xlen v c p = word-put-other (bytes xlen) (bytes xlen) p (swap_at (bytes xlen)) v (csr_at (bytes xlen) (index c)) (inr (omega (arith, swap_ends xlen)))

-- and no dirty bit
swap-bit : (xlen : Xlen) (v : ℕ) (c : Csr) (p : List ℕ) → is_dirty (put_word (bytes xlen) p (swap_at (bytes xlen)) v) c ≡ is_dirty p c
unfolding is_dirty
swap-bit xlen v c p = bit-swap xlen v p (index c) (index-lt (number c))

-- a register that is not in a list is none of it
pub not_in : (c d : Csr) (cs : List Csr) → (Memᴰ c cs → ⊥) → Memᴰ d cs → same c d ≡ false
not_in c d cs n i = ⊎_elim (λ e. absurd (n (Memᴰ.cast (same-eq c d e) i))) (λ f. f) (either (same c d))

word-stays : (x : Event) (w : World) (c : Csr) → blanks x w ≡ false → (Memᴰ c (words_allowed x w) → ⊥) → csr_word w.hart.xlen (page_in w (left_by x w)) c ≡ csr_word w.hart.xlen (page_in w w) c
word-stays x w c b n =
    page-left x w b (λ q. csr_word w.hart.xlen q c ≡ csr_word w.hart.xlen (page_in w w) c)
    (record {
      put = λ d v p i g q. word-put w.hart.xlen d c v p g (not_in c d (words_allowed x w) n i) ∙ q;
      clear = λ d p i g q. word-clear w.hart.xlen d c p g ∙ q;
      done = λ e p i b g q. word-done w.hart.xlen e c p b ∙ q;
      swap = λ v p t g q. word-swap w.hart.xlen v c p ∙ q;
    })
    refl

-- ---- words that wait

-- the clean words, one register after the other
pub clean_step : (xlen : Xlen) (P : State → Type 0) (f : Csr) (fs : List Csr) (s : State)
    → (unclean s.hart.features s.page f ≡ true → P (store_clean_words xlen fs s))
    → (unclean s.hart.features s.page f ≡ false → P (store_clean_words xlen fs (store_reading xlen f s))) → P (store_clean_words xlen (f ∷ fs) s)
unfolding store_clean_words
clean_step xlen P f fs s x y = go (unclean s.hart.features s.page f) refl
  where
    go : (b : Bool) → unclean s.hart.features s.page f ≡ b → P (store_clean_words xlen fs (cond b s (store_reading xlen f s)))
    go true e = x e
    go false e = y e

module _ (xlen : Xlen) (c : Csr) (p₀ : List ℕ) where
  -- a page on which c, if it is dirty, has the word of p₀
  abbrev pub Waits : List ℕ → Type 0
  Waits p = IsPage xlen p × (is_dirty p c ≡ true → csr_word xlen p c ≡ csr_word xlen p₀ c)

  -- a store to a clean word
  store-waits : (f : Csr) (v : ℕ) (p : List ℕ) → is_dirty p f ≡ false → Waits p → Waits (put_csr xlen f v p)
  store-waits f v p n (g, q) = (
    page-put xlen f v p g,
    λ d. let t = sym (dirty-put xlen f c v p g) ∙ d in
        word-put xlen f c v p g
        (⊎_elim (λ e. absurd (true≢false (sym t ∙ ap (is_dirty p) (same-eq c f e) ∙ n))) (λ s. s) (either (same c f)))
        ∙ q t,
  )

  -- the clean words of a line change or a trap
  clean-waits : (fs : List Csr) (s : State) → has_feature s.hart.features 0 ≡ true → Waits s.page → Waits (store_clean_words xlen fs s).page
  unfolding store_clean_words store_reading
  clean-waits [] s a q = q
  clean-waits (f ∷ fs) s a q =
      clean_step xlen (λ t. Waits t.page) f fs s (λ e. clean-waits fs s a q)
      (λ n. clean-waits fs (store_reading xlen f s) a (store-waits f (read f s.hart) s.page (rw a at n) q))

  -- the swap
  swap-waits : (s : State) → Waits s.page → Waits (autoswapped xlen s).page
  unfolding autoswapped swapped
  swap-waits s (g, q) = go (swaps xlen s.hart.features s.page)
    where
      go : (b : Bool) → Waits (cond b (swapped xlen s) s).page
      go true = (
        length-put (bytes xlen) s.page (swap_at (bytes xlen)) (read Hstatus s.hart) ∙ g,
        λ d. word-swap xlen (read Hstatus s.hart) c s.page ∙ q (sym (swap-bit xlen (read Hstatus s.hart) c s.page) ∙ d),
      )
      go false = (g, q)

-- which keeps the features
swap-features : (xlen : Xlen) (s : State) → has_feature (autoswapped xlen s).hart.features 0 ≡ has_feature s.hart.features 0
unfolding autoswapped swapped
swap-features xlen s = go (swaps xlen s.hart.features s.page)
  where
    go : (b : Bool) → has_feature (cond b (swapped xlen s) s).hart.features 0 ≡ has_feature s.hart.features 0
    go true = refl
    go false = refl

-- turns of registers, stopped anywhere
stopped-waits : (xlen : Xlen) (n : ℕ) (cs : List Csr) (s : State) (c : Csr) → IsPage xlen s.page → distinct cs ≡ true
    → Waits xlen c s.page (stopped xlen n (map Dirty cs) s).page
stopped-waits xlen n cs s c g d =
    let (done, rest, i) = Invariant.stop-keeps xlen (laws xlen) cs s g d n s (Invariant.start xlen (laws xlen) cs s g d) in
    (i.page, i.words c)

-- ---- the events

module _ (w : World) (c : Csr) where
  -- what is claimed of the world that is left
  abbrev Left : World → Type 0
  Left v = is_dirty (page_in w v) c ≡ true → csr_word w.hart.xlen (page_in w v) c ≡ csr_word w.hart.xlen (page_in w w) c

  -- FID 2, stopped or whole
  stopped-left : (n eid a : ℕ) → Passed eid fid_csr a w → Left (synced_for n fid_csr a w)
  unfolding synced_for
  stopped-left n eid a q =
      let r = room_of eid fid_csr a w q in
      let (g, y) = stopped-waits w.hart.xlen n (csrs_asked w.hart.xlen a) (state_of w) c (page-length w r) (asked-distinct w.hart.xlen a) in
      rw (part-with (page_size (bytes w.hart.xlen)) (offset w) w.memory r (stopped w.hart.xlen n (asked w.hart.xlen fid_csr a) (state_of w)).page g) y

  synced-left : (eid a : ℕ) → Passed eid fid_csr a w → Left (synced fid_csr a w)
  unfolding synced_for synced
  synced-left eid a q =
      let k = total w.hart.xlen (asked w.hart.xlen fid_csr a) (state_of w) in
      subst (λ (t : State). Left (with_state w t))
      (enough w.hart.xlen k (asked w.hart.xlen fid_csr a) (state_of w) (page-length w (room_of eid fid_csr a w q)) (le_refl k)) (stopped-left k eid a q)

  -- a line change
  lines_left : (lines : ℕ) → has_feature w.hart.features 0 ≡ true → Left (line_left lines w)
  unfolding line_left line_done
  lines_left lines f = go (accepted (line_answer lines w)) (check7 (lines_stored lines w)) refl
    where
      words : List Csr
      words = Hgeip ∷ Hip ∷ Vsip ∷ []

      v : World
      v = lines_stored lines w

      go : (b k : Bool) → check7 v ≡ k → Left (cond b (cond k (with_state v (store_clean_words w.hart.xlen words (state_of v))) v) w)
      go true true t =
          let r = room-there v t in
          let (g, y) = clean-waits w.hart.xlen c (page_in w w) words (state_of v) f (page-length v r, λ d. refl) in
          rw (part-with (page_size (bytes w.hart.xlen)) (offset v) v.memory r (store_clean_words w.hart.xlen words (state_of v)).page g) y
      go true false t = λ d. refl
      go false k t = λ d. refl

  -- a trap
  trap-left : (t : Trap) → has_feature w.hart.features 0 ≡ true → Left (trap_left t w)
  unfolding trap_left trap_done trap_stored trapped
  trap-left t f = go (accepted (trap_answer w)) (check7 (trap_taken t w)) refl
    where
      v : World
      v = trap_taken t w

      x : Xlen
      x = w.hart.xlen

      go : (b k : Bool) → check7 v ≡ k → Left (cond b (cond k (with_state v (store_clean_words x trap_words (autoswapped x (state_of v)))) v) w)
      go true true y =
          let r = room-there v y in
          let u = autoswapped x (state_of v) in
          let (g, z) = clean-waits x c (page_in w w) trap_words u (swap-features x (state_of v) ∙ f) (swap-waits x c (page_in w w) (state_of v) (page-length v r, λ d. refl)) in
          rw (part-with (page_size (bytes x)) (offset v) v.memory r (store_clean_words x trap_words u).page g) z
      go true false y = λ d. refl
      go false k y = λ d. refl

  module _ (f : has_feature w.hart.features 0 ≡ true) (eid a0 a1 a2 : ℕ) where
    -- with feature 0, SRET asks for the mark of every register of the width, so none is dirty; the word of another may not be stored
    sret-left : accepted (call_answer eid fid_sret a0 a1 a2 w) ≡ true → Left (call_left eid fid_sret a0 a1 a2 w)
    sret-left y d = ⊎_elim had lacking (either (has w.hart.xlen c))
      where
        had : has w.hart.xlen c ≡ true → csr_word w.hart.xlen (page_in w (call_left eid fid_sret a0 a1 a2 w)) c ≡ csr_word w.hart.xlen (page_in w w) c
        had h =
            absurd (true≢false (sym d ∙ (cleared-marks-served eid fid_sret a0 a1 a2 w refl).cleared y (Dirty c)
            (Memᴰ.append_left {s = csrs_offered w.hart.xlen w.hart.features} (entries_offered w.hart.xlen w.hart.features) (rw f (Memᴰ.map Dirty (in_order w.hart.xlen c h))))))

        lacking : has w.hart.xlen c ≡ false → csr_word w.hart.xlen (page_in w (call_left eid fid_sret a0 a1 a2 w)) c ≡ csr_word w.hart.xlen (page_in w w) c
        lacking n = word-stays (Call eid fid_sret a0 a1 a2) w c refl (rw f (λ i. true≢false (sym (order-had w.hart.xlen i) ∙ n)))

    call-left : (fid : ℕ) → blanks (Call eid fid a0 a1 a2) w ≡ false → accepted (call_answer eid fid a0 a1 a2 w) ≡ true → Left (call_left eid fid a0 a1 a2 w)
    call-left fid b y =
        by-fid (λ (k : ℕ). blanks (Call eid k a0 a1 a2) w ≡ false → accepted (call_answer eid k a0 a1 a2 w) ≡ true → Left (call_left eid k a0 a1 a2 w)) fid (at_most eid fid a0 a1 a2 w y)
        (λ b z d. word-stays (Call eid fid_probe a0 a1 a2) w c b Memᴰ.not-nil)
        (λ b z d. word-stays (Call eid fid_set a0 a1 a2) w c b Memᴰ.not-nil)
        (λ b z. subst Left (sym (left eid fid_csr a0 a1 a2 w z))
        (unfold done in synced-left eid a0 (passed eid fid_csr a0 w (rw (answer-csr eid a0 a1 a2 w) at z))))
        (λ b z d. word-stays (Call eid fid_fence a0 a1 a2) w c b Memᴰ.not-nil)
        (λ b. sret-left) b y

pub dirty-words-stay : DirtyWordsStay
dirty-words-stay (Call eid fid a0 a1 a2) w c b f =
    ⊎_elim (call-left w c f eid a0 a1 a2 fid b) (λ n. rw (refusal eid fid a0 a1 a2 w n).1 (λ d. refl)) (either (accepted (call_answer eid fid a0 a1 a2 w)))
dirty-words-stay (Stoppable n eid fid a) w c b f =
    ⊎_elim
    (λ y. let q = passed eid fid a w y in
    Checks.by-fid (λ (k : ℕ). Passed eid k a w → Left w c (stoppable n eid k a w)) eid fid q.three
    (λ z. subst (Left w c) (sym (stop-passed n eid fid_csr a w z)) (stopped-left w c n eid a z))
    (λ z d. word-stays (Stoppable n eid fid_fence a) w c b Memᴰ.not-nil) q)
    (λ r. rw (stop-refused n eid fid a w r) (λ d. refl)) (either (accepted (sync_answer eid fid a w)))
dirty-words-stay (Lines lines) w c b f = lines_left w c lines f
dirty-words-stay (TrapBack t) w c b f = trap-left w c t f
