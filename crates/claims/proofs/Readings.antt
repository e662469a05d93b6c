-- Every word that an accepted whole call, a line change or a trap may store and that is clean afterwards is its register's reading.
use mathlib.Core.Path.{◌≡◌, refl, sym, ap, ◌∙◌, subst}
use mathlib.Core.Bool.{Bool, true, false, cond, not, ◌&&◌, true≢false, false≢true}
use mathlib.Core.List.Memᴰ
use mathlib.Core.List.{List, [], ◌∷◌, map, Memᴰ}
use mathlib.Core.Logic.{◌⊎◌, inl, inr, ⊎_elim}
use Prim.Native.Nat.{ℕ, ◌^◌, ◌<◌}
use Rattle.layout.specs.Width.{bytes, bits}
use Rattle.layout.specs.declared.xlen.Xlen.{Xlen}
use Rattle.layout.specs.Geometry.{page_size, swap_at}
use Rattle.layout.specs.Words.{word_at}
use Rattle.layout.proofs.WordLaws.{length-put}
use Rattle.csr.specs.Csrs.{Csr, Hstatus, Hgeip, Hip, Vsip, turn_order, followers}
use Rattle.hart.specs.declared.record.Hart.{Hart}
use Rattle.hart.specs.Features.{has_feature}
use Rattle.hart.specs.declared.trap.Trap.{Trap}
use Rattle.hart.specs.Record.{returned}
use Rattle.hart.specs.Registers.{read}
use Rattle.hart.proofs.Fits.{read_fits, well_made-words}
use Rattle.hart.proofs.Frame.{member, place-frame, write-frame}
use Rattle.hart.proofs.Shape.{Words}
use Rattle.page.specs.Registers.{IsPage, is_dirty, csr_word, put_csr}
use Rattle.page.specs.Entries.{every_entry}
use Rattle.page.proofs.RegisterLaws.{same, same-eq, page-put, dirty-put, word-put}
use Rattle.world.specs.World.{World, offset}
use Rattle.world.specs.State.{State, state_from, state_of, with_state}
use Rattle.world.proofs.MemoryLaws.{Room}
use Rattle.world.proofs.StateLaws.{page-length}
use Rattle.turns.specs.Marks.{Dirty, Pending}
use Rattle.turns.specs.Turn.{store_reading, turns}
use Rattle.turns.specs.Clean.{unclean, store_clean_words, trap_words}
use Rattle.turns.proofs.Closed.{stored}
use Rattle.turns.proofs.FenceTurns.{turns-keep, turns-hart}
use Rattle.turns.proofs.Holds.{laws}
use Rattle.turns.proofs.Invariant.{stored-own, stored-follower}
use Rattle.turns.proofs.Leaves.{word-put-own, words-read}
use Rattle.turns.proofs.Made.{turns-append}
use Rattle.turns.proofs.Numbers.{every-below}
use Rattle.turns.proofs.Puts.{mem-more, mem-rest, same_refl}
use Rattle.turns.proofs.Truth.{either}
use Rattle.turns.proofs.Turns.{turns-page}
use Rattle.checks.specs.declared.answer.Refusal.TheVariants.{Failed}
use Rattle.checks.specs.Fids.{fid_csr, fid_sret}
use Rattle.checks.specs.Codes.{accepted}
use Rattle.checks.specs.Checks.{check1, check7, call_answer}
use Rattle.checks.proofs.Accepted.{Passed, passed}
use Rattle.checks.proofs.Judged.{guard, tables}
use Rattle.stops.specs.Sync.{csrs_asked, synced}
use Rattle.stops.proofs.Restart.{asked-distinct}
use Rattle.sret.specs.Sret.{csrs_offered, entries_offered, offered_done, context_loaded, swaps, swapped, autoswapped, resumed, sret}
use Rattle.sret.proofs.Bytes.{clean-keep, clean-length, offered-page, sret-page}
use Rattle.trap.specs.Trap.{trap_stored}
use Rattle.nacl.specs.Calls.{done, call_left}
use Rattle.nacl.specs.Lines.{lines_stored, line_answer, line_done, line_left}
use Rattle.nacl.specs.Traps.{trap_taken, trap_answer, trap_left}
use Rattle.nacl.proofs.CallLaws.{left, at_most, answer-csr, sret-passed}
use Rattle.claims.specs.Events.{Event, Call, Stoppable, Lines, TrapBack, storable, left_by, with_followers, call_words, page_in, state_in}
use Rattle.claims.proofs.Edits.{clean-good}
use Rattle.claims.proofs.Fields.{other-fields-stay}
use Rattle.claims.proofs.Finished.{finished-is-whole, finished-accepted}
use Rattle.claims.proofs.Left.{room-there}
use Rattle.claims.proofs.Marks.{other-marks-stay}
use Rattle.claims.proofs.TrapState.{swapped-page, taken-page, trap-state}
use Rattle.claims.proofs.Turned.{order-once, by-fid, clean-rest, put_in}
use Rattle.claims.proofs.WellMade.{made-words, call-words, line_stays, trap-stays}
use Rattle.claims.proofs.Words.{word-done, word-swap, not_in, clean_step}
use Rattle.claims.specs.Claims.{CleanWordsAreReadings}

-- the two ways to say that a register is in a list
pub csr-in : {c : Csr} {cs : List Csr} → Memᴰ c cs → member c cs ≡ true
csr-in {c} (Memᴰ.head {xs = cs} e) = subst (λ (d : Csr). member c (d ∷ cs) ≡ true) e (rw (same_refl c))
csr-in {c} (Memᴰ.tail {x = d} {xs = cs} i) = mem-more c d cs (csr-in i)

in-csr : {c : Csr} (cs : List Csr) → member c cs ≡ true → Memᴰ c cs
in-csr [] m = absurd (false≢true m)
in-csr {c} (d ∷ cs) m =
    ⊎_elim (λ e. Memᴰ.head (same-eq c d e)) (λ n. Memᴰ.tail (in-csr cs (mem-rest c d cs n m))) (either (same c d))

-- one of a list's registers and their followers is one of the list, or a follower of one
with_cases : (cs : List Csr) {c : Csr} → Memᴰ c (with_followers cs)
    → Memᴰ c cs ⊎ ((d : Csr) × Memᴰ d cs × Memᴰ c (followers d))
unfolding with_followers
with_cases [] i = absurd (Memᴰ.not-nil i)
with_cases (d ∷ cs) (Memᴰ.head e) = inl (Memᴰ.head e)
with_cases (d ∷ cs) (Memᴰ.tail i) =
    ⊎_elim (λ j. inr (d, Memᴰ.head refl, j))
    (λ j. ⊎_elim (λ k. inl (Memᴰ.tail k)) (λ (e, k, m). inr (e, Memᴰ.tail k, m)) (with_cases cs j))
    (Memᴰ.append_cases (followers d) i)

-- c's word is its reading
abbrev IsReading : (xlen : Xlen) → Csr → State → Type 0
IsReading xlen c s = csr_word xlen s.page c ≡ read c s.hart

-- it is if it is clean, in a record of this width whose numbers fit
abbrev Claimed : (xlen : Xlen) → Csr → State → Type 0
Claimed xlen c s = Words s.hart → s.hart.xlen ≡ xlen → unclean s.hart.features s.page c ≡ false → IsReading xlen c s

-- ---- the clean words of SRET and of a line change

module _ (xlen : Xlen) (c : Csr) (h : Hart) (fits : Words h) (width : h.xlen ≡ xlen) where
  -- a page on which c's word is its reading in h
  abbrev Reads : List ℕ → Type 0
  Reads p = IsPage xlen p × (csr_word xlen p c ≡ read c h)

  -- so it is after its own reading is stored
  own-reads : (f : Csr) (p : List ℕ) → c ≡ f → IsPage xlen p → Reads (put_csr xlen f (read f h) p)
  own-reads f p e g = (
    page-put xlen f (read f h) p g,
    subst (λ (d : Csr). csr_word xlen (put_csr xlen d (read d h) p) c ≡ read c h) e (word-put-own xlen c (read c h) p g (subst (λ (y : Xlen). read c h < 2 ^ bits y) width (read_fits c h fits))),
  )

  -- it stays so after any other's
  store-reads : (f : Csr) (p : List ℕ) → Reads p → Reads (put_csr xlen f (read f h) p)
  store-reads f p (g, q) =
      ⊎_elim (λ e. own-reads f p (same-eq c f e) g) (λ n. (page-put xlen f (read f h) p g, word-put xlen f c (read f h) p g n ∙ q)) (either (same c f))

  module _ (t : List ℕ) where
    -- and after those of the clean ones of a list
    all_read : (fs : List Csr) (p : List ℕ) → Reads p → Reads (store_clean_words xlen fs (state_from h p t)).page
    unfolding store_clean_words store_reading
    all_read [] p q = q
    all_read (f ∷ fs) p q =
        clean_step xlen (λ s. Reads s.page) f fs (state_from h p t) (λ e. all_read fs p q) (λ e. all_read fs (put_csr xlen f (read f h) p) (store-reads f p q))

    -- if it is one of these itself, it becomes so
    clean-reads : (fs : List Csr) (p : List ℕ) → Memᴰ c fs → IsPage xlen p → unclean h.features p c ≡ false
        → Reads (store_clean_words xlen fs (state_from h p t)).page
    unfolding store_reading
    clean-reads fs p (Memᴰ.head {x = f} {xs = gs} e) g n =
        clean_step xlen (λ s. Reads s.page) f gs (state_from h p t)
        (λ y. absurd (true≢false (sym y ∙ ap (unclean h.features p) (sym e) ∙ n))) (λ y. all_read gs (put_csr xlen f (read f h) p) (own-reads f p e g))
    clean-reads fs p (Memᴰ.tail {x = f} {xs = gs} i) g n =
        clean_step xlen (λ s. Reads s.page) f gs (state_from h p t) (λ y. clean-reads gs p i g n)
        (λ y. clean-reads gs (put_csr xlen f (read f h) p) i (page-put xlen f (read f h) p g) (rw (dirty-put xlen f c (read f h) p g) n))

-- a word that is clean after the last store is its register's reading
clean-left : (xlen : Xlen) (fs : List Csr) (s : State) (c : Csr) → IsPage xlen s.page → Memᴰ c fs → Claimed xlen c (store_clean_words xlen fs s)
unfolding store_reading
clean-left xlen fs s c g i =
    let (h, t) = clean-rest xlen fs s in
    subst (λ (k : Hart). Claimed xlen c (state_from k (store_clean_words xlen fs s).page (store_clean_words xlen fs s).table)) (sym h)
    (λ k x n. (clean-reads xlen c s.hart k x s.table fs s.page i g (ap (λ (b : Bool). has_feature s.hart.features 0 && b) (sym same_bit) ∙ n)).1)
  where
    same_bit : is_dirty (store_clean_words xlen fs s).page c ≡ is_dirty s.page c
    same_bit =
        (clean-keep xlen (λ p. IsPage xlen p × (is_dirty p c ≡ is_dirty s.page c))
        (λ f t (k, q). (page-put xlen f (read f t.hart) t.page k, dirty-put xlen f c (read f t.hart) t.page k ∙ q)) fs s (g, refl)).1

-- ---- SRET

-- hstatus, hip and vsip
abbrev last : List Csr
last = Hstatus ∷ followers Hstatus

-- the swap stores no register's word
swap-word : (xlen : Xlen) (u : State) (c : Csr) → IsPage xlen u.page
    → IsPage xlen (autoswapped xlen (context_loaded xlen u)).page × (csr_word xlen (autoswapped xlen (context_loaded xlen u)).page c ≡ csr_word xlen u.page c)
unfolding autoswapped swapped context_loaded
swap-word xlen u c g = go (swaps xlen u.hart.features u.page)
  where
    go : (b : Bool) → IsPage xlen (cond b (swapped xlen (context_loaded xlen u)) (context_loaded xlen u)).page
        × (csr_word xlen (cond b (swapped xlen (context_loaded xlen u)) (context_loaded xlen u)).page c ≡ csr_word xlen u.page c)
    go true = (length-put (bytes xlen) u.page (swap_at (bytes xlen)) (read Hstatus u.hart) ∙ g, word-swap xlen (read Hstatus u.hart) c u.page)
    go false = (g, refl)

module _ (xlen : Xlen) (u : State) (c : Csr) (n : member c last ≡ false) where
  -- the swap and the return change no other reading
  other-reading : read c (resumed xlen (autoswapped xlen (context_loaded xlen u))).hart ≡ read c u.hart
  unfolding resumed autoswapped swapped context_loaded returned
  other-reading = ap (read c) (clean-rest xlen last _).0 ∙ place-frame Hstatus c _ _ _ (ap not n) ∙ go (swaps xlen u.hart.features u.page)
    where
      go : (b : Bool) → read c (cond b (swapped xlen (context_loaded xlen u)) (context_loaded xlen u)).hart ≡ read c u.hart
      go true = write-frame Hstatus c (word_at (bytes xlen) u.page (swap_at (bytes xlen))) (context_loaded xlen u).hart (ap not n)
      go false = refl

  -- and no other word is stored after them
  other_word : (IsPage xlen) u.page → csr_word xlen (resumed xlen (autoswapped xlen (context_loaded xlen u))).page c ≡ csr_word xlen u.page c
  unfolding resumed
  other_word g =
      let t = autoswapped xlen (context_loaded xlen u) in
      (clean-good xlen last [] false (λ p. csr_word xlen p c ≡ csr_word xlen u.page c)
      (record {
        put = λ d v p i k q. word-put xlen d c v p k (not_in c d last (λ j. true≢false (sym (csr-in j) ∙ n)) i) ∙ q;
        clear = λ d p i k q. absurd (Memᴰ.not-nil i);
        done = λ e p i b k q. absurd (Memᴰ.not-nil i);
        swap = λ v p y k q. absurd (false≢true y);
      })
      last (state_from (returned t.hart) t.page t.table) (λ f i. i) (swap-word xlen u c g)).1

-- with feature 0 every word is its reading after the turns
module _ (xlen : Xlen) (s : State) (c : Csr) (y : has_feature s.hart.features 0 ≡ true) (g : (IsPage xlen) s.page) (k : Words s.hart) (x : s.hart.xlen ≡ xlen) (o : Memᴰ c (turn_order xlen)) where
  entries-reading : (t : State) → IsReading xlen c t → IsReading xlen c (turns xlen (entries_offered xlen s.hart.features) t)
  entries-reading t q = go (has_feature s.hart.features 1)
    where
      go : (b : Bool) → IsReading xlen c (turns xlen (cond b (map Pending (every_entry xlen)) []) t)
      go true =
          turns-keep xlen (λ p. csr_word xlen p c ≡ csr_word xlen t.page c) (every_entry xlen) t (λ e p m r. word-done xlen e c p (every-below xlen e m) ∙ r) refl
          ∙ q ∙ ap (read c) (sym (turns-hart xlen (every_entry xlen) t))
      go false = unfold turns in q

  offered-reading : IsReading xlen c (offered_done xlen s)
  unfolding offered_done
  offered-reading =
      subst (IsReading xlen c) (sym (turns-append xlen (csrs_offered xlen s.hart.features) (entries_offered xlen s.hart.features) s))
      (entries-reading (turns xlen (csrs_offered xlen s.hart.features) s)
      (rw y (words-read xlen (turn_order xlen) s c g (order-once xlen) k x (stored-own xlen (laws xlen) (turn_order xlen) c s.page (csr-in o)))))

-- the three last ones are stored anew, and the others are as the turns left them
sret-claimed : (xlen : Xlen) (s : State) (c : Csr) → IsPage xlen s.page → Words s.hart → s.hart.xlen ≡ xlen → Memᴰ c (call_words xlen s.hart.features fid_sret 0) → Claimed xlen c (sret xlen s)
unfolding sret
sret-claimed xlen s c g k x i = ⊎_elim one-of-last another (either (member c last))
  where
    u : State
    u = offered_done xlen s

    gu : (IsPage xlen) u.page
    gu = offered-page xlen s g

    one-of-last : member c last ≡ true → Claimed xlen c (resumed xlen (autoswapped xlen (context_loaded xlen u)))
    one-of-last m = unfold resumed in clean-left xlen last _ c (swap-word xlen u c gu).0 (in-csr last m)

    another : member c last ≡ false → Claimed xlen c (resumed xlen (autoswapped xlen (context_loaded xlen u)))
    another n l y o =
        let (has-0, in-it) = there (has_feature s.hart.features 0) i in
        other_word xlen u c n gu ∙ offered-reading xlen s c has-0 g k x in-it ∙ sym (other-reading xlen u c n)
      where
        there : (b : Bool) → Memᴰ c (cond b (turn_order xlen) last) → (b ≡ true) × Memᴰ c (turn_order xlen)
        there true j = (refl, j)
        there false j = absurd (true≢false (sym (csr-in j) ∙ n))

-- ---- the events

-- what is claimed of the world v that is left
abbrev Read : World → Csr → World → Type 0
Read w c v = unclean w.hart.features (page_in w v) c ≡ false → csr_word w.hart.xlen (page_in w v) c ≡ read c v.hart

-- it holds where the clean words of the state that is left are readings
left-read : (x : Event) (w : World) (c : Csr) → Words (left_by x w).hart → (left_by x w).hart.features ≡ w.hart.features → (left_by x w).hart.xlen ≡ w.hart.xlen
    → Claimed w.hart.xlen c (state_in w (left_by x w))
    → Read w c (left_by x w)
left-read x w c fits f l y n =
    y fits l
    (ap (λ (k : ℕ). unclean k (page_in w (left_by x w)) c) f ∙ n)

module _ (w : World) (c : Csr) (there : check7 w ≡ true) where
  its-room : Room (page_size (bytes w.hart.xlen)) (offset w) w.memory
  its-room = room-there w there

  is-page : (IsPage w.hart.xlen) (page_in w w)
  is-page = page-length w its-room

  -- a line change
  lines-read : (lines : ℕ) → accepted (line_answer lines w) ≡ true → Memᴰ c (Hgeip ∷ Hip ∷ Vsip ∷ []) → Read w c (line_left lines w)
  lines-read lines t i =
      left-read (Lines lines) w c (made-words (line_left lines w) (line_stays lines w one)) (ap (λ (h : Hart). h.features) ((other-fields-stay w).lines lines t))
      (ap (λ (h : Hart). h.xlen) ((other-fields-stay w).lines lines t))
      (subst (Claimed w.hart.xlen c) (sym state) (clean-left w.hart.xlen words (state_of v) c is-page i))
    where
      words : List Csr
      words = Hgeip ∷ Hip ∷ Vsip ∷ []

      v : World
      v = lines_stored lines w

      one : check1 w ≡ true
      one = unfold line_answer in (guard (check1 w) Failed _ t).0

      stored_there : check7 v ≡ true
      stored_there = unfold check7 in there

      put : line_left lines w ≡ with_state v (store_clean_words w.hart.xlen words (state_of v))
      put = unfold line_left line_done in rw (t, stored_there)

      state : state_in w (line_left lines w) ≡ store_clean_words w.hart.xlen words (state_of v)
      state =
          ap (state_in w) put ∙ put_in v (store_clean_words w.hart.xlen words (state_of v)) its-room (clean-length w.hart.xlen words (state_of v) ∙ is-page)

  -- a trap
  trap-read : (t : Trap) → storable (TrapBack t) w ≡ true → accepted (trap_answer w) ≡ true → Memᴰ c trap_words → Read w c (trap_left t w)
  trap-read t p y i =
      left-read (TrapBack t) w c (made-words (trap_left t w) (trap-stays t w p one)) ((other-fields-stay w).trap t).features ((other-fields-stay w).trap t).xlen
      (subst (Claimed x c) (sym (trap-state t w y there)) (unfold trap_stored in clean-left x trap_words (autoswapped x (state_of v)) c page i))
    where
      x : Xlen
      x = w.hart.xlen

      v : World
      v = trap_taken t w

      one : check1 w ≡ true
      one = unfold trap_answer in (guard (check1 w) Failed _ y).0

      page : IsPage x (autoswapped x (state_of v)).page
      page = swapped-page x (state_of v) (taken-page t w y there)

  module _ (eid a0 a1 a2 : ℕ) where
    -- FID 2
    csr-read : accepted (call_answer eid fid_csr a0 a1 a2 w) ≡ true → Memᴰ c (with_followers (csrs_asked w.hart.xlen a0)) → Read w c (call_left eid fid_csr a0 a1 a2 w)
    csr-read t i n =
        subst (IsReading w.hart.xlen c) (sym state)
        (words-read w.hart.xlen cs (state_of w) c is-page (asked-distinct w.hart.xlen a0) (well_made-words w.hart (tables w q.one).1) refl (⊎_elim own follower (with_cases cs i)))
      where
        cs : List Csr
        cs = csrs_asked w.hart.xlen a0

        q : Passed eid fid_csr a0 w
        q = passed eid fid_csr a0 w (rw (answer-csr eid a0 a1 a2 w) at t)

        state : state_in w (call_left eid fid_csr a0 a1 a2 w) ≡ turns w.hart.xlen (map Dirty cs) (state_of w)
        state =
            ap (state_in w) (left eid fid_csr a0 a1 a2 w t)
            ∙ (unfold done synced in put_in w (turns w.hart.xlen (map Dirty cs) (state_of w)) its-room (turns-page w.hart.xlen (map Dirty cs) (state_of w) is-page))

        own : Memᴰ c cs → member c (stored cs (page_in w w)) ≡ true
        own j = stored-own w.hart.xlen (laws w.hart.xlen) cs c (page_in w w) (csr-in j)

        follower : (d : Csr) × Memᴰ d cs × Memᴰ c (followers d) → member c (stored cs (page_in w w)) ≡ true
        follower (d, j, k) =
            ⊎_elim (stored-own w.hart.xlen (laws w.hart.xlen) cs c (page_in w w)) (λ m. stored-follower w.hart.xlen (laws w.hart.xlen) cs d c (page_in w w) is-page (csr-in j) (csr-in k) (clean m))
            (either (member c cs))
          where
            not-asked : member c cs ≡ false → Memᴰ (Dirty c) (map Dirty cs) → ⊥
            not-asked m l =
                let (b, o, e) = Memᴰ.of_map Dirty cs l in
                let p : c ≡ b = cc in
                true≢false (sym (csr-in (Memᴰ.cast p o)) ∙ m)

            clean : member c cs ≡ false → is_dirty (page_in w w) c ≡ false
            clean m = sym ((other-marks-stay (Call eid fid_csr a0 a1 a2) w (Dirty c) refl tt).not-asked (not-asked m)) ∙ (rw q.four at n)

    -- SRET
    sret-read : accepted (call_answer eid fid_sret a0 a1 a2 w) ≡ true → Memᴰ c (call_words w.hart.xlen w.hart.features fid_sret a0)
        → Read w c (call_left eid fid_sret a0 a1 a2 w)
    sret-read t i =
        left-read (Call eid fid_sret a0 a1 a2) w c (call-words eid fid_sret a0 a1 a2 w one)
        ((other-fields-stay w).sret eid a0 a1 a2).features ((other-fields-stay w).sret eid a0 a1 a2).xlen
        (subst (Claimed w.hart.xlen c) (sym state) (sret-claimed w.hart.xlen (state_of w) c is-page (well_made-words w.hart (tables w one).1) refl i))
      where
        one : check1 w ≡ true
        one = (sret-passed eid a0 a1 a2 w t).0

        state : state_in w (call_left eid fid_sret a0 a1 a2 w) ≡ sret w.hart.xlen (state_of w)
        state =
            ap (state_in w) (left eid fid_sret a0 a1 a2 w t)
            ∙ (unfold done in put_in w (sret w.hart.xlen (state_of w)) its-room (sret-page w.hart.xlen (state_of w) is-page))

-- an accepted call
call-read : (eid fid a0 a1 a2 : ℕ) (w : World) (c : Csr) → accepted (call_answer eid fid a0 a1 a2 w) ≡ true → check7 w ≡ true
    → Memᴰ c (call_words w.hart.xlen w.hart.features fid a0) → Read w c (call_left eid fid a0 a1 a2 w)
call-read eid fid a0 a1 a2 w c t there =
    by-fid P fid (at_most eid fid a0 a1 a2 w t) (λ y i. absurd (Memᴰ.not-nil i)) (λ y i. absurd (Memᴰ.not-nil i))
    (csr-read w c there eid a0 a1 a2) (λ y i. absurd (Memᴰ.not-nil i)) (sret-read w c there eid a0 a1 a2) t
  where
    P : ℕ → Type 0
    P k = accepted (call_answer eid k a0 a1 a2 w) ≡ true → Memᴰ c (call_words w.hart.xlen w.hart.features k a0) → Read w c (call_left eid k a0 a1 a2 w)

pub clean-words-read : CleanWordsAreReadings
clean-words-read (Call eid fid a0 a1 a2) w c p t there i = call-read eid fid a0 a1 a2 w c t there i
clean-words-read (Stoppable n eid fid a) w c p f there i =
    subst (Read w c) (sym (finished-is-whole n eid fid a 0 0 w f)) (call-read eid fid a 0 0 w c (finished-accepted n eid fid a 0 0 w f) there i)
clean-words-read (Lines lines) w c p t there i = lines-read w c there lines t i
clean-words-read (TrapBack k) w c p t there i = trap-read w c there k p t i
