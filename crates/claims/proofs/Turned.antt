-- What a call leaves of record, page and table: what they were, or what the turns of the marks asked for leave. SRET goes on to change hstatus
-- and words of the page that hold no mark.
use mathlib.Core.Path.{◌≡◌, refl, sym, ap, ◌∙◌, subst}
use mathlib.Core.Bool.{Bool, true, false, cond, true≢false, false≢true}
use mathlib.Core.List.{List, [], ◌∷◌, ◌++◌, map, append-nil}
use mathlib.Core.Logic.{◌⊎◌, inl, inr, ⊎_elim}
use Prim.Native.Nat.{ℕ, zero, suc, ◌+◌, ◌*◌, ◌≤◌, ◌<◌}
use native.Mathlib.Omega.{arith}
use lib.Dec.{eqb}
use Rattle.claims.proofs.Places.{swap_ends, config-ends}
use Rattle.layout.specs.Width.{bytes}
use Rattle.layout.specs.declared.xlen.Xlen.{Xlen}
use Rattle.layout.specs.declared.xlen.Xlen.TheVariants.{X32, X64}
use Rattle.layout.specs.Geometry.{csr_at, entry_at, entry_count, page_size, swap_at}
use Rattle.layout.specs.Words.{put_word}
use Rattle.layout.proofs.WordLaws.{word-put-other}
use Rattle.layout.proofs.DirtyLaws.{dirty-put, word-clear}
use Rattle.layout.proofs.PageLaws.{csr-put-entry, entry-off}
use Rattle.layout.proofs.IndexLaws.{index-lt}
use Rattle.csr.specs.Csrs.{Csr, Hstatus, Hip, Vsip, turn_order, number}
use Rattle.hart.specs.Bits.{all_ones}
use Rattle.hart.specs.Features.{has_feature}
use Rattle.hart.specs.Record.{returned}
use Rattle.hart.specs.Registers.{read}
use Rattle.hart.specs.Stored.{hold}
use Rattle.fence.specs.Entry.{pending}
use Rattle.page.specs.Registers.{IsPage, index, is_dirty, clear_mark, put_csr}
use Rattle.page.specs.Entries.{every_entry, entry_word, is_pending, fence_at}
use Rattle.world.specs.World.{World, offset}
use Rattle.world.specs.State.{State, state_from, state_of, with_state}
use Rattle.world.proofs.MemoryLaws.{Room, part-with}
use Rattle.world.proofs.WorldLaws.{room}
use Rattle.world.proofs.StateLaws.{page-length}
use Rattle.turns.specs.Marks.{Mark, Dirty, Pending, is_marked}
use Rattle.turns.specs.Turn.{store_reading, turns}
use Rattle.turns.specs.Clean.{unclean, store_clean_words}
use Rattle.turns.proofs.Closed.{distinct}
use Rattle.turns.proofs.Leaves.{turns-keep}
use Rattle.turns.proofs.Made.{turns-append}
use Rattle.turns.proofs.MarkLaws.{keep, all-in-order}
use Rattle.turns.proofs.Numbers as Numbers
use Rattle.turns.proofs.Numbers.{Entries, every-below, entries-distinct}
use Rattle.turns.proofs.Truth.{either}
use Rattle.turns.proofs.Turns.{turns-page}
use Rattle.checks.specs.Fids.{fid_probe, fid_set, fid_csr, fid_fence, fid_sret}
use Rattle.checks.specs.Codes.{accepted}
use Rattle.checks.specs.Checks.{check7, call_answer}
use Rattle.checks.proofs.Accepted.{passed, room_of}
use Rattle.stops.specs.Sync.{csrs_asked, entries_asked, asked, synced}
use Rattle.stops.proofs.Restart.{asked-distinct, asked-in-order, asked-entries}
use Rattle.sret.specs.Sret.{csrs_offered, entries_offered, offered_done, context_loaded, swaps, swapped, autoswapped, resumed, sret}
use Rattle.sret.proofs.Bytes.{sret-page, resumed-keep}
use Rattle.nacl.specs.Calls.{page_set, done, call_left}
use Rattle.nacl.proofs.CallLaws.{refusal, left, at_most, answer-csr, answer-fence, sret-passed}
use Rattle.claims.proofs.Blanks.{is-drop}
use Rattle.claims.specs.Events.{Call, blanks, call_marks, state_in}
use Rattle.claims.specs.Claims.{IsMark, but_hstatus}

-- registers, and then entries
abbrev pub marks : List Csr → List ℕ → List Mark
marks cs es = map Dirty cs ++ map Pending es

-- their turns
abbrev pub turned : (xlen : Xlen) → List Csr → List ℕ → State → State
turned xlen cs es s = turns xlen (map Pending es) (turns xlen (map Dirty cs) s)

pub turns-are : (xlen : Xlen) (cs : List Csr) (es : List ℕ) (s : State) {ms : List Mark} → ms ≡ marks cs es → turns xlen ms s ≡ turned xlen cs es s
turns-are xlen cs es s q = ap (λ (ms : List Mark). turns xlen ms s) q ∙ turns-append xlen (map Dirty cs) (map Pending es) s

-- those that a call can ask for: registers in turn order, and entries, none twice
pub record Askable (xlen : Xlen) (cs : List Csr) (es : List ℕ) : Type 0 where
  pub csrs-once : distinct cs ≡ true
  pub in_order : keep cs (turn_order xlen) ≡ cs
  pub entries : Entries xlen es
  pub entries-once : Numbers.distinct es ≡ true

-- t is u in the stored registers, but for hstatus after SRET, in the table and in the marks
pub record Alike (xlen : Xlen) (fid : ℕ) (u t : State) : Type 0 where
  pub csrs : but_hstatus fid t.hart.csrs ≡ but_hstatus fid u.hart.csrs
  pub table : t.table ≡ u.table
  pub marked : (m : Mark) → IsMark xlen m → is_marked xlen t.page m ≡ is_marked xlen u.page m

-- t is left of s by a call that asks for the marks ms: s as it was, by a refusal or where none is asked for; or what their turns leave
pub data Left (xlen : Xlen) (good : Bool) (fid : ℕ) (ms : List Mark) (s t : State) : Type 0 where
  idle : (good ≡ true → ms ≡ []) → Alike xlen fid s t → Left xlen good fid ms s t
  made : (cs : List Csr) (es : List ℕ) → ms ≡ marks cs es → Askable xlen cs es → IsPage xlen s.page → Alike xlen fid (turned xlen cs es s) t → Left xlen good fid ms s t

alike_same : (xlen : Xlen) (fid : ℕ) {u t : State} → t ≡ u → Alike xlen fid u t
alike_same xlen fid {u} e = subst (Alike xlen fid u) (sym e) (record { csrs = refl; table = refl; marked = λ m k. refl })

-- register turns leave the entries as they are
module _ (xlen : Xlen) (cs : List Csr) (s : State) (g : (IsPage xlen) s.page) (once : distinct cs ≡ true) where
  word-stays : (e k : ℕ) → e < entry_count (bytes xlen) → k < 4 → entry_word xlen (turns xlen (map Dirty cs) s).page e k ≡ entry_word xlen s.page e k
  unfolding put_csr clear_mark entry_word
  word-stays e k b m =
      turns-keep xlen (λ p. entry_word xlen p e k ≡ entry_word xlen s.page e k) (λ c v p q. csr-put-entry (bytes xlen) p (index c) v e k b m ∙ q)
      (λ c p q. word-clear (bytes xlen) p (index c) (entry_at (bytes xlen) e + bytes xlen * k) (index-lt (number c)) (entry-off (bytes xlen) e k b m) ∙ q) cs s g once refl

  pub entry-stays : (e : ℕ) → e < entry_count (bytes xlen)
      → (is_pending xlen (turns xlen (map Dirty cs) s).page e ≡ is_pending xlen s.page e) × (fence_at xlen (turns xlen (map Dirty cs) s).page e ≡ fence_at xlen s.page e)
  unfolding is_pending fence_at
  entry-stays e b =
      let w = word-stays e in
      (rw (w 0 b (omega arith)), rw (w 0 b (omega arith), w 1 b (omega arith), w 2 b (omega arith), w 3 b (omega arith)))

-- ---- SRET after the turns

-- clean words change the page only
pub clean-rest : (xlen : Xlen) (cs : List Csr) (s : State) → ((store_clean_words xlen cs s).hart ≡ s.hart) × ((store_clean_words xlen cs s).table ≡ s.table)
unfolding store_clean_words
clean-rest xlen [] s = (refl, refl)
clean-rest xlen (c ∷ cs) s =
    let b = unclean s.hart.features s.page c in
    let (h, e) = clean-rest xlen cs (cond b s (store_reading xlen c s)) in
    (h ∙ (go b).0, e ∙ (go b).1)
  where
    go : (b : Bool) → ((cond b s (store_reading xlen c s)).hart ≡ s.hart) × ((cond b s (store_reading xlen c s)).table ≡ s.table)
    go true = (refl, refl)
    go false = unfold store_reading in (refl, refl)

-- hstatus held twice
hold-twice : (x y : ℕ) (csrs : List ℕ) → hold Hstatus y (hold Hstatus x csrs) ≡ hold Hstatus y csrs
hold-twice x y [] = refl
hold-twice x y (c ∷ csrs) = refl

-- a word stored outside of the entries and the bitmap holds no mark
put-marked : (xlen : Xlen) (p : List ℕ) (o v : ℕ) → (o + bytes xlen ≤ 0x800) ⊎ (0x1000 ≤ o) → (m : Mark) → IsMark xlen m → is_marked xlen (put_word (bytes xlen) p o v) m ≡ is_marked xlen p m
unfolding is_dirty is_pending entry_word
put-marked xlen p o v a (Dirty c) k = dirty-put (bytes xlen) p o v (index c) (index-lt (number c)) (⊎_elim (λ l. inl (omega arith)) (λ l. inr l) a)
put-marked xlen p o v a (Pending e) k =
    ap (pending xlen) (word-put-other (bytes xlen) (bytes xlen) p o v (entry_at (bytes xlen) e + bytes xlen * 0) (⊎_elim (λ l. inr (omega arith)) (λ l. inl (omega (arith, config-ends xlen e k))) a))

module _ (xlen : Xlen) (u : State) where
  sret-marked : (m : Mark) → IsMark xlen m → is_marked xlen (resumed xlen (autoswapped xlen (context_loaded xlen u))).page m ≡ is_marked xlen u.page m
  unfolding store_reading put_csr
  sret-marked m k =
      resumed-keep xlen (λ p. is_marked xlen p m ≡ is_marked xlen u.page m)
      (λ c t q. put-marked xlen t.page (csr_at (bytes xlen) (index c)) (read c t.hart) (inr (omega arith)) m k ∙ q)
      (λ v p q. put-marked xlen p (swap_at (bytes xlen)) v (inl (swap_ends xlen)) m k ∙ q) u refl

  swap_alike : ((autoswapped xlen (context_loaded xlen u)).table ≡ u.table)
      × (hold Hstatus 0 (autoswapped xlen (context_loaded xlen u)).hart.csrs ≡ hold Hstatus 0 u.hart.csrs)
  unfolding autoswapped context_loaded
  swap_alike = go (swaps xlen u.hart.features u.page)
    where
      go : (b : Bool) → ((cond b (swapped xlen (context_loaded xlen u)) (context_loaded xlen u)).table ≡ u.table)
          × (hold Hstatus 0 (cond b (swapped xlen (context_loaded xlen u)) (context_loaded xlen u)).hart.csrs ≡ hold Hstatus 0 u.hart.csrs)
      go true = unfold swapped in (refl, hold-twice _ 0 u.hart.csrs)
      go false = (refl, refl)

  sret-alike : Alike xlen fid_sret u (resumed xlen (autoswapped xlen (context_loaded xlen u)))
  unfolding resumed returned
  sret-alike =
      let t = autoswapped xlen (context_loaded xlen u) in
      let (h, e) = clean-rest xlen (Hstatus ∷ Hip ∷ Vsip ∷ []) (state_from (returned t.hart) t.page t.table) in
      record {
        csrs = ap (λ h. hold Hstatus 0 h.csrs) h ∙ hold-twice _ 0 t.hart.csrs ∙ swap_alike.1;
        table = e ∙ swap_alike.0;
        marked = sret-marked;
      }

-- ---- each call

-- what is so for each FID up to 4 is so for a FID that is at most 4
pub by-fid : (P : ℕ → Type 0) (fid : ℕ) → fid ≤ fid_sret → P fid_probe → P fid_set → P fid_csr → P fid_fence → P fid_sret → P fid
by-fid P zero b p₀ p₁ p₂ p₃ p₄ = p₀
by-fid P (suc zero) b p₀ p₁ p₂ p₃ p₄ = p₁
by-fid P (suc (suc zero)) b p₀ p₁ p₂ p₃ p₄ = p₂
by-fid P (suc (suc (suc zero))) b p₀ p₁ p₂ p₃ p₄ = p₃
by-fid P (suc (suc (suc (suc zero)))) b p₀ p₁ p₂ p₃ p₄ = p₄
by-fid P (suc (suc (suc (suc (suc n))))) b p₀ p₁ p₂ p₃ p₄ = absurd (omega arith)

-- a state put into a world
pub put_in : (w : World) (t : State) → Room (page_size (bytes w.hart.xlen)) (offset w) w.memory → IsPage w.hart.xlen t.page → state_in w (with_state w t) ≡ t
put_in w t r g = ap (λ (p : List ℕ). state_from t.hart p t.table) (part-with (page_size (bytes w.hart.xlen)) (offset w) w.memory r t.page g)

-- what the calls ask for can be asked for
no-entries : (xlen : Xlen) → Entries xlen []
no-entries xlen e m = absurd (false≢true m)

entries-once : (xlen : Xlen) (a : ℕ) → Numbers.distinct (entries_asked xlen a) ≡ true
entries-once xlen a = go (eqb a (all_ones xlen))
  where
    go : (b : Bool) → Numbers.distinct (cond b (every_entry xlen) (a ∷ [])) ≡ true
    go true = entries-distinct 0 (entry_count (bytes xlen))
    go false = refl

-- none of a turn order stands in it twice, and none is kept of no register
pub order-once : (xlen : Xlen) → distinct (turn_order xlen) ≡ true
order-once X32 = refl
order-once X64 = refl

none_kept : (xlen : Xlen) → keep [] (turn_order xlen) ≡ []
none_kept X32 = refl
none_kept X64 = refl

pub offered-askable : (xlen : Xlen) (a b : Bool) → Askable xlen (cond a (turn_order xlen) []) (cond b (every_entry xlen) [])
offered-askable xlen a b =
    let (once, order) = csrs a in
    let (below, once-too) = entries b in
    record { csrs-once = once; in_order = order; entries = below; entries-once = once-too }
  where
    csrs : (x : Bool) → (distinct (cond x (turn_order xlen) []) ≡ true) × (keep (cond x (turn_order xlen) []) (turn_order xlen) ≡ cond x (turn_order xlen) [])
    csrs true = (order-once xlen, all-in-order xlen)
    csrs false = (refl, none_kept xlen)

    entries : (x : Bool) → Entries xlen (cond x (every_entry xlen) []) × (Numbers.distinct (cond x (every_entry xlen) []) ≡ true)
    entries true = (every-below xlen, entries-distinct 0 (entry_count (bytes xlen)))
    entries false = (no-entries xlen, refl)

offered-marks : (xlen : Xlen) (a b : Bool) → cond a (map Dirty (turn_order xlen)) [] ++ cond b (map Pending (every_entry xlen)) [] ≡ marks (cond a (turn_order xlen) []) (cond b (every_entry xlen) [])
offered-marks xlen true true = refl
offered-marks xlen true false = refl
offered-marks xlen false true = refl
offered-marks xlen false false = refl

module _ (eid a0 a1 a2 : ℕ) (w : World) where
  -- an accepted call's
  Done : ℕ → Type 0
  Done fid =
      blanks (Call eid fid a0 a1 a2) w ≡ false → accepted (call_answer eid fid a0 a1 a2 w) ≡ true
      → Left w.hart.xlen (accepted (call_answer eid fid a0 a1 a2 w)) fid (call_marks w.hart.xlen w.hart.features fid a0) (state_of w) (state_in w (done fid a0 a1 w))

  done-idle : Done fid_probe × Done fid_set
  unfolding Done done page_set
  done-idle = (
    λ b t. idle (λ k. refl) (alike_same w.hart.xlen fid_probe refl),
    λ b t. let d = is-drop eid a0 a1 a2 w b t in idle (λ k. refl) (record { csrs = refl; table = refl; marked = λ m k. rw d }),
  )

  -- FID 2 and 3, with room for the page
  synced-left : (fid : ℕ) (cs : List Csr) (es : List ℕ) → asked w.hart.xlen fid a0 ≡ marks cs es → Askable w.hart.xlen cs es → Room (page_size (bytes w.hart.xlen)) (offset w) w.memory
      → Left w.hart.xlen (accepted (call_answer eid fid a0 a1 a2 w)) fid (asked w.hart.xlen fid a0) (state_of w) (state_in w (synced fid a0 w))
  unfolding synced
  synced-left fid cs es q k r =
      let g = page-length w r in
      made cs es q k g
      (alike_same w.hart.xlen fid (put_in w (turns w.hart.xlen (asked w.hart.xlen fid a0) (state_of w)) r (turns-page w.hart.xlen (asked w.hart.xlen fid a0) (state_of w) g) ∙ turns-are w.hart.xlen cs es (state_of w) q))

  done-csr : Done fid_csr
  unfolding Done done
  done-csr b t =
      synced-left fid_csr (csrs_asked w.hart.xlen a0) [] (sym (append-nil (map Dirty (csrs_asked w.hart.xlen a0))))
      (record { csrs-once = asked-distinct w.hart.xlen a0; in_order = asked-in-order w.hart.xlen a0; entries = no-entries w.hart.xlen; entries-once = refl })
      (room_of eid fid_csr a0 w (passed eid fid_csr a0 w (rw (answer-csr eid a0 a1 a2 w) at t)))

  done-fence : Done fid_fence
  unfolding Done done
  done-fence b t =
      let q = passed eid fid_fence a0 w (rw (answer-fence eid a0 a1 a2 w) at t) in
      synced-left fid_fence [] (entries_asked w.hart.xlen a0) refl
      (record { csrs-once = refl; in_order = none_kept w.hart.xlen; entries = asked-entries w.hart.xlen a0 q.five; entries-once = entries-once w.hart.xlen a0 }) (room_of eid fid_fence a0 w q)

  done-sret : Done fid_sret
  unfolding Done done check7
  done-sret n t = made cs es marks-are (offered-askable w.hart.xlen a b) g alike
    where
      a : Bool
      a = has_feature w.hart.features 0

      b : Bool
      b = has_feature w.hart.features 1

      cs : List Csr
      cs = cond a (turn_order w.hart.xlen) []

      es : List ℕ
      es = cond b (every_entry w.hart.xlen) []

      r : Room (page_size (bytes w.hart.xlen)) (offset w) w.memory
      r = room w.hart.xlen w.base w.memory w.hart.shmem (sret-passed eid a0 a1 a2 w t).1

      g : (IsPage w.hart.xlen) (state_of w).page
      g = page-length w r

      marks-are : csrs_offered w.hart.xlen w.hart.features ++ entries_offered w.hart.xlen w.hart.features ≡ marks cs es
      marks-are = offered-marks w.hart.xlen a b

      done-are : offered_done w.hart.xlen (state_of w) ≡ turned w.hart.xlen cs es (state_of w)
      done-are = unfold offered_done in turns-are w.hart.xlen cs es (state_of w) marks-are

      alike : Alike w.hart.xlen fid_sret (turned w.hart.xlen cs es (state_of w)) (state_in w (with_state w (sret w.hart.xlen (state_of w))))
      alike =
          subst (Alike w.hart.xlen fid_sret (turned w.hart.xlen cs es (state_of w))) (sym (put_in w (sret w.hart.xlen (state_of w)) r (sret-page w.hart.xlen (state_of w) g)))
          (unfold sret in subst (λ (u : State). Alike w.hart.xlen fid_sret u (resumed w.hart.xlen (autoswapped w.hart.xlen (context_loaded w.hart.xlen (offered_done w.hart.xlen (state_of w)))))) done-are
          (sret-alike w.hart.xlen (offered_done w.hart.xlen (state_of w))))

-- any call that blanks no page, accepted or refused
pub call-left : (eid fid a0 a1 a2 : ℕ) (w : World) → blanks (Call eid fid a0 a1 a2) w ≡ false
    → Left w.hart.xlen (accepted (call_answer eid fid a0 a1 a2 w)) fid (call_marks w.hart.xlen w.hart.features fid a0) (state_of w) (state_in w (call_left eid fid a0 a1 a2 w))
unfolding Done
call-left eid fid a0 a1 a2 w b = go (either (accepted (call_answer eid fid a0 a1 a2 w)))
  where
    L : World → Type 0
    L v = Left w.hart.xlen (accepted (call_answer eid fid a0 a1 a2 w)) fid (call_marks w.hart.xlen w.hart.features fid a0) (state_of w) (state_in w v)

    go : (accepted (call_answer eid fid a0 a1 a2 w) ≡ true) ⊎ (accepted (call_answer eid fid a0 a1 a2 w) ≡ false) → L (call_left eid fid a0 a1 a2 w)
    go (inl t) =
        subst L (sym (left eid fid a0 a1 a2 w t))
        (by-fid (Done eid a0 a1 a2 w) fid (at_most eid fid a0 a1 a2 w t) (done-idle eid a0 a1 a2 w).0 (done-idle eid a0 a1 a2 w).1
        (done-csr eid a0 a1 a2 w) (done-fence eid a0 a1 a2 w) (done-sret eid a0 a1 a2 w) b t)
    go (inr n) =
        idle (λ t. absurd (true≢false (sym t ∙ n))) (alike_same w.hart.xlen fid (ap (state_in w) (refusal eid fid a0 a1 a2 w n).1))
