-- What an accepted SRET leaves: hstatus, V, the mode, pc, SIE, SPIE, SPP, the general registers and the swap word.
use mathlib.Core.Path.{◌≡◌, refl, ap, ap₂, ◌∙◌, subst}
use mathlib.Core.Bool.{Bool, true, false, cond}
use mathlib.Core.List.{List, [], ◌∷◌, ◌++◌}
use mathlib.Core.Logic.{inl}
use Prim.Native.Nat.{ℕ, zero, suc, ◌+◌, ◌^◌, ◌≤◌, ◌<◌}
use native.Mathlib.Omega.{arith}
use lib.Bits.{bit_xor}
use lib.Dec.{eqb}
use lib.ListN.{length, length-set}
use lib.Seq.{get_or-set_same}
use Rattle.layout.specs.Width.{bytes, bits}
use Rattle.layout.specs.declared.xlen.Xlen.{Xlen}
use Rattle.layout.specs.declared.xlen.Xlen.TheVariants.{X32, X64}
use Rattle.layout.specs.Bits.{bit_of, clear_bit}
use Rattle.layout.specs.Geometry.{context_at, csr_at, page_size, swap_at}
use Rattle.layout.specs.Words.{word_at}
use Rattle.layout.proofs.WordLaws.{word-put-other, word-put-same}
use Rattle.csr.specs.Csrs.{Hstatus, Hip, Vsip}
use Rattle.hart.specs.declared.record.Hart.{Hart}
use Rattle.hart.specs.Dropped.{report_with, report_of}
use Rattle.hart.specs.Legal.{legal_hstatus}
use Rattle.hart.specs.Record.{with_csrs, with_general, returned}
use Rattle.hart.specs.Registers.{read}
use Rattle.hart.specs.Stored.{stored_count, held}
use Rattle.hart.specs.WellMade.{well_made}
use Rattle.hart.proofs.Fits.{well_made-words}
use Rattle.hart.proofs.Places.{changes}
use Rattle.hart.proofs.Rules.{rule}
use Rattle.page.specs.Registers.{IsPage, csr_word, index, put_csr}
use Rattle.world.specs.World.{World, offset}
use Rattle.world.specs.State.{State, state_from, state_of, with_state}
use Rattle.world.proofs.MemoryLaws.{Room}
use Rattle.world.proofs.StateLaws.{page-length}
use Rattle.turns.specs.Steps.{Step, Write, Clear, Store, Remove, Done, after, run, steps}
use Rattle.turns.specs.Turn.{write_from_word, clear_its_bit, store_reading}
use Rattle.turns.proofs.Kept.{state-same, run-kept}
use Rattle.turns.proofs.Turns.{all-steps}
use Rattle.checks.specs.Checks.{call_answer}
use Rattle.checks.specs.Codes.{accepted}
use Rattle.checks.specs.Fids.{fid_sret}
use Rattle.checks.proofs.Judged.{tables}
use Rattle.sret.specs.Context.{context_from, general}
use Rattle.sret.specs.Sret.{csrs_offered, entries_offered, offered_done, context_loaded, swaps, swapped, autoswapped, swap_reports, resumed, sret}
use Rattle.sret.proofs.Bytes.{clean-keep, offered-page, sret-page}
use Rattle.nacl.specs.Calls.{call_left, done}
use Rattle.nacl.proofs.CallLaws.{left, sret-passed}
use Rattle.claims.specs.Events.{OfTypes, page_in, swap_word, hstatus_swapped, served_csrs}
use Rattle.claims.specs.Claims.{SretLeft, SretIsAsNamed}
use Rattle.claims.proofs.Fields.{turns-rest}
use Rattle.claims.proofs.Left.{front-left, room-there, same-swap}
use Rattle.claims.proofs.Places.{swap_ends}
use Rattle.claims.proofs.Served.{hart-served}
use Rattle.claims.proofs.Turned.{call-left, clean-rest, put_in}
use Rattle.claims.proofs.WellMade.{context-ends}

-- what a state's hstatus holds
abbrev hstatus_in : State → ℕ
hstatus_in s = held Hstatus s.hart.csrs

-- ---- hstatus of a well-made record

-- a step keeps how many registers there are, and so do any
after-length : (xlen : Xlen) (x : Step) (s : State) → length (after xlen x s).hart.csrs ≡ length s.hart.csrs
unfolding after write_from_word clear_its_bit store_reading
after-length xlen (Write c) s =
    let r = rule s.hart.xlen c (csr_word xlen s.page c) in
    ap length (r.writes s.hart.csrs) ∙ length-set s.hart.csrs (changes c) (r.value s.hart.csrs)
after-length xlen (Clear c) s = refl
after-length xlen (Store c) s = refl
after-length xlen (Remove i) s = refl
after-length xlen (Done e) s = refl

pub run_length : (xlen : Xlen) (xs : List Step) (s : State) → length (run xlen xs s).hart.csrs ≡ length s.hart.csrs
unfolding run
run_length xlen [] s = refl
run_length xlen (x ∷ xs) s = run_length xlen xs (after xlen x s) ∙ after-length xlen x s

-- a state of this width whose hstatus has a place and fits a word
pub record Placed (xlen : Xlen) (s : State) : Type 0 where
  pub width : s.hart.xlen ≡ xlen
  pub place : 0 < length s.hart.csrs
  pub fits : hstatus_in s < 256 ^ bytes xlen

-- a number of the width's bits has as many bytes as a word
pub in_bytes : (x : Xlen) {v : ℕ} → v < 2 ^ bits x → v < 256 ^ bytes x
in_bytes X32 b = b
in_bytes X64 b = b

-- the synchronization keeps the width, the number of registers, and the record well made
offered-placed : (xlen : Xlen) (s : State) → s.hart.xlen ≡ xlen → length s.hart.csrs ≡ stored_count → IsPage xlen s.page → well_made s.hart ≡ true
    → Placed xlen (offered_done xlen s)
unfolding offered_done
offered-placed xlen s e n g t =
    let ms = csrs_offered xlen s.hart.features ++ entries_offered xlen s.hart.features in
    subst (Placed xlen) (all-steps xlen ms s g) (placed (steps xlen ms s))
  where
    placed : (xs : List Step) → Placed xlen (run xlen xs s)
    placed xs =
        let k = (run-kept xlen xs s s (state-same xlen s g)).hart in
        let u = run xlen xs s in
        record {
          width = k.xlen ∙ e;
          place = omega (arith, run_length xlen xs s, n);
          fits = in_bytes xlen (subst (λ (x : Xlen). hstatus_in u < 2 ^ bits x) (k.xlen ∙ e) ((well_made-words u.hart (k.well t)).csrs 0 (omega arith)));
        }

-- ---- the swap, the return and the clean words

module _ (xlen : Xlen) (u : State) where
  -- after the swap
  abbrev exchanged : State
  exchanged = autoswapped xlen (context_loaded xlen u)

  -- the general registers and hstatus are all that it changes of the record
  swap-rest : exchanged.hart ≡ with_general (with_csrs u.hart exchanged.hart.csrs) (general xlen u.page)
  unfolding autoswapped swapped context_loaded
  swap-rest = go (swaps xlen u.hart.features u.page)
    where
      c : State
      c = context_loaded xlen u

      go : (b : Bool) → (cond b (swapped xlen c) c).hart ≡ with_general (with_csrs u.hart (cond b (swapped xlen c) c).hart.csrs) (general xlen u.page)
      go true = refl
      go false = refl

  -- what a swap writes to hstatus
  abbrev new : ℕ
  new = legal_hstatus xlen (hstatus_in u) (word_at (bytes xlen) u.page (swap_at (bytes xlen)))

  -- hstatus after the swap, or as it was if there is none
  swap-hstatus : Placed xlen u
      → (0 < length exchanged.hart.csrs) × (hstatus_in exchanged ≡ cond (swaps xlen u.hart.features u.page) new (hstatus_in u))
  unfolding autoswapped swapped context_loaded
  swap-hstatus p = go (swaps xlen u.hart.features u.page)
    where
      c : State
      c = context_loaded xlen u

      go : (b : Bool) → (0 < length (cond b (swapped xlen c) c).hart.csrs) × (hstatus_in (cond b (swapped xlen c) c) ≡ cond b new (hstatus_in u))
      go true =
          let v = word_at (bytes xlen) u.page (swap_at (bytes xlen)) in
          (simp length-set p.place, get_or-set_same u.hart.csrs 0 _ 0 p.place ∙ ap (λ (x : Xlen). legal_hstatus x (hstatus_in u) v) p.width)
      go false = (p.place, refl)

  -- what the swap says is against hstatus right after it
  swap-said : swap_reports xlen (context_loaded xlen u)
      ≡ cond (swaps xlen u.hart.features u.page) (report_with 0x600 (bit_xor (word_at (bytes xlen) u.page (swap_at (bytes xlen))) (hstatus_in exchanged))) []
  unfolding swap_reports report_of autoswapped swapped context_loaded
  swap-said = go (swaps xlen u.hart.features u.page)
    where
      c : State
      c = context_loaded xlen u

      v : ℕ
      v = word_at (bytes xlen) u.page (swap_at (bytes xlen))

      go : (b : Bool) → cond b (report_with 0x600 (bit_xor v (read Hstatus (swapped xlen c).hart))) [] ≡ cond b (report_with 0x600 (bit_xor v (hstatus_in (cond b (swapped xlen c) c)))) []
      go true = refl
      go false = refl

  -- the swap word has the old hstatus, and the clean words leave it
  swap-word : IsPage xlen u.page → hstatus_in u < 256 ^ bytes xlen → swaps xlen u.hart.features u.page ≡ true
      → word_at (bytes xlen) (resumed xlen exchanged).page (swap_at (bytes xlen)) ≡ hstatus_in u
  unfolding resumed autoswapped swapped context_loaded store_reading put_csr
  swap-word g fits y =
      clean-keep xlen (λ p. word_at (bytes xlen) p (swap_at (bytes xlen)) ≡ hstatus_in u)
      (λ c t k. word-put-other (bytes xlen) (bytes xlen) t.page (csr_at (bytes xlen) (index c)) (read c t.hart) (swap_at (bytes xlen)) (inl (omega (arith, swap_ends xlen))) ∙ k)
      (Hstatus ∷ Hip ∷ Vsip ∷ []) _ (rw y (word-put-same (bytes xlen) u.page (swap_at (bytes xlen)) (hstatus_in u) (omega (arith, swap_ends xlen)) fits))

  -- they leave the record too
  resumed-hart : (resumed xlen exchanged).hart ≡ returned exchanged.hart
  unfolding resumed
  resumed-hart = (clean-rest xlen (Hstatus ∷ Hip ∷ Vsip ∷ []) (state_from (returned exchanged.hart) exchanged.page exchanged.table)).0

-- the general registers go by the context's words
context-cong : (xlen : Xlen) (p q : List ℕ) → ((i : ℕ) → i < 32 → word_at (bytes xlen) p (context_at (bytes xlen) i) ≡ word_at (bytes xlen) q (context_at (bytes xlen) i))
    → (i n : ℕ) → i + n ≤ 32 → context_from xlen i n p ≡ context_from xlen i n q
unfolding context_from
context-cong xlen p q e i zero b = refl
context-cong xlen p q e i (suc n) b = ap₂ (λ (x : ℕ) (xs : List ℕ). x ∷ xs) (e i (omega arith)) (context-cong xlen p q e (i + 1) n (omega arith))

-- ---- the claim

module _ (w v : World) (is : v ≡ with_state w (sret w.hart.xlen (state_of w))) (r : Room (page_size (bytes w.hart.xlen)) (offset w) w.memory) (count : length w.hart.csrs ≡ stored_count) (well : well_made w.hart ≡ true)
    (served : (offered_done w.hart.xlen (state_of w)).hart.csrs ≡ served_csrs w v) where
  -- after the synchronization
  abbrev mid : State
  mid = offered_done w.hart.xlen (state_of w)

  start-page : (IsPage w.hart.xlen) (state_of w).page
  start-page = page-length w r

  hart-is : v.hart ≡ returned (exchanged w.hart.xlen mid).hart
  unfolding sret
  hart-is = ap (λ (x : World). x.hart) is ∙ resumed-hart w.hart.xlen mid

  page-is : page_in w v ≡ (resumed w.hart.xlen (exchanged w.hart.xlen mid)).page
  unfolding sret
  page-is = ap (page_in w) is ∙ ap (λ (x : State). x.page) (put_in w (sret w.hart.xlen (state_of w)) r (sret-page w.hart.xlen (state_of w) start-page))

  -- h with the stored and the general registers of before the return
  abbrev loaded : Hart → Hart
  loaded h = with_general (with_csrs h (exchanged w.hart.xlen mid).hart.csrs) (general w.hart.xlen mid.page)

  -- so the other fields are the start's, returned
  hart-loaded : v.hart ≡ returned (loaded w.hart)
  unfolding offered_done
  hart-loaded =
      hart-is
      ∙ ap returned
      (swap-rest w.hart.xlen mid ∙ ap loaded (turns-rest w.hart.xlen (csrs_offered w.hart.xlen w.hart.features ++ entries_offered w.hart.xlen w.hart.features) (state_of w) start-page))

  placed : Placed w.hart.xlen mid
  placed = offered-placed w.hart.xlen (state_of w) refl count start-page well

  -- the words in front of the entries are the start's
  front : (o : ℕ) → o + bytes w.hart.xlen ≤ 0x800 → word_at (bytes w.hart.xlen) mid.page o ≡ word_at (bytes w.hart.xlen) (page_in w w) o
  front = front-left w.hart.xlen (state_of w) start-page

  hstatus-is : hstatus_in (exchanged w.hart.xlen mid) ≡ hstatus_swapped w (held Hstatus (served_csrs w v))
  hstatus-is = (swap-hstatus w.hart.xlen mid placed).1 ∙ rw (same-swap w.hart.xlen (state_of w) start-page, front (swap_at (bytes w.hart.xlen)) (swap_ends w.hart.xlen), served)

  swap-says : swap_reports w.hart.xlen (context_loaded w.hart.xlen mid)
      ≡ cond (swaps w.hart.xlen w.hart.features (page_in w w)) (report_with 0x600 (bit_xor (swap_word w w) (hstatus_swapped w (held Hstatus (served_csrs w v))))) []
  swap-says =
      swap-said w.hart.xlen mid
      ∙ rw (same-swap w.hart.xlen (state_of w) start-page, front (swap_at (bytes w.hart.xlen)) (swap_ends w.hart.xlen), hstatus-is)

  left_so : SretLeft w v
  unfolding returned
  left_so =
      record {
        hstatus = ap (λ (h : Hart). held Hstatus h.csrs) hart-is
            ∙ get_or-set_same (exchanged w.hart.xlen mid).hart.csrs 0 (clear_bit (hstatus_in (exchanged w.hart.xlen mid)) 7) 0 (swap-hstatus w.hart.xlen mid placed).0
            ∙ ap (λ (n : ℕ). clear_bit n 7) hstatus-is;
        virt = ap (λ (h : Hart). h.virt) hart-is ∙ ap (λ (n : ℕ). eqb (bit_of n 7) 1) hstatus-is;
        mode = ap (λ (h : Hart). h.mode) hart-loaded;
        pc = ap (λ (h : Hart). h.pc) hart-loaded;
        sie = ap (λ (h : Hart). h.sie) hart-loaded;
        spie = ap (λ (h : Hart). h.spie) hart-loaded;
        spp = ap (λ (h : Hart). h.spp) hart-loaded;
        general = ap (λ (h : Hart). h.x) hart-loaded
            ∙ ap (λ (xs : List ℕ). 0 ∷ xs) (context-cong w.hart.xlen mid.page (page_in w w) (λ i b. front (context_at (bytes w.hart.xlen) i) (context-ends w.hart.xlen i b)) 1 31 (omega arith));
        swap = λ y. ap (λ (p : List ℕ). word_at (bytes w.hart.xlen) p (swap_at (bytes w.hart.xlen))) page-is
            ∙ swap-word w.hart.xlen mid (offered-page w.hart.xlen (state_of w) start-page) placed.fits (same-swap w.hart.xlen (state_of w) start-page ∙ y) ∙ ap (held Hstatus) served;
      }

-- what the swap of an accepted SRET says
pub sret-swap-says : (eid a0 a1 a2 : ℕ) (w : World) → OfTypes w → accepted (call_answer eid fid_sret a0 a1 a2 w) ≡ true
    → swap_reports w.hart.xlen (context_loaded w.hart.xlen (offered_done w.hart.xlen (state_of w)))
    ≡ cond (swaps w.hart.xlen w.hart.features (page_in w w))
    (report_with 0x600 (bit_xor (swap_word w w) (hstatus_swapped w (held Hstatus (served_csrs w (call_left eid fid_sret a0 a1 a2 w)))))) []
unfolding done offered_done
sret-swap-says eid a0 a1 a2 w o t =
    let (one, seven) = sret-passed eid a0 a1 a2 w t in
    swap-says w (call_left eid fid_sret a0 a1 a2 w) (left eid fid_sret a0 a1 a2 w t) (room-there w seven) o.csrs (tables w one).1
    (ap (λ (h : Hart). h.csrs) (hart-served w.hart.xlen (call-left eid fid_sret a0 a1 a2 w refl) t))

pub sret-left : SretIsAsNamed
unfolding done offered_done
sret-left eid a0 a1 a2 w o t =
    let (one, seven) = sret-passed eid a0 a1 a2 w t in
    left_so w (call_left eid fid_sret a0 a1 a2 w) (left eid fid_sret a0 a1 a2 w t) (room-there w seven) o.csrs (tables w one).1
    (ap (λ (h : Hart). h.csrs) (hart-served w.hart.xlen (call-left eid fid_sret a0 a1 a2 w refl) t))
