-- What the first n steps of a call report and leave, and that no call has 2^64 of them.
use mathlib.Core.Path.{◌≡◌, refl, sym, ap, ◌∙◌}
use mathlib.Core.Bool.{Bool, true, false, cond, not}
use mathlib.Core.List.{List, [], ◌∷◌, ◌++◌, map}
use mathlib.Core.Logic.{⊎_elim}
use Prim.Native.Nat.{ℕ, ◌+◌, ◌-◌, ◌%◌, ◌≤◌, min}
use native.Mathlib.Omega.{arith}
use lib.Dec.{eqb, leb, ltb}
use lib.ListN.{length, take, drop, length-drop}
use borrow.Author.Tests.{ltb-true, ltb-false, le-ltb, leb-true, le-leb, lt-leb}
use lib.Seq.{take_all, length-take-le}
use Rattle.std.specs.Prelude.{Err, Option, Some, None, is_some, unwrap_or}
use Rattle.text.specs.Buffer.{Wrote, Put}
use Rattle.text.specs.declared.Buffer.{Buffer}
use Rattle.text.proofs.Writing.{wrote_nothing}
use Rattle.csr.specs.Csrs.{turn_order, at_turn, lookup}
use Rattle.layout.specs.declared.xlen.Xlen.{Xlen}
use Rattle.layout.specs.declared.xlen.Xlen.TheVariants.{X32, X64}
use Rattle.layout.specs.Width.{bytes}
use Rattle.layout.specs.Geometry.{page_size, entry_count}
use Rattle.hart.specs.declared.record.Hart.{Hart}
use Rattle.hart.specs.Bits.{all_ones}
use Rattle.hart.specs.Dropped.{report_words}
use Rattle.page.specs.Registers.{IsPage}
use Rattle.page.specs.Entries.{every_entry}
use Rattle.world.specs.World.{World, lent, offset}
use Rattle.world.specs.Memory.{part_at, with_part}
use Rattle.world.specs.State.{State, state_from, state_of, with_state}
use Rattle.world.proofs.StateLaws.{page-length}
use Rattle.turns.specs.Marks.{Mark, Dirty, Pending}
use Rattle.turns.specs.Turn.{turns}
use Rattle.turns.specs.Steps.{Step, steps, total, stopped, Made}
use Rattle.turns.specs.Reports.{reports}
use Rattle.turns.proofs.Truth.{either}
use Rattle.turns.proofs.Totals.{most_of, all-le, one-le}
use Rattle.turns.proofs.FenceTotals.{total-most, total-every}
use Rattle.turns.proofs.Turns as Turns
use Rattle.turns.proofs.Reported.{reports-quiet, quiet-entries}
use Rattle.sync.specs.Progress.{left_of, stopped_in}
use Rattle.checks.specs.declared.answer.Refusal.{Refusal}
use Rattle.checks.specs.declared.answer.Outcome.{Outcome}
use Rattle.checks.specs.Fids.{fid_csr}
use Rattle.checks.specs.Checks.{sync_answer}
use Rattle.checks.specs.Codes.{Answer, accepted, AnswerIs}
use Rattle.checks.proofs.Accepted.{Passed, passed, answered, room_of}
use Rattle.checks.proofs.Truth.{both}
use Rattle.checks.proofs.Judged.{tables}
use Rattle.stops.specs.Sync.{found_one, csrs_asked, entries_asked, asked, synced, sync_total, synced_for, whole, whole_steps, whole_reports, stoppable, steps_made, stop_reports, finished}
use Rattle.stops.specs.Inner.{Served}
use Rattle.stops.specs.Outcome.{StoppedIs, WholeIs}
use Rattle.stops.proofs.Forms.{whole-passed, stop-passed, whole-refused, stop-refused}

-- that n is not less than k, as a test
not-less : (n k : ℕ) → not (ltb n k) ≡ leb k n
not-less n k =
    ⊎_elim (λ t. ap not t ∙ sym (lt-leb k n (ltb-true n k t))) (λ f. ap not f ∙ sym (le-leb k n (ltb-false n k f))) (either (ltb n k))

-- how many more steps were allowed, and whether all were made
pub left-is : (o : Option ℕ) → unwrap_or o 0 ≡ left_of o
left-is (Some l) = refl
left-is None = refl

some-is : (o : Option ℕ) → is_some o ≡ not (stopped_in o)
some-is (Some l) = refl
some-is None = refl

-- ---- what the stoppable form reports and leaves

-- steps on the k bytes from o on, where k is the page's size
pub served-at : (xlen : Xlen) (ms ks : List Mark) (o n k : ℕ) (h : Hart) (m t : List ℕ) {h' : Hart} {p t' : List ℕ} {left : Option ℕ} → k ≡ page_size (bytes xlen) → ms ≡ ks
    → Made xlen (steps xlen ms (state_from h (take k (drop o m)) t)) (state_from h (take k (drop o m)) t) n (state_from h' p t') (left_of left) (stopped_in left)
    → Served xlen ks o n h m t h' (take o m ++ (p ++ drop k (drop o m))) t' left
unfolding part_at with_part
served-at xlen ms ks o n k h m t {p = p} e q s = record { page = p; memory = rw e; made = rw (e, q) at s }

-- the page's part of memory is a page
pub part-page : (xlen : Xlen) (o k : ℕ) (m : List ℕ) → k ≡ page_size (bytes xlen) → o + page_size (bytes xlen) ≤ length m → IsPage xlen (take k (drop o m))
part-page xlen o k m e h = length-take-le k (drop o m) (omega (arith, length-drop o m, e)) ∙ e

-- turns that are all made leave so many of the steps allowed
pub all_made : (xlen : Xlen) (ms : List Mark) (s : State) (n : ℕ) {s' : State} {r : ℕ} → IsPage xlen s.page → total xlen ms s ≤ n → s' ≡ turns xlen ms s → r ≡ total xlen ms s
    → Made xlen (steps xlen ms s) s n s' (n - r) false
unfolding total stopped
all_made xlen ms s n g le e c = record { state = e ∙ sym (Turns.enough xlen n ms s g le); left_is = ap (λ (k : ℕ). n - k) c; over-is = sym (le-ltb n (length (steps xlen ms s)) le) }

-- a refusal is not accepted
refused : {a : Answer} {r : Refusal} → AnswerIs (Err r) a → accepted a ≡ false
refused e = sym (ap accepted e.same)

-- it makes no step
pub stopped-refused : {n eid fid a : ℕ} {w : World} {r : Refusal} → AnswerIs (Err r) (sync_answer eid fid a w)
    → StoppedIs n eid fid a w (record { answer = Err r; hart = w.hart; steps = 0; finished = false; told = 0 }) w.memory w.table
unfolding steps_made finished
stopped-refused {n} {eid} {fid} {a} {w} e =
    record { answer = e; steps = rw (refused e); done = rw (refused e); world = sym (stop-refused n eid fid a w (refused e)) }

-- and says nothing
pub told-refused : (n eid fid a : ℕ) (w : World) {r : Refusal} {d : List ℕ} → AnswerIs (Err r) (sync_answer eid fid a w)
    → Wrote d 0 (report_words (stop_reports n eid fid a w)) d 0
unfolding stop_reports
told-refused n eid fid a w {d = d} e = rw (refused e) (wrote_nothing d 0)

module _ {n eid fid a : ℕ} {w : World} {x : Answer} (e : AnswerIs x (sync_answer eid fid a w)) where
  -- an accepted call makes the first n steps
  pub stopped-accepted : Passed eid fid a w → {ms : List Mark} {o : ℕ} {h : Hart} {m t : List ℕ} {told l : ℕ} {all : Bool} {left : Option ℕ} → ms ≡ asked w.hart.xlen fid a → o ≡ offset w
      → Served w.hart.xlen ms o n w.hart w.memory w.table h m t left → l ≡ unwrap_or left 0 → all ≡ is_some left
      → StoppedIs n eid fid a w (record { answer = x; hart = h; steps = n - l; finished = all; told = told }) m t
  unfolding steps_made finished sync_total total synced_for stopped
  stopped-accepted q {ms} {o} {h} {m} {t} {told} {l} {all} {left} em eo served ul is =
      let s : Served w.hart.xlen (asked w.hart.xlen fid a) (offset w) n w.hart w.memory w.table h m t left = rw (em, eo) at served in
      let k = length (steps w.hart.xlen (asked w.hart.xlen fid a) (state_of w)) in
      let most : l ≡ n - k = ul ∙ left-is left ∙ s.made.left_is in
      let steps-are : n - l ≡ min n k = omega arith in
      record {
        answer = e;
        steps = rw (answered eid fid a w q) steps-are;
        done = rw (answered eid fid a w q) (is ∙ some-is left ∙ ap not s.made.over-is ∙ not-less n k);
        world =
            ap (λ (y : List ℕ). lent h w.base y t) s.memory ∙ ap (with_state w) s.made.state ∙ sym (stop-passed n eid fid a w q);
      }

-- what the register writes among steps on those bytes say
pub told_at : (xlen : Xlen) (ms ks : List Mark) (o n k : ℕ) (h : Hart) (m t : List ℕ) {d e : Buffer ℕ} → k ≡ page_size (bytes xlen) → ms ≡ ks
    → Put d (report_words (reports xlen (take n (steps xlen ms (state_from h (take k (drop o m)) t))) (state_from h (take k (drop o m)) t))) e
    → Put d (report_words (reports xlen (take n (steps xlen ks (state_from h (part_at (page_size (bytes xlen)) o m) t))) (state_from h (part_at (page_size (bytes xlen)) o m) t))) e
unfolding part_at
told_at xlen ms ks o n k h m t e q w = rw (e, q) at w

module _ (n eid fid a : ℕ) (w : World) where
  -- an accepted call says what its steps do
  pub told-accepted : Passed eid fid a w → {ms : List Mark} {o r : ℕ} {d e : List ℕ} → ms ≡ asked w.hart.xlen fid a → o ≡ offset w
      → Wrote d 0 (report_words (reports w.hart.xlen (take n (steps w.hart.xlen ms (state_from w.hart (part_at (page_size (bytes w.hart.xlen)) o w.memory) w.table)))
      (state_from w.hart (part_at (page_size (bytes w.hart.xlen)) o w.memory) w.table))) e r
      → Wrote d 0 (report_words (stop_reports n eid fid a w)) e r
  unfolding stop_reports
  told-accepted q em eo v = rw (answered eid fid a w q) (rw (em, eo) at v)

  -- FID 3 writes no register
  pub told-fences : Passed eid fid a w → eqb fid fid_csr ≡ false → {d : List ℕ} → Wrote d 0 (report_words (stop_reports n eid fid a w)) d 0
  unfolding stop_reports
  told-fences q three {d} =
      rw (answered eid fid a w q, three)
      (rw (reports-quiet w.hart.xlen n (steps w.hart.xlen (map Pending (entries_asked w.hart.xlen a)) (state_of w)) (state_of w)
      (quiet-entries w.hart.xlen (entries_asked w.hart.xlen a) (state_of w))) (wrote_nothing d 0))

-- ---- enough steps

-- one register's steps are no more than all registers'
five-most : (xlen : Xlen) → 5 ≤ most_of xlen
five-most X32 = omega arith
five-most X64 = omega arith

most-88 : (xlen : Xlen) → most_of xlen ≤ 88
most-88 X32 = omega arith
most-88 X64 = omega arith

-- FID 2 has at most 82 steps, at XLEN 32 88
pub csrs-total : (xlen : Xlen) (a : ℕ) (s : State) → total xlen (map Dirty (csrs_asked xlen a)) s ≤ most_of xlen
unfolding total steps
csrs-total xlen a s = go (eqb a (all_ones xlen)) (lookup xlen a)
  where
    go : (b : Bool) (f : Option ℕ) → total xlen (map Dirty (cond b (turn_order xlen) (found_one f))) s ≤ most_of xlen
    go true f = all-le xlen s
    go false (Some t) = omega (arith, one-le xlen (at_turn t) s, five-most xlen)
    go false None = omega arith

-- a page has entries
some-entries : (xlen : Xlen) → (1 ≤ entry_count (bytes xlen)) × (entry_count (bytes xlen) ≤ 120)
some-entries X32 = (omega arith, omega arith)
some-entries X64 = (omega arith, omega arith)

-- FID 3 has at most 316, at XLEN 32 376, if the table is well made
pub entries-total : (xlen : Xlen) (a : ℕ) (s : State) → length s.table ≤ 1024 → total xlen (map Pending (entries_asked xlen a)) s ≤ entry_count (bytes xlen) + 256
entries-total xlen a s le = go (eqb a (all_ones xlen))
  where
    go : (b : Bool) → total xlen (map Pending (cond b (every_entry xlen) (a ∷ []))) s ≤ entry_count (bytes xlen) + 256
    go true = total-every xlen s le
    go false = omega (arith, total-most xlen (a ∷ []) s, some-entries xlen)

-- its table is short
pub short-table : (eid fid a : ℕ) (w : World) → Passed eid fid a w → length w.table ≤ 1024
short-table eid fid a w q = leb-true (length w.table) 1024 (both (eqb (length w.table % 4) 0) (leb (length w.table) 1024) (tables w q.one).0).1

-- the steps of an accepted call are at most 376
pub total-le : (eid fid a : ℕ) (w : World) → Passed eid fid a w → sync_total fid a w ≤ 376
unfolding sync_total
total-le eid fid a w q = go (eqb fid fid_csr)
  where
    go : (b : Bool) → total w.hart.xlen (cond b (map Dirty (csrs_asked w.hart.xlen a)) (map Pending (entries_asked w.hart.xlen a))) (state_of w) ≤ 376
    go true = omega (arith, csrs-total w.hart.xlen a (state_of w), most-88 w.hart.xlen)
    go false = omega (arith, entries-total w.hart.xlen a (state_of w) (short-table eid fid a w q), some-entries w.hart.xlen)

-- an accepted call that is allowed its steps is the whole
passed-enough : (n eid fid a : ℕ) (w : World) → Passed eid fid a w → sync_total fid a w ≤ n → synced_for n fid a w ≡ synced fid a w
unfolding sync_total synced_for synced
passed-enough n eid fid a w q le = ap (with_state w) (Turns.enough w.hart.xlen n (asked w.hart.xlen fid a) (state_of w) (page-length w (room_of eid fid a w q)) le)

-- the stoppable form that is allowed 376 steps or more is the whole form
pub enough : (n eid fid a : ℕ) (w : World) → 376 ≤ n → stoppable n eid fid a w ≡ whole eid fid a w
enough n eid fid a w h = ⊎_elim go (λ r. stop-refused n eid fid a w r ∙ sym (whole-refused eid fid a w r)) (either (accepted (sync_answer eid fid a w)))
  where
    go : accepted (sync_answer eid fid a w) ≡ true → stoppable n eid fid a w ≡ whole eid fid a w
    go t =
        let q = passed eid fid a w t in
        stop-passed n eid fid a w q ∙ passed-enough n eid fid a w q (omega (arith, total-le eid fid a w q)) ∙ sym (whole-passed eid fid a w q)

-- and what it reports is what the whole form does
pub enough-is : (n eid fid a : ℕ) (w : World) {r : Outcome} {m t : List ℕ} → 376 ≤ n → StoppedIs n eid fid a w r m t → WholeIs eid fid a w r m t
unfolding steps_made finished whole_steps
enough-is n eid fid a w h s =
    record { answer = s.answer; steps = s.steps ∙ steps-are; done = s.done ∙ done-is; world = s.world ∙ enough n eid fid a w h }
  where
    small : accepted (sync_answer eid fid a w) ≡ true → sync_total fid a w ≤ n
    small t = omega (arith, total-le eid fid a w (passed eid fid a w t))

    steps-are : cond (accepted (sync_answer eid fid a w)) (min n (sync_total fid a w)) 0 ≡ cond (accepted (sync_answer eid fid a w)) (sync_total fid a w) 0
    steps-are =
        ⊎_elim (λ t. rw t (let l = small t in omega arith)) (λ f. rw f) (either (accepted (sync_answer eid fid a w)))

    done-is : cond (accepted (sync_answer eid fid a w)) (leb (sync_total fid a w) n) false ≡ accepted (sync_answer eid fid a w)
    done-is =
        ⊎_elim (λ t. rw t (le-leb (sync_total fid a w) n (small t))) (λ f. rw f) (either (accepted (sync_answer eid fid a w)))

-- and says
pub enough-says : (n eid fid a : ℕ) (w : World) → 376 ≤ n → stop_reports n eid fid a w ≡ whole_reports eid fid a w
unfolding stop_reports whole_reports sync_total total
enough-says n eid fid a w h = ⊎_elim (λ t. rw t (all t)) (λ f. rw f) (either (accepted (sync_answer eid fid a w)))
  where
    all : accepted (sync_answer eid fid a w) ≡ true
        → reports w.hart.xlen (take n (steps w.hart.xlen (asked w.hart.xlen fid a) (state_of w))) (state_of w)
        ≡ reports w.hart.xlen (steps w.hart.xlen (asked w.hart.xlen fid a) (state_of w)) (state_of w)
    all t =
        ap (λ (xs : List Step). reports w.hart.xlen xs (state_of w))
        (take_all n (steps w.hart.xlen (asked w.hart.xlen fid a) (state_of w)) (omega (arith, total-le eid fid a w (passed eid fid a w t))))
