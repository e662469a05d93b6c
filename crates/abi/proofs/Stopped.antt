-- Demand 3 at the boundary: stops leave the block of the record that they leave, and so nacl_call ends as if never stopped, but for the count.
use mathlib.Core.Path.{◌≡◌, refl, sym, ap, ◌∙◌, subst, subst₂}
use mathlib.Core.Bool.{Bool, true, false, cond, ◌||◌, true≢false}
use mathlib.Core.Logic.{⊎_elim}
use mathlib.Core.List.{List, [], ◌∷◌, ◌++◌}
use Prim.Native.Nat.{ℕ, zero, suc, ◌+◌, ◌^◌, ◌<◌}
use native.Mathlib.Omega.{arith}
use borrow.Author.Tests.{ltb-true}
use lib.Dec.{eqb, ltb}
use lib.ListN.{length, take, drop, set, length-append, length-take, length-drop}
use Rattle.layout.specs.declared.xlen.Xlen.{Xlen}
use Rattle.hart.specs.declared.record.Hart.{Hart}
use Rattle.hart.specs.Dropped.{most_dropped, one_more, more_dropped}
use Rattle.hart.proofs.Shape.{Sized}
use Rattle.world.specs.World.{World, lent}
use Rattle.world.specs.State.{State, state_of}
use Rattle.turns.specs.Turn.{write_from_word, clear_its_bit, store_reading}
use Rattle.turns.specs.Steps.{Step, Write, Clear, Store, Remove, Done, after, run, steps, stopped}
use Rattle.checks.specs.Codes.{Answer, code_of, accepted}
use Rattle.checks.specs.Checks.{cut, call_answer, sync_answer}
use Rattle.checks.specs.Fids.{eid_nacl, fid_csr, fid_fence}
use Rattle.checks.proofs.Accepted.{passed}
use Rattle.checks.proofs.Truth.{either, both}
use Rattle.stops.specs.Sync.{asked, synced_for, stoppable, stop_reports}
use Rattle.stops.specs.Stops.{AfterStop, after_stops}
use Rattle.stops.proofs.After.{no_stop}
use Rattle.stops.proofs.Restart.{restartable}
use Rattle.stops.proofs.Reports.{enough}
use Rattle.stops.proofs.Sizes.{stop-sized}
use Rattle.nacl.specs.Calls.{call_left, with_count, ButCount, call_counted, stop_counted, after_counted}
use Rattle.nacl.proofs.Blind.{call-answer-blind, call-left-blind, counted-stops, stops-count, stop-count}
use Rattle.nacl.proofs.CallLaws.{sync-call}
use Rattle.nacl.proofs.Stopped.{call-after-stops}
use Rattle.block.specs.Block.{first_count, general_at, general_count, block_length, high_word, well_formed, record_of}
use Rattle.abi.specs.Answers.{answer_words, answered}
use Rattle.abi.specs.Crossings.{Lent, lent_block, world_of, lent_of, width_of, cross_answer, cross_left, cross_steps, cross_finished, no_steps, unfinished, CallAt, CallCrosses}
use Rattle.abi.specs.Claims.{stop_left, lent_after_stops, LentAfterStop, but_count, but_reports, Given, SameButCount, RestartableAcross, StopsAcross}
use Rattle.block.proofs.BlockLaws.{record-of-block, block-formed, formed}
use Rattle.block.proofs.LaidOut.{but-count}
use Rattle.abi.proofs.Crossed.{lent_back}

-- ---- a world and what is lent of it

-- the record has as many registers as a block has room for, and a count of 32 bits
record Fits (w : World) : Type 0 where
  sized : Sized w.hart
  small : w.hart.dropped < 2 ^ 32

module _ (w : World) (z : Fits w) where
  block_back : well_formed (lent_of w).hart ≡ true
  block_back = block-formed w.hart z.sized z.small

  world-back : world_of (lent_of w) ≡ w
  world-back = ap (λ (h : Hart). lent h w.base w.memory w.table) (record-of-block w.hart z.sized z.small)

  width_back : width_of (lent_of w) ≡ w.hart.xlen
  width_back = ap (λ (v : World). v.hart.xlen) world-back

  answer_back : (f : World → Answer) → cross_answer f (lent_of w) ≡ f w
  unfolding cross_answer
  answer_back f = rw block_back (ap f world-back)

  left_back : (f : World → World) → cross_left f (lent_of w) ≡ lent_of (f w)
  unfolding cross_left
  left_back f = rw block_back (ap (λ (v : World). lent_of (f v)) world-back)

-- a well-formed block's record has that many
world-fits : (l : Lent) → well_formed l.hart ≡ true → Fits (world_of l)
unfolding record_of
world-fits l y =
    let b = l.hart in
    let n : length b ≡ block_length = (formed b y).size in
    record {
      sized =
          record {
            csrs = omega (arith, length-append (take first_count b) (high_word b ∷ []), length-take first_count b);
            x = omega (arith, length-take general_count (drop general_at b), length-drop general_at b);
          };
      small = omega arith;
    }

-- ---- the count

-- it stays one of 32 bits
more-small : (k n : ℕ) → n < 2 ^ 32 → more_dropped k n < 2 ^ 32
unfolding more_dropped
more-small zero n lt = lt
more-small (suc k) n lt = more-small k (one_more n) (go (ltb n most_dropped) (λ t. ltb-true n most_dropped t))
  where
    go : (b : Bool) → (b ≡ true → n < most_dropped) → cond b (n + 1) n < 2 ^ 32
    go true f = let less : n < most_dropped = f refl in omega arith
    go false f = lt

-- ---- stops

-- steps keep the width
run-width : (xlen : Xlen) (xs : List Step) (s : State) → (run xlen xs s).hart.xlen ≡ s.hart.xlen
unfolding run after write_from_word clear_its_bit store_reading
run-width xlen [] s = refl
run-width xlen (Write c ∷ xs) s = run-width xlen xs (after xlen (Write c) s)
run-width xlen (Clear c ∷ xs) s = run-width xlen xs (after xlen (Clear c) s)
run-width xlen (Store c ∷ xs) s = run-width xlen xs (after xlen (Store c) s)
run-width xlen (Remove i ∷ xs) s = run-width xlen xs (after xlen (Remove i) s)
run-width xlen (Done e ∷ xs) s = run-width xlen xs (after xlen (Done e) s)

-- and so does the stoppable form
stop-width : (n eid fid a : ℕ) (w : World) → (stoppable n eid fid a w).hart.xlen ≡ w.hart.xlen
unfolding stoppable synced_for stopped
stop-width n eid fid a w =
    let x = w.hart.xlen in
    ⊎_elim (λ t. rw t (run-width x (take n (steps x (asked x fid a) (state_of w))) (state_of w))) (λ r. rw r refl) (either (accepted (sync_answer eid fid a w)))

module _ (eid fid a : ℕ) where
  stop-fits : (n : ℕ) (w : World) → Fits w → Fits (stop_counted n eid fid a w)
  stop-fits n w z =
      let s = stop-sized n eid fid a w z.sized in
      record {
        sized = record { csrs = s.csrs; x = s.x };
        small = more-small (length (stop_reports n eid fid a w)) (stoppable n eid fid a w).hart.dropped (rw (stop-count n eid fid a w) z.small);
      }

  after-fits : (ns : List ℕ) (w : World) → Fits w → Fits (after_counted ns eid fid a w)
  unfolding after_counted
  after-fits [] w z = z
  after-fits (n ∷ ns) w z = after-fits ns (stop_counted n eid fid a w) (stop-fits n w z)

  after-width : (ns : List ℕ) (w : World) → (after_counted ns eid fid a w).hart.xlen ≡ w.hart.xlen
  unfolding after_counted
  after-width [] w = refl
  after-width (n ∷ ns) w = after-width ns (stop_counted n eid fid a w) ∙ stop-width n eid fid a w

  -- there are none where the block is not well formed
  garbage-stays : (ns : List ℕ) (l : Lent) → well_formed l.hart ≡ false → lent_after_stops ns eid fid a l ≡ l
  unfolding lent_after_stops stop_left cross_left
  garbage-stays [] l g = refl
  garbage-stays (n ∷ ns) l g = rw g (garbage-stays ns l g)

module _ (eid fid a : ℕ) (x : Xlen) where
  -- a stop of what is lent is that of the world, of the numbers cut
  stop-back : (n : ℕ) (w : World) → Fits w → w.hart.xlen ≡ x
      → stop_left n eid fid a (lent_of w) ≡ lent_of (stop_counted n (cut x eid) (cut x fid) (cut x a) w)
  unfolding stop_left
  stop-back n w z e =
      ap (λ (y : Xlen). cross_left (stop_counted n (cut y eid) (cut y fid) (cut y a)) (lent_of w)) (width_back w z ∙ e)
      ∙ left_back w z (stop_counted n (cut x eid) (cut x fid) (cut x a))

  -- and so are all
  stops-back : (ns : List ℕ) (w : World) → Fits w → w.hart.xlen ≡ x
      → lent_after_stops ns eid fid a (lent_of w) ≡ lent_of (after_counted ns (cut x eid) (cut x fid) (cut x a) w)
  unfolding after_counted lent_after_stops
  stops-back [] w z e = refl
  stops-back (n ∷ ns) w z e =
      ap (lent_after_stops ns eid fid a) (stop-back n w z e)
      ∙ stops-back ns (stop_counted n (cut x eid) (cut x fid) (cut x a) w) (stop-fits (cut x eid) (cut x fid) (cut x a) n w z)
      (stop-width n (cut x eid) (cut x fid) (cut x a) w ∙ e)

-- a world is as after a stop of itself
after_none : (eid fid a : ℕ) (w : World) → AfterStop fid a w w
after_none eid fid a w = subst (AfterStop fid a w) (sym (no_stop eid fid a w)) ((restartable [] eid fid a w).after-each [] [] refl)

-- refused runs leave what they found
refused-counted : (ns : List ℕ) (eid fid a : ℕ) (w : World) → accepted (sync_answer eid fid a w) ≡ false → after_counted ns eid fid a w ≡ w
unfolding after_counted stoppable stop_reports more_dropped
refused-counted [] eid fid a w r = refl
refused-counted (n ∷ ns) eid fid a w r =
    let same : stop_counted n eid fid a w ≡ w = rw r in
    ap (after_counted ns eid fid a) same ∙ refused-counted ns eid fid a w r

-- ---- nacl_call

-- FID 2 and 3 keep how many registers the record has
whole-sized : (eid fid a0 a1 a2 : ℕ) (w : World) → (eqb fid fid_csr || eqb fid fid_fence) ≡ true → Sized w.hart → Sized (call_left eid fid a0 a1 a2 w).hart
whole-sized eid fid a0 a1 a2 w t z =
    subst (λ (v : World). Sized v.hart) (enough 376 eid fid a0 w (omega arith) ∙ sym (sync-call eid fid a0 a1 a2 w t).1) (stop-sized 376 eid fid a0 w z)

-- what is lent of a world but for the count
but-back : (w : World) → Sized w.hart → but_count (lent_of w) ≡ lent_of (with_count 0 w)
but-back w z = ap (λ (b : List ℕ). lent_block b w.base w.memory w.table) (but-count w.hart z.csrs z.x)

-- it counts no steps
none-counted : (l : Lent) → cross_steps no_steps l ≡ 0
unfolding cross_steps
none-counted l = ⊎_elim (λ y. rw y) (λ y. rw y) (either (well_formed l.hart))

none-all : (l : Lent) → cross_finished unfinished l ≡ false
unfolding cross_finished
none-all l = ⊎_elim (λ y. rw y) (λ y. rw y) (either (well_formed l.hart))

-- so its answer alone decides what it tells, but for the reports
told_same : (l l₀ : Lent) (block : List ℕ) (k k₀ : ℕ) {x y : Answer} → x ≡ y
    → but_reports (answered x (cross_steps no_steps l) (cross_finished unfinished l) k block) ≡ but_reports (answered y (cross_steps no_steps l₀) (cross_finished unfinished l₀) k₀ block)
unfolding answered
told_same l l₀ block k k₀ {x} {y} e = rw (e, none-counted l, none-all l, none-counted l₀, none-all l₀) (go (eqb (length block) 5))
  where
    go : (b : Bool) → set (cond b (answer_words y 0 false k) block) 4 0 ≡ set (cond b (answer_words y 0 false k₀) block) 4 0
    go true = refl
    go false = refl

-- ---- the claim

module _ (ns : List ℕ) (eid fid a a1 a2 : ℕ) where
  -- of what is lent of a world, whose width x cuts the numbers
  module _ (w : World) (z : Fits w) where
    abbrev x : Xlen
    x = w.hart.xlen

    abbrev now : List ℕ → World
    now ms = after_counted ms (cut x eid) (cut x fid) (cut x a) w

    abbrev stops : List ℕ → World
    stops ms = after_stops ms (cut x eid) (cut x fid) (cut x a) w

    now-fits : (ms : List ℕ) → Fits (now ms)
    now-fits ms = after-fits (cut x eid) (cut x fid) (cut x a) ms w z

    back : (ms : List ℕ) → lent_after_stops ms eid fid a (lent_of w) ≡ lent_of (now ms)
    back ms = stops-back eid fid a x ms w z refl

    width-now : (ms : List ℕ) → width_of (lent_after_stops ms eid fid a (lent_of w)) ≡ x
    width-now ms = ap width_of (back ms) ∙ width_back (now ms) (now-fits ms) ∙ after-width (cut x eid) (cut x fid) (cut x a) ms w

    -- with the count of the start, what is there after runs that do not count
    stopped-now : (ms : List ℕ) → stops ms ≡ with_count w.hart.dropped (now ms)
    stopped-now ms =
        stops-count ms (cut x eid) (cut x fid) (cut x a) w ∙ sym (ap (with_count w.hart.dropped) (counted-stops ms (cut x eid) (cut x fid) (cut x a) w))

    after_one : (ms ks : List ℕ) → ns ≡ ms ++ ks → LentAfterStop fid a (lent_of w) (lent_after_stops ms eid fid a (lent_of w))
    after_one ms ks e =
        record {
          formed = ap (λ (l : Lent). well_formed l.hart) (back ms) ∙ block_back (now ms) (now-fits ms) ∙ sym (block_back w z);
          garbage = λ g. absurd (true≢false (sym (block_back w z) ∙ g));
          width = width-now ms ∙ sym (width_back w z);
          stopped = subst (λ (y : Xlen). AfterStop (cut y fid) (cut y a) (world_of (lent_of w)) (with_count (world_of (lent_of w)).hart.dropped (world_of (lent_after_stops ms eid fid a (lent_of w))))) (sym (width_back w z))
              (subst₂ (λ (u v : World). AfterStop (cut x fid) (cut x a) u (with_count u.hart.dropped v)) (sym (world-back w z)) (sym (ap world_of (back ms) ∙ world-back (now ms) (now-fits ms)))
              (subst (AfterStop (cut x fid) (cut x a) w) (stopped-now ms) ((restartable ns (cut x eid) (cut x fid) (cut x a) w).after-each ms ks e)));
        }

    abbrev answer : World → Answer
    answer = call_answer (cut x eid) (cut x fid) (cut x a) (cut x a1) (cut x a2)

    abbrev left : World → World
    left = call_counted (cut x eid) (cut x fid) (cut x a) (cut x a1) (cut x a2)

    answers : cross_answer answer (lent_after_stops ns eid fid a (lent_of w)) ≡ cross_answer answer (lent_of w)
    answers =
        ap (cross_answer answer) (back ns) ∙ answer_back (now ns) (now-fits ns) answer ∙ ap answer (counted-stops ns (cut x eid) (cut x fid) (cut x a) w)
        ∙ call-answer-blind (cut x eid) (cut x fid) (cut x a) (cut x a1) (cut x a2) (now ns).hart.dropped (stops ns)
        ∙ (call-after-stops ns (cut x eid) (cut x fid) (cut x a) (cut x a1) (cut x a2) w).0 ∙ sym (answer_back w z answer)

    -- what is left but for the count
    leaves-world : ButCount (left (now ns)) (left w)
    leaves-world =
        ap (λ (v : World). with_count 0 (call_left (cut x eid) (cut x fid) (cut x a) (cut x a1) (cut x a2) v)) (counted-stops ns (cut x eid) (cut x fid) (cut x a) w)
        ∙ ap (with_count 0) (call-left-blind (now ns).hart.dropped (stops ns) (cut x eid) (cut x fid) (cut x a) (cut x a1) (cut x a2))
        ∙ ap (with_count 0) (call-after-stops ns (cut x eid) (cut x fid) (cut x a) (cut x a1) (cut x a2) w).1

    leaves : but_count (cross_left left (lent_after_stops ns eid fid a (lent_of w))) ≡ but_count (cross_left left (lent_of w))
    leaves =
        ap but_count (ap (cross_left left) (back ns) ∙ left_back (now ns) (now-fits ns) left)
        ∙ ⊎_elim
        (λ t. but-back (left (now ns)) (called-sized (now ns) (now-fits ns) t) ∙ ap lent_of leaves-world ∙ sym (but-back (left w) (called-sized w z t)))
        (λ r. ap (λ (v : World). but_count (lent_of (left v))) (refused-counted ns (cut x eid) (cut x fid) (cut x a) w r))
        (either (accepted (sync_answer (cut x eid) (cut x fid) (cut x a) w)))
        ∙ sym (ap but_count (left_back w z left))
      where
        called-sized : (v : World) → Fits v → accepted (sync_answer (cut x eid) (cut x fid) (cut x a) w) ≡ true → Sized (left v).hart
        called-sized v f t =
            let k = (both (eqb (cut x eid) eid_nacl) (eqb (cut x fid) fid_csr || eqb (cut x fid) fid_fence) (passed (cut x eid) (cut x fid) (cut x a) w t).three).1 in
            let s = whole-sized (cut x eid) (cut x fid) (cut x a) (cut x a1) (cut x a2) v k f.sized in
            record { csrs = s.csrs; x = s.x }

    -- nacl_call of the numbers that a width cuts
    abbrev Called : Lent → List ℕ → List ℕ → List ℕ → Given → Xlen → Type 0
    Called l block out out' g y = CallAt (cut y eid) (cut y fid) (cut y a) (cut y a1) (cut y a2) l block out g.code g.lent g.answer out'

    of-world : RestartableAcross ns eid fid a a1 a2 (lent_of w)
    of-world =
        record {
          after-each = after_one;
          same_end = λ block out out' out₀ out₀' g g₀ d d₀.
              let c = subst (Called (lent_after_stops ns eid fid a (lent_of w)) block out out' g) (width-now ns) d in
              let c₀ = subst (Called (lent_of w) block out₀ out₀' g₀) (width_back w z) d₀ in
              record {
                code = c.code ∙ ap code_of answers ∙ sym c₀.code;
                lent = ap but_count c.lent ∙ leaves ∙ sym (ap but_count c₀.lent);
                answer = ap but_reports c.told ∙ told_same (lent_after_stops ns eid fid a (lent_of w)) (lent_of w) block _ _ answers ∙ sym (ap but_reports c₀.told);
              };
        }

  -- where the block is not well formed
  of-garbage : (l : Lent) → well_formed l.hart ≡ false → RestartableAcross ns eid fid a a1 a2 l
  of-garbage l g =
      record {
        after-each = λ ms ks e.
            subst (LentAfterStop fid a l) (sym (garbage-stays eid fid a ms l g))
            (record { formed = refl; garbage = λ n. refl; width = refl; stopped = after_none eid (cut (width_of l) fid) (cut (width_of l) a) (world_of l) });
        same_end = λ block out out' out₀ out₀' f f₀ d d₀. same l g block (subst (λ (k : Lent). CallCrosses eid fid a a1 a2 k block out f.code f.lent f.answer out') (garbage-stays eid fid a ns l g) d) d₀;
      }
    where
      same : (l : Lent) → well_formed l.hart ≡ false → (block : List ℕ) {out out' out₀ out₀' : List ℕ} {f f₀ : Given}
          → CallCrosses eid fid a a1 a2 l block out f.code f.lent f.answer out' → CallCrosses eid fid a a1 a2 l block out₀ f₀.code f₀.lent f₀.answer out₀' → SameButCount f f₀
      same l g block d d₀ =
          record {
            code = d.code ∙ sym d₀.code;
            lent = ap but_count (d.lent ∙ sym d₀.lent);
            answer = ap but_reports (d.told ∙ sym d₀.told);
          }

pub stops-across : StopsAcross
unfolding StopsAcross
stops-across ns eid fid a a1 a2 l =
    ⊎_elim
    (λ y. subst (RestartableAcross ns eid fid a a1 a2) (lent_back l y) (of-world ns eid fid a a1 a2 (world_of l) (world-fits l y)))
    (of-garbage ns eid fid a a1 a2 l) (either (well_formed l.hart))
