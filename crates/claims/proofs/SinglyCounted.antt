-- Demand 2 with the count and the reports: synchronizing everything, and each singly in the stated order.
use mathlib.Core.Path.{◌≡◌, refl, sym, ap, ap₂, ◌∙◌, subst}
use mathlib.Core.Bool.{true, false, ◌||◌}
use mathlib.Core.List.{List, [], ◌∷◌, ◌++◌, map}
use mathlib.Core.Logic.{⊎_elim}
use Prim.Native.Nat.{ℕ, zero, suc, ◌+◌}
use native.Mathlib.Omega.{arith}
use lib.Dec.{eqb}
use lib.ListN.{length, length-append}
use Rattle.layout.specs.declared.xlen.Xlen.{Xlen}
use Rattle.layout.specs.declared.xlen.Xlen.TheVariants.{X32, X64}
use Rattle.csr.specs.Csrs.{turn_order, number}
use Rattle.hart.specs.Bits.{all_ones}
use Rattle.hart.specs.Dropped.{Report, one_more, more_dropped}
use Rattle.page.specs.Registers.{IsPage}
use Rattle.page.specs.Entries.{every_entry}
use Rattle.world.specs.World.{World}
use Rattle.world.specs.State.{State, state_of, with_state}
use Rattle.world.proofs.StateLaws.{page-length, taken_out}
use Rattle.turns.specs.Marks.{Mark}
use Rattle.turns.specs.Turn.{turns}
use Rattle.turns.specs.Steps.{Step, steps}
use Rattle.turns.specs.Reports.{reports}
use Rattle.turns.proofs.Kept.{StateKept}
use Rattle.turns.proofs.Made.{steps-append}
use Rattle.turns.proofs.Reported.{reports-append}
use Rattle.turns.proofs.Turns.{all-steps}
use Rattle.checks.specs.Fids.{fid_csr, fid_fence}
use Rattle.checks.specs.Codes.{accepted}
use Rattle.checks.specs.Checks.{sync_answer}
use Rattle.checks.proofs.Accepted.{Passed, good_parameter, passed, room_of}
use Rattle.checks.proofs.Truth.{both, either}
use Rattle.stops.specs.Sync.{asked, synced, whole_reports}
use Rattle.stops.proofs.Forms.{whole-passed, still-passed}
use Rattle.stops.proofs.Singly.{ones-good}
use Rattle.nacl.specs.Calls.{call_left, call_reports, with_count, tallied, call_counted}
use Rattle.nacl.proofs.Blind.{call-left-blind, call-reports-blind}
use Rattle.nacl.proofs.CallLaws.{sync-call, refusal}
use Rattle.nacl.proofs.Said.{whole-said}
use Rattle.claims.specs.Events.{Call}
use Rattle.claims.specs.Claims.{calls_left}
use Rattle.claims.specs.Dropped.{calls_counted, calls_reports, SinglyCounted, EachSinglyCounted}
use Rattle.claims.proofs.Singly.{all_good, same_answer, csrs-good, entries-good, same-list, each-singly}
use Rattle.claims.proofs.Dropped.{silent}
use Rattle.claims.proofs.SaidBits.{says}
use Rattle.claims.proofs.WellMade.{turns-kept}

-- ---- the count

-- j writes more, and then k
pub more-more : (j k n : ℕ) → more_dropped (j + k) n ≡ more_dropped k (more_dropped j n)
unfolding more_dropped
more-more zero k n = ap (λ (m : ℕ). more_dropped m n) (let e : 0 + k ≡ k = omega arith in e)
more-more (suc j) k n = ap (λ (m : ℕ). more_dropped m n) (let e : suc j + k ≡ suc (j + k) = omega arith in e) ∙ more-more j k (one_more n)

module _ (eid fid : ℕ) where
  -- what calls say if none is counted
  unfoldable said_by : List ℕ → World → List Report
  said_by [] w = []
  said_by (b ∷ bs) w = call_reports eid fid b 0 0 w ++ said_by bs (call_left eid fid b 0 0 w)

  -- it does not go by the count
  said-blind : (n : ℕ) (bs : List ℕ) (w : World) → said_by bs (with_count n w) ≡ said_by bs w
  unfolding said_by
  said-blind n [] w = refl
  said-blind n (b ∷ bs) w =
      ap₂ (λ (rs qs : List Report). rs ++ qs) (call-reports-blind n w eid fid b 0 0)
      (ap (said_by bs) (call-left-blind n w eid fid b 0 0) ∙ said-blind n bs (call_left eid fid b 0 0 w))

  -- so it is what they say
  reports-said : (bs : List ℕ) (w : World) → calls_reports fid bs eid w ≡ said_by bs w
  unfolding said_by calls_reports
  reports-said [] w = refl
  reports-said (b ∷ bs) w =
      ap (λ (rs : List Report). call_reports eid fid b 0 0 w ++ rs)
      (reports-said bs (call_counted eid fid b 0 0 w) ∙ said-blind (call_counted eid fid b 0 0 w).hart.dropped bs (call_left eid fid b 0 0 w))

  -- nor does what they leave
  left-blind : (n : ℕ) (bs : List ℕ) (w : World) → calls_left fid bs eid (with_count n w) ≡ with_count n (calls_left fid bs eid w)
  unfolding calls_left
  left-blind n [] w = refl
  left-blind n (b ∷ bs) w = ap (calls_left fid bs eid) (call-left-blind n w eid fid b 0 0) ∙ left-blind n bs (call_left eid fid b 0 0 w)

  -- and each adds its reports to the count
  left-counted : (bs : List ℕ) (w : World) → calls_counted fid bs eid w ≡ tallied (calls_reports fid bs eid w) (calls_left fid bs eid w)
  unfolding calls_counted calls_reports calls_left more_dropped
  left-counted [] w = refl
  left-counted (b ∷ bs) w =
      left-counted bs next ∙ ap (tallied qs) (left-blind next.hart.dropped bs left) ∙ ap (λ (k : ℕ). with_count k (calls_left fid bs eid left)) (sym sum)
    where
      left : World
      left = call_left eid fid b 0 0 w

      next : World
      next = call_counted eid fid b 0 0 w

      rs : List Report
      rs = call_reports eid fid b 0 0 w

      qs : List Report
      qs = calls_reports fid bs eid next

      sum : more_dropped (length (rs ++ qs)) (calls_left fid bs eid left).hart.dropped ≡ more_dropped (length qs) next.hart.dropped
      sum =
          ap₂ more_dropped (length-append rs qs) (ap (λ (v : World). v.hart.dropped) (left-blind left.hart.dropped bs left))
          ∙ more-more (length rs) (length qs) left.hart.dropped

-- ---- what they say

-- the marks that these parameters ask for, one after the other
abbrev all_asked : Xlen → ℕ → List ℕ → List Mark
all_asked x fid [] = []
all_asked x fid (b ∷ bs) = asked x fid b ++ all_asked x fid bs

-- what the turns of some marks say, and then those of others
pub reports-turns : (x : Xlen) (ms ks : List Mark) (s : State) → IsPage x s.page
    → reports x (steps x (ms ++ ks) s) s ≡ reports x (steps x ms s) s ++ reports x (steps x ks (turns x ms s)) (turns x ms s)
reports-turns x ms ks s g =
    ap (λ (ys : List Step). reports x ys s) (steps-append x ms ks s) ∙ reports-append x (steps x ms s) (steps x ks (turns x ms s)) s
    ∙ ap (λ (t : State). reports x (steps x ms s) s ++ reports x (steps x ks (turns x ms s)) t) (all-steps x ms s g)

-- FID 2 or FID 3
module _ (eid fid : ℕ) (sync : (eqb fid fid_csr || eqb fid fid_fence) ≡ true) where
  -- one call that passes: its page, and what its turns leave
  module _ (b : ℕ) (w : World) (q : Passed eid fid b w) where
    page : IsPage w.hart.xlen (state_of w).page
    page = page-length w (room_of eid fid b w q)

    abbrev turned : State
    turned = turns w.hart.xlen (asked w.hart.xlen fid b) (state_of w)

    kept : StateKept w.hart.xlen turned (state_of w)
    kept = turns-kept w.hart.xlen (asked w.hart.xlen fid b) (state_of w) page

    next : call_left eid fid b 0 0 w ≡ with_state w turned
    unfolding synced
    next = (sync-call eid fid b 0 0 w sync).1 ∙ whole-passed eid fid b w q

  -- calls that pass say what the turns of all their marks say
  all_said : (bs : List ℕ) (a : ℕ) (w : World) → let x = w.hart.xlen in all_good x fid bs ≡ true → Passed eid fid a w
      → said_by eid fid bs w ≡ reports x (steps x (all_asked x fid bs) (state_of w)) (state_of w)
  unfolding said_by steps reports
  all_said [] a w good q = refl
  all_said (b ∷ bs) a w good q =
      let x = w.hart.xlen in
      let (one, others) = both (good_parameter x fid b) (all_good x fid bs) good in
      let p : Passed eid fid b w = record { one = q.one; two = q.two; three = q.three; four = q.four; five = one; seven = q.seven } in
      let t = turned b w p in
      let k = kept b w p in
      let rm = room_of eid fid a w q in
      ap₂ (λ (rs qs : List Report). rs ++ qs) (says eid fid b 0 0 w p)
      (ap (said_by eid fid bs) (next b w p)
      ∙ all_said bs a (with_state w t) (subst (λ (y : Xlen). all_good y fid bs ≡ true) (sym k.hart.xlen) others) (still-passed w rm t k eid fid a q)
      ∙ ap (λ (y : Xlen). reports y (steps y (all_asked y fid bs) (state_of (with_state w t))) (state_of (with_state w t))) k.hart.xlen
      ∙ ap (λ (u : State). reports x (steps x (all_asked x fid bs) u) u) (taken_out w rm t k.hart.xlen k.hart.shmem k.page))
      ∙ sym (reports-turns x (asked x fid b) (all_asked x fid bs) (state_of w) (page b w p))

  -- calls that are refused say nothing
  none_said : (bs : List ℕ) (a : ℕ) (w : World) → let x = w.hart.xlen in all_good x fid bs ≡ true → good_parameter x fid a ≡ true
      → accepted (sync_answer eid fid a w) ≡ false → said_by eid fid bs w ≡ []
  unfolding said_by
  none_said [] a w good g n = refl
  none_said (b ∷ bs) a w good g n =
      let (one, others) = both (good_parameter w.hart.xlen fid b) (all_good w.hart.xlen fid bs) good in
      let r = ap accepted ((sync-call eid fid b 0 0 w sync).0 ∙ same_answer eid fid sync b a w one g) ∙ n in
      ap₂ (λ (rs qs : List Report). rs ++ qs) (silent (Call eid fid b 0 0) w r)
      (ap (said_by eid fid bs) (refusal eid fid b 0 0 w r).1 ∙ none_said bs a w others g n)

  -- so all-ones says what one call for each says
  ones-said : (bs : List ℕ) (w : World) → let x = w.hart.xlen in all_good x fid bs ≡ true → good_parameter x fid (all_ones x) ≡ true → asked x fid (all_ones x) ≡ all_asked x fid bs
      → whole_reports eid fid (all_ones x) w ≡ said_by eid fid bs w
  unfolding whole_reports
  ones-said bs w good g all =
      let x = w.hart.xlen in
      ⊎_elim
      (λ t. rw t (ap (λ (ms : List Mark). reports x (steps x ms (state_of w)) (state_of w)) all ∙ sym (all_said bs (all_ones x) w good (passed eid fid (all_ones x) w t))))
      (λ n. rw n (sym (none_said bs (all_ones x) w good g n))) (either (accepted (sync_answer eid fid (all_ones x) w)))

  singly : (bs : List ℕ) (a1 a2 : ℕ) (w : World) → let x = w.hart.xlen in all_good x fid bs ≡ true → good_parameter x fid (all_ones x) ≡ true
      → asked x fid (all_ones x) ≡ all_asked x fid bs → call_left eid fid (all_ones x) a1 a2 w ≡ calls_left fid bs eid w → SinglyCounted eid fid a1 a2 bs w
  singly bs a1 a2 w good g all left =
      let said = whole-said eid fid (all_ones w.hart.xlen) a1 a2 w sync ∙ ones-said bs w good g all ∙ sym (reports-said eid fid bs w) in
      record { reports = said; left = ap₂ tallied said left ∙ sym (left-counted eid fid bs w) }

-- every register, and every entry, asks for its own mark
csrs-asked : (x : Xlen) → asked x fid_csr (all_ones x) ≡ all_asked x fid_csr (map number (turn_order x))
csrs-asked X32 = refl
csrs-asked X64 = refl

entries-asked : (x : Xlen) → asked x fid_fence (all_ones x) ≡ all_asked x fid_fence (every_entry x)
entries-asked X32 = refl
entries-asked X64 = refl

pub each-singly-counted : EachSinglyCounted
each-singly-counted eid a1 a2 w =
    let x = w.hart.xlen in
    let (csrs, entries) = each-singly eid a1 a2 w in (
      singly eid fid_csr refl (map number (turn_order x)) a1 a2 w (csrs-good x) (ones-good x).0 (csrs-asked x) csrs.left,
      singly eid fid_fence refl (every_entry x) a1 a2 w (subst (λ (bs : List ℕ). all_good x fid_fence bs ≡ true) (same-list (every_entry x)) (entries-good x))
          (ones-good x).1 (entries-asked x) entries.left,
    )
