-- SRET and the two calls inside it, their reports counted: SRET leaves what the two calls and then the rest of it leave, and after the two calls, when it
-- has nothing to synchronize, it ends as alone.
use mathlib.Core.Path.{◌≡◌, refl, sym, ap, ap₂, ◌∙◌, subst}
use mathlib.Core.Bool.{Bool, true, false, cond}
use mathlib.Core.List.{List, [], ◌++◌, map}
use Prim.Native.Nat.{ℕ}
use Rattle.std.specs.Prelude.{Ok}
use native.Mathlib.Omega.{arith}
use lib.ListN.{length, length-append}
use Rattle.layout.specs.declared.xlen.Xlen.{Xlen}
use Rattle.csr.specs.Csrs.{turn_order}
use Rattle.hart.specs.Bits.{all_ones}
use Rattle.hart.specs.Features.{has_feature}
use Rattle.hart.specs.Dropped.{Report, more_dropped}
use Rattle.page.specs.Registers.{IsPage}
use Rattle.world.specs.World.{World}
use Rattle.world.specs.State.{State, state_of, with_state}
use Rattle.world.proofs.StateLaws.{put_same, taken_out, put-over}
use Rattle.turns.specs.Marks.{Mark, Dirty}
use Rattle.turns.specs.Turn.{turns}
use Rattle.turns.specs.Steps.{steps}
use Rattle.turns.specs.Reports.{reports}
use Rattle.turns.proofs.Blind.{state_with, turns-blind}
use Rattle.turns.proofs.Kept.{StateKept}
use Rattle.turns.proofs.Made.{turns-append}
use Rattle.checks.specs.declared.answer.Success.TheVariants.{Resumed}
use Rattle.checks.specs.Fids.{fid_csr, fid_fence, fid_sret}
use Rattle.checks.specs.Codes.{accepted}
use Rattle.checks.specs.Checks.{call_answer}
use Rattle.stops.proofs.Singly.{ones-good, ones-ask}
use Rattle.sret.specs.Sret.{csrs_offered, entries_offered, context_loaded, autoswapped, swap_reports, resumed, sret, sret_reports}
use Rattle.nacl.specs.Calls.{done, done_reports, call_left, call_reports, call_counted, with_count, tallied}
use Rattle.nacl.proofs.Blind.{call-left-blind, rest-blind, rest-reports-blind}
use Rattle.nacl.proofs.CallLaws.{left}
use Rattle.claims.specs.Events.{Call}
use Rattle.claims.specs.Inside.{sret_checks, both_counted, rest_done, InsideSret, NoRefusalInsideSret}
use Rattle.claims.proofs.Dropped.{silent}
use Rattle.claims.proofs.Inside.{both_done, Ready, sret-accepted, sret-ready, ready-passes, ready-kept, ready-count, ready-resumes, start-page, end, both_left_lem, offered-end, part-synced, csrs-answer, entries-answer}
use Rattle.claims.proofs.Left.{room-there}
use Rattle.claims.proofs.SaidBits.{says, others-say-nothing}
use Rattle.claims.proofs.SinglyCounted.{more-more}
use Rattle.claims.proofs.Twice.{done-again, quiet-again}
use Rattle.claims.proofs.WellMade.{turns-kept}

-- what SRET does after its turns
abbrev rest : Xlen → State → State
rest x s = resumed x (autoswapped x (context_loaded x s))

-- and what its swap says
abbrev swap_says : Xlen → State → List Report
swap_says x s = swap_reports x (context_loaded x s)

-- what the turns of the registers offered say
abbrev turns_say : Xlen → ℕ → State → List Report
turns_say x f s = reports x (steps x (csrs_offered x f) s) s

module _ (eid a1 a2 : ℕ) (w : World) (r : Ready eid w) where
  -- FID 2 says what they say
  csrs-said : call_reports eid fid_csr (all_ones w.hart.xlen) a1 a2 w ≡ turns_say w.hart.xlen w.hart.features (state_of w)
  csrs-said = go (has_feature w.hart.features 0) refl
    where
      x : Xlen
      x = w.hart.xlen

      go : (b : Bool) → has_feature w.hart.features 0 ≡ b
          → call_reports eid fid_csr (all_ones x) a1 a2 w ≡ reports x (steps x (cond b (map Dirty (turn_order x)) []) (state_of w)) (state_of w)
      go true f =
          says eid fid_csr (all_ones x) a1 a2 w (ready-passes fid_csr refl (λ y. (ones-good y).0) eid w r f)
          ∙ ap (λ (ms : List Mark). reports x (steps x ms (state_of w)) (state_of w)) (ones-ask x).0
      go false n = silent (Call eid fid_csr (all_ones x) a1 a2) w (ap accepted (csrs-answer eid a1 a2 w r) ∙ rw n) ∙ unfold steps reports in refl

  -- a call keeps the count until its reports are counted
  count_kept : (fid a : ℕ) (v : World) → (call_left eid fid a a1 a2 v).hart.dropped ≡ v.hart.dropped
  count_kept fid a v = ap (λ (u : World). u.hart.dropped) (call-left-blind v.hart.dropped v eid fid a a1 a2)

  -- the count after FID 2
  abbrev pub mid-count : ℕ
  mid-count = more_dropped (length (turns_say w.hart.xlen w.hart.features (state_of w))) w.hart.dropped

  -- what both leave, their reports counted
  pub both-counted : both_counted eid a1 a2 w ≡ with_count mid-count (with_state w (end eid a1 a2 w r))
  both-counted =
      ap (λ (rs : List Report). tallied rs (call_left eid fid_fence a a1 a2 next)) (others-say-nothing eid fid_fence a a1 a2 next (λ e. absurd (omega arith)) (λ e. absurd (omega arith)))
      ∙ unfold more_dropped in (call-left-blind next.hart.dropped (call_left eid fid_csr a a1 a2 w) eid fid_fence a a1 a2)
      ∙ ap₂ with_count count (both_left_lem eid a1 a2 w r)
    where
      a : ℕ
      a = all_ones w.hart.xlen

      next : World
      next = call_counted eid fid_csr a a1 a2 w

      count : next.hart.dropped ≡ mid-count
      count = ap₂ (λ (rs : List Report) (n : ℕ). more_dropped (length rs) n) csrs-said (count_kept fid_csr a w)

  -- after both
  abbrev pub last : State
  last = end eid a1 a2 w r

  pub last-kept : StateKept w.hart.xlen last (state_of w)
  last-kept =
      let x = w.hart.xlen in
      subst (λ (s : State). StateKept x s (state_of w)) (turns-append x (csrs_offered x w.hart.features) (entries_offered x w.hart.features) (state_of w))
      (turns-kept x (csrs_offered x w.hart.features ++ entries_offered x w.hart.features) (state_of w) (start-page eid a1 a2 w r))

  -- what was put in comes out again, whatever the count
  pub last-lent : (n : ℕ) → state_of (with_count n (with_state w last)) ≡ state_with n last
  last-lent n = ap (state_with n) (taken_out w (room-there w r.seven) last last-kept.hart.xlen last-kept.hart.shmem last-kept.page)

  -- the rest of SRET after both
  rest-after : (n : ℕ) → rest_done (with_count n (with_state w last))
      ≡ with_count (more_dropped (length (swap_says w.hart.xlen last)) n) (with_state w (rest w.hart.xlen last))
  rest-after n =
      ap₂ from last-kept.hart.xlen (last-lent n) ∙ ap₂ (λ (rs : List Report) (s : State). tallied rs (with_state v s)) (rest-reports-blind x n last) (rest-blind x n last)
      ∙ ap (with_count (more_dropped (length (swap_says x last)) n)) (put-over w (room-there w r.seven) last last-kept.hart.xlen last-kept.hart.shmem last-kept.page (rest x last))
    where
      x : Xlen
      x = w.hart.xlen

      v : World
      v = with_count n (with_state w last)

      from : Xlen → State → World
      from y s = tallied (swap_says y s) (with_state v (rest y s))

  -- what SRET says
  pub sret-said : (b0 b1 b2 : ℕ) → accepted (call_answer eid fid_sret b0 b1 b2 w) ≡ true
      → call_reports eid fid_sret b0 b1 b2 w ≡ turns_say w.hart.xlen w.hart.features (state_of w) ++ swap_says w.hart.xlen last
  unfolding call_reports done_reports sret_reports
  sret-said b0 b1 b2 t = rw t (ap (λ (s : State). turns_say w.hart.xlen w.hart.features (state_of w) ++ swap_says w.hart.xlen s) (offered-end eid a1 a2 w r))

  -- SRET, its reports counted
  sret-counted : (b0 b1 b2 : ℕ) → accepted (call_answer eid fid_sret b0 b1 b2 w) ≡ true → call_counted eid fid_sret b0 b1 b2 w
      ≡ with_count (more_dropped (length (turns_say w.hart.xlen w.hart.features (state_of w) ++ swap_says w.hart.xlen last)) w.hart.dropped)
      (with_state w (rest w.hart.xlen last))
  sret-counted b0 b1 b2 t =
      ap₂ tallied (sret-said b0 b1 b2 t) left_is
      ∙ ap (λ (n : ℕ). with_count (more_dropped (length (turns_say x w.hart.features (state_of w) ++ swap_says x last)) n) (with_state w (rest x last)))
      (ap (λ (u : World). u.hart.dropped) (sym left_is ∙ call-left-blind w.hart.dropped w eid fid_sret b0 b1 b2))
    where
      x : Xlen
      x = w.hart.xlen

      left_is : call_left eid fid_sret b0 b1 b2 w ≡ with_state w (rest x last)
      left_is = left eid fid_sret b0 b1 b2 w t ∙ unfold done sret in (ap (λ (s : State). with_state w (rest x s)) (offered-end eid a1 a2 w r))

  -- is that of the two calls and the rest
  pub sret-left : (b0 b1 b2 : ℕ) → accepted (call_answer eid fid_sret b0 b1 b2 w) ≡ true → call_counted eid fid_sret b0 b1 b2 w ≡ rest_done (both_counted eid a1 a2 w)
  sret-left b0 b1 b2 t =
      let rs = turns_say w.hart.xlen w.hart.features (state_of w) in
      let qs = swap_says w.hart.xlen last in
      sret-counted b0 b1 b2 t
      ∙ ap (λ (n : ℕ). with_count n (with_state w (rest w.hart.xlen last)))
      (ap (λ (k : ℕ). more_dropped k w.hart.dropped) (length-append rs qs) ∙ more-more (length rs) (length qs) w.hart.dropped)
      ∙ sym (rest-after mid-count) ∙ ap rest_done (sym both-counted)

-- ---- SRET after both

module _ (eid a1 a2 b0 b1 b2 : ℕ) (w : World) (r : Ready eid w) (f : has_feature w.hart.features 2 ≡ true) where
  -- the world after both, and the state that it lends: that of both done from the start with another count
  abbrev after : World
  after = with_count (mid-count eid a1 a2 w r) (with_state w (last eid a1 a2 w r))

  abbrev start : State
  start = state_with (mid-count eid a1 a2 w r) (state_of w)

  after-lends : state_of after ≡ both_done w.hart.xlen w.hart.features start
  after-lends =
      let x = w.hart.xlen in
      let g = w.hart.features in
      let n = mid-count eid a1 a2 w r in
      last-lent eid a1 a2 w r n
      ∙ sym (ap (turns x (entries_offered x g)) (turns-blind x n (csrs_offered x g) (state_of w)) ∙ turns-blind x n (entries_offered x g) (turns x (csrs_offered x g) (state_of w)))

  -- SRET's checks pass again
  after-ready : Ready eid after
  after-ready = ready-count eid (mid-count eid a1 a2 w r) (with_state w (last eid a1 a2 w r)) (ready-kept eid w r (last eid a1 a2 w r) (last-kept eid a1 a2 w r))

  resumes : call_answer eid fid_sret b0 b1 b2 after ≡ Ok Resumed
  resumes = ready-resumes eid b0 b1 b2 after after-ready (ap (λ (g : ℕ). has_feature g 2) (last-kept eid a1 a2 w r).hart.features ∙ f)

  -- what depends on the width, the features and the state after both is as if they were the start's, and the state that of both
  by-start : {A : Type 0} (h : Xlen → ℕ → State → A) → h after.hart.xlen after.hart.features (state_of after)
      ≡ h w.hart.xlen w.hart.features (both_done w.hart.xlen w.hart.features start)
  by-start h =
      ap (λ (y : Xlen). h y after.hart.features (state_of after)) (last-kept eid a1 a2 w r).hart.xlen
      ∙ ap₂ (h w.hart.xlen) (last-kept eid a1 a2 w r).hart.features after-lends

  start-ok : IsPage w.hart.xlen start.page
  start-ok = start-page eid a1 a2 w r

  -- both calls have nothing left to do
  settled : both_counted eid a1 a2 after ≡ after
  settled =
      both-counted eid a1 a2 after after-ready ∙ by-start (λ (y : Xlen) (g : ℕ) (s : State). with_count (more_dropped (length (turns_say y g s)) n) (with_state after (both_done y g s)))
      ∙ ap₂ (λ (rs : List Report) (s : State). with_count (more_dropped (length rs) n) (with_state after s)) (quiet-again w.hart.xlen start start-ok w.hart.features)
      (done-again w.hart.xlen start start-ok w.hart.features ∙ sym after-lends)
      ∙ unfold more_dropped in (ap (with_count n) (put_same after))
    where
      n : ℕ
      n = mid-count eid a1 a2 w r

  -- so SRET ends as alone
  same_end : call_counted eid fid_sret b0 b1 b2 (both_counted eid a1 a2 w) ≡ call_counted eid fid_sret b0 b1 b2 w
  same_end =
      ap (call_counted eid fid_sret b0 b1 b2) (both-counted eid a1 a2 w r) ∙ sret-left eid a1 a2 after after-ready b0 b1 b2 (ap accepted resumes)
      ∙ ap rest_done (settled ∙ sym (both-counted eid a1 a2 w r)) ∙ sym (sret-left eid a1 a2 w r b0 b1 b2 (ap accepted (ready-resumes eid b0 b1 b2 w r f)))

  -- and says what is left to say after FID 2: its swap's report
  said-after : call_reports eid fid_sret b0 b1 b2 (both_counted eid a1 a2 w) ≡ swap_says w.hart.xlen (last eid a1 a2 w r)
  said-after =
      let x = w.hart.xlen in
      let g = w.hart.features in
      let n = mid-count eid a1 a2 w r in
      ap (call_reports eid fid_sret b0 b1 b2) (both-counted eid a1 a2 w r) ∙ sret-said eid a1 a2 after after-ready b0 b1 b2 (ap accepted resumes)
      ∙ by-start (λ (y : Xlen) (g : ℕ) (s : State). turns_say y g s ++ swap_says y (both_done y g s))
      ∙ ap₂ (λ (rs : List Report) (s : State). rs ++ swap_says x s) (quiet-again x start start-ok g)
      (done-again x start start-ok g ∙ sym after-lends ∙ last-lent eid a1 a2 w r n) ∙ rest-reports-blind x n (last eid a1 a2 w r)

-- ---- the claim

pub no-refusal : NoRefusalInsideSret
no-refusal eid a1 a2 b0 b1 b2 w = (sret-accepted eid b0 b1 b2 w, inside)
  where
    inside : sret_checks eid w ≡ true → InsideSret eid a1 a2 b0 b1 b2 w
    inside t =
        let (r, f) = sret-ready eid w t in
        let said = sret-said eid a1 a2 w r b0 b1 b2 (sret-accepted eid b0 b1 b2 w ∙ t) in
        record {
          csrs = csrs-answer eid a1 a2 w r;
          entries = entries-answer eid a1 a2 w r;
          synced = part-synced eid a1 a2 w r;
          answer = ready-resumes eid b0 b1 b2 w r f;
          left = sret-left eid a1 a2 w r b0 b1 b2 (sret-accepted eid b0 b1 b2 w ∙ t);
          again = ap (call_answer eid fid_sret b0 b1 b2) (both-counted eid a1 a2 w r) ∙ resumes eid a1 a2 b0 b1 b2 w r f;
          same = same_end eid a1 a2 b0 b1 b2 w r f;
          reports = said ∙ ap₂ (λ (rs qs : List Report). rs ++ qs) (sym (csrs-said eid a1 a2 w r)) (sym (said-after eid a1 a2 b0 b1 b2 w r f));
        }
