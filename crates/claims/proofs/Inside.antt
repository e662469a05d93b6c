-- The two calls inside SRET: from a state that SRET's checks let through each is accepted if its feature is there, and SRET leaves what they leave,
-- with the rest of it done.
use mathlib.Core.Path.{◌≡◌, refl, sym, ap, ap₂, ◌∙◌}
use mathlib.Core.Bool.{Bool, true, false, cond, ◌&&◌, ◌||◌}
use mathlib.Core.List.{List, [], map}
use Prim.Native.Nat.{ℕ}
use Rattle.std.specs.Prelude.{Ok, Err}
use lib.Dec.{eqb, leb}
use Rattle.layout.specs.declared.xlen.Xlen.{Xlen}
use Rattle.csr.specs.Csrs.{turn_order}
use Rattle.hart.specs.Bits.{all_ones}
use Rattle.hart.specs.Features.{has_feature}
use Rattle.page.specs.Registers.{IsPage}
use Rattle.page.specs.Entries.{every_entry}
use Rattle.world.specs.World.{World}
use Rattle.world.specs.State.{State, state_of, with_state}
use Rattle.world.proofs.StateLaws.{put_same, page-length, taken_out, put-over}
use Rattle.turns.specs.Marks.{Mark, Dirty, Pending}
use Rattle.turns.specs.Turn.{turns}
use Rattle.turns.proofs.Kept.{StateKept}
use Rattle.turns.proofs.Made.{turns-append}
use Rattle.checks.specs.declared.answer.Success.TheVariants.{Value, Resumed}
use Rattle.checks.specs.declared.answer.Refusal.TheVariants.{NotSupported}
use Rattle.checks.specs.Fids.{eid_nacl, fid_csr, fid_fence, fid_sret}
use Rattle.checks.specs.Codes.{accepted}
use Rattle.checks.specs.Checks.{call_answer, sync_answer, answer_by, check1, check2, check7, is_call, is_sync, feature_of, feature_there, decide}
use Rattle.checks.proofs.Accepted.{Passed, good_parameter, answered, by-fid}
use Rattle.checks.proofs.Truth.{both, and_intro}
use Rattle.stops.specs.Sync.{asked, synced}
use Rattle.stops.proofs.Forms.{whole-passed, still_one, still-two, still-seven}
use Rattle.stops.proofs.Singly.{ones-good, ones-ask}
use Rattle.sret.specs.Sret.{csrs_offered, entries_offered, offered_done}
use Rattle.nacl.specs.Calls.{call_left, with_count, call_counted}
use Rattle.nacl.proofs.Blind.{call-answer-blind}
use Rattle.nacl.proofs.CallLaws.{refusal, sync-call}
use Rattle.claims.specs.Inside.{sret_checks, if_offered, both_left, part_synced}
use Rattle.claims.proofs.Left.{room-there}
use Rattle.claims.proofs.WellMade.{turns-kept}

-- the turns of the registers that the features offer, and then of the entries
abbrev pub both_done : Xlen → ℕ → State → State
both_done x f s = turns x (entries_offered x f) (turns x (csrs_offered x f) s)

-- SRET's checks, but for its feature, which are those of FID 2 and 3 too
pub record Ready (eid : ℕ) (w : World) : Type 0 where
  pub one : check1 w ≡ true
  pub two : check2 w ≡ true
  pub three : eqb eid eid_nacl ≡ true
  pub seven : check7 w ≡ true

-- SRET is accepted exactly if its checks pass
pub sret-accepted : (eid a0 a1 a2 : ℕ) (w : World) → accepted (call_answer eid fid_sret a0 a1 a2 w) ≡ sret_checks eid w
unfolding call_answer answer_by
sret-accepted eid a0 a1 a2 w = go (check1 w) (check2 w) (is_call eid fid_sret) (has_feature w.hart.features 2) (check7 w)
  where
    go : (a b c d e : Bool) → accepted (decide a b c d true true e (Ok Resumed)) ≡ (a && b && c && d && e)
    go false b c d e = refl
    go true false c d e = refl
    go true true false d e = refl
    go true true true false e = refl
    go true true true true false = refl
    go true true true true true = refl

-- so those of the world pass, and its feature is there
pub sret-ready : (eid : ℕ) (w : World) → sret_checks eid w ≡ true → Ready eid w × (has_feature w.hart.features 2 ≡ true)
sret-ready eid w t =
    let (t₁, seven) = both _ (check7 w) t in
    let (t₂, four) = both _ (has_feature w.hart.features 2) t₁ in
    let (t₃, three) = both _ (is_call eid fid_sret) t₂ in
    let (one, two) = both (check1 w) (check2 w) t₃ in
    (record { one = one; two = two; three = (both (eqb eid eid_nacl) (leb fid_sret fid_sret) three).0; seven = seven }, four)

-- and it resumes where they do
pub ready-resumes : (eid a0 a1 a2 : ℕ) (w : World) → Ready eid w → has_feature w.hart.features 2 ≡ true → call_answer eid fid_sret a0 a1 a2 w ≡ Ok Resumed
unfolding call_answer answer_by
ready-resumes eid a0 a1 a2 w r f = rw (r.one, r.two, r.three, f, r.seven)

-- whatever the count
pub ready-count : (eid n : ℕ) (w : World) → Ready eid w → Ready eid (with_count n w)
unfolding check1 check2 check7
ready-count eid n w r = record { one = r.one; two = r.two; three = r.three; seven = r.seven }

-- FID 2 or FID 3 with all-ones
module _ (fid : ℕ) (sync : (eqb fid fid_csr || eqb fid fid_fence) ≡ true) (good : (x : Xlen) → good_parameter x fid (all_ones x) ≡ true) (eid : ℕ) (w : World) (r : Ready eid w) where
  is-sync : is_sync eid fid ≡ true
  is-sync = and_intro (eqb eid eid_nacl) (eqb fid fid_csr || eqb fid fid_fence) r.three sync

  -- with its feature it passes
  pub ready-passes : has_feature w.hart.features (feature_of fid) ≡ true → Passed eid fid (all_ones w.hart.xlen) w
  ready-passes f = record { one = r.one; two = r.two; three = is-sync; four = f; five = good w.hart.xlen; seven = r.seven }

  -- without it, it is refused
  not-offered : has_feature w.hart.features (feature_of fid) ≡ false → sync_answer eid fid (all_ones w.hart.xlen) w ≡ Err NotSupported
  unfolding sync_answer answer_by
  not-offered n =
      let features = w.hart.features in
      rw (
        r.one,
        r.two,
        is-sync,
        by-fid (λ (f : ℕ). has_feature features (feature_of f) ≡ false → feature_there features f ≡ false) eid fid is-sync (λ e. e) (λ e. e) n,
      )

  pub ready-answer : (a1 a2 : ℕ) → call_answer eid fid (all_ones w.hart.xlen) a1 a2 w ≡ if_offered (feature_of fid) w
  ready-answer a1 a2 = (sync-call eid fid (all_ones w.hart.xlen) a1 a2 w sync).0 ∙ go (has_feature w.hart.features (feature_of fid)) refl
    where
      go : (b : Bool) → has_feature w.hart.features (feature_of fid) ≡ b → sync_answer eid fid (all_ones w.hart.xlen) w ≡ cond b (Ok (Value 0)) (Err NotSupported)
      go true f = answered eid fid (all_ones w.hart.xlen) w (ready-passes f)
      go false n = not-offered n

  -- and it leaves the turns of what is offered done
  pub ready-left : (a1 a2 : ℕ) (ms : List Mark) → asked w.hart.xlen fid (all_ones w.hart.xlen) ≡ ms
      → call_left eid fid (all_ones w.hart.xlen) a1 a2 w ≡ with_state w (turns w.hart.xlen (cond (has_feature w.hart.features (feature_of fid)) ms []) (state_of w))
  ready-left a1 a2 ms is = go (has_feature w.hart.features (feature_of fid)) refl
    where
      a : ℕ
      a = all_ones w.hart.xlen

      go : (b : Bool) → has_feature w.hart.features (feature_of fid) ≡ b
          → call_left eid fid a a1 a2 w ≡ with_state w (turns w.hart.xlen (cond b ms []) (state_of w))
      go true f =
          (sync-call eid fid a a1 a2 w sync).1 ∙ whole-passed eid fid a w (ready-passes f)
          ∙ unfold synced in (ap (λ (ks : List Mark). with_state w (turns w.hart.xlen ks (state_of w))) is)
      go false n = (refusal eid fid a a1 a2 w (ap accepted ((sync-call eid fid a a1 a2 w sync).0 ∙ not-offered n))).1 ∙ unfold turns in (sym (put_same w))

-- SRET's checks, but for its feature, still pass with the state that turns leave
pub ready-kept : (eid : ℕ) (w : World) → Ready eid w → (s : State) → StateKept w.hart.xlen s (state_of w) → Ready eid (with_state w s)
ready-kept eid w r s k =
    let rm = room-there w r.seven in
    record { one = still_one w rm s k r.one; two = still-two w rm s k r.two; three = r.three; seven = still-seven w rm s k r.seven }

-- ---- one after the other

module _ (eid a1 a2 : ℕ) (w : World) (r : Ready eid w) where
  abbrev pub x : Xlen
  x = w.hart.xlen

  pub start-page : IsPage x (state_of w).page
  start-page = page-length w (room-there w r.seven)

  -- after FID 2
  abbrev mid : State
  mid = turns x (csrs_offered x w.hart.features) (state_of w)

  kept : StateKept x mid (state_of w)
  kept = turns-kept x (csrs_offered x w.hart.features) (state_of w) start-page

  pub csrs-left : call_left eid fid_csr (all_ones x) a1 a2 w ≡ with_state w mid
  csrs-left = ready-left fid_csr refl (λ y. (ones-good y).0) eid w r a1 a2 (map Dirty (turn_order x)) (ones-ask x).0

  mid-ready : Ready eid (with_state w mid)
  mid-ready = ready-kept eid w r mid kept

  -- after FID 3
  abbrev pub end : State
  end = both_done x w.hart.features (state_of w)

  -- what was put in comes out again
  lends : state_of (with_state w mid) ≡ mid
  lends = taken_out w (room-there w r.seven) mid kept.hart.xlen kept.hart.shmem kept.page

  entries-left : call_left eid fid_fence (all_ones x) a1 a2 (with_state w mid) ≡ with_state w end
  entries-left =
      ap (λ (y : Xlen). call_left eid fid_fence (all_ones y) a1 a2 (with_state w mid)) (sym kept.hart.xlen)
      ∙ ready-left fid_fence refl (λ y. (ones-good y).1) eid (with_state w mid) mid-ready a1 a2 (map Pending (every_entry mid.hart.xlen)) (ones-ask mid.hart.xlen).1
      ∙ ap (λ (y : Xlen). with_state (with_state w mid) (turns y (entries_offered y mid.hart.features) (state_of (with_state w mid)))) kept.hart.xlen
      ∙ ap₂ (λ (f : ℕ) (s : State). with_state (with_state w mid) (turns x (entries_offered x f) s)) kept.hart.features lends
      ∙ put-over w (room-there w r.seven) mid kept.hart.xlen kept.hart.shmem kept.page end

  pub both_left_lem : both_left eid a1 a2 w ≡ with_state w end
  both_left_lem = ap (call_left eid fid_fence (all_ones x) a1 a2) csrs-left ∙ entries-left

  -- which is SRET's synchronizing part
  pub offered-end : offered_done x (state_of w) ≡ end
  unfolding offered_done
  offered-end = turns-append x (csrs_offered x w.hart.features) (entries_offered x w.hart.features) (state_of w)

  pub part-synced : part_synced w ≡ both_left eid a1 a2 w
  part-synced = ap (with_state w) offered-end ∙ sym both_left_lem

  pub csrs-answer : call_answer eid fid_csr (all_ones x) a1 a2 w ≡ if_offered 0 w
  csrs-answer = ready-answer fid_csr refl (λ y. (ones-good y).0) eid w r a1 a2

  pub entries-answer : call_answer eid fid_fence (all_ones x) a1 a2 (call_counted eid fid_csr (all_ones x) a1 a2 w) ≡ if_offered 1 w
  entries-answer =
      call-answer-blind eid fid_fence (all_ones x) a1 a2 (call_counted eid fid_csr (all_ones x) a1 a2 w).hart.dropped (call_left eid fid_csr (all_ones x) a1 a2 w)
      ∙ ap (call_answer eid fid_fence (all_ones x) a1 a2) csrs-left
      ∙ ap (λ (y : Xlen). call_answer eid fid_fence (all_ones y) a1 a2 (with_state w mid)) (sym kept.hart.xlen)
      ∙ ready-answer fid_fence refl (λ y. (ones-good y).1) eid (with_state w mid) mid-ready a1 a2
      ∙ ap (λ (f : ℕ). cond (has_feature f 1) (Ok (Value 0)) (Err NotSupported)) kept.hart.features
