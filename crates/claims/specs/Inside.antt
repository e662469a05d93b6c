-- Nothing inside SRET is refused (02, Req 11). Its synchronizing part does the work of two calls, FID 2 and then FID 3, both with all-ones. From every
-- state that SRET's checks let through FID 2 is accepted if feature 0 is there, and from the state so reached FID 3 if feature 1 is; and SRET leaves what
-- they leave, with the rest of it done.
use Rattle.std.specs.Prelude.{◌≡◌, Bool, true, cond, ◌&&◌, ◌++◌, ℕ, Ok, Err}
use Rattle.hart.specs.Bits.{all_ones}
use Rattle.hart.specs.Features.{has_feature}
use Rattle.world.specs.World.{World, width}
use Rattle.world.specs.State.{state_of, with_state}
use Rattle.checks.specs.declared.answer.Success.TheVariants.{Value, Resumed}
use Rattle.checks.specs.declared.answer.Refusal.TheVariants.{NotSupported}
use Rattle.checks.specs.Fids.{fid_csr, fid_fence, fid_sret}
use Rattle.checks.specs.Codes.{Answer, accepted}
use Rattle.checks.specs.Checks.{call_answer, check1, check2, check7, is_call}
use Rattle.sret.specs.Sret.{offered_done, context_loaded, autoswapped, swap_reports, resumed}
use Rattle.nacl.specs.Calls.{call_left, call_reports, call_counted, tallied}

-- SRET's checks: table and record well made, V off and mode S, its EID and FID, feature 2, and a page that is set and lies wholly in L1 memory
abbrev pub sret_checks : ℕ → World → Bool
sret_checks eid w = check1 w && check2 w && is_call eid fid_sret && has_feature w.hart.features 2 && check7 w

-- success if the hart has feature k, else -2
abbrev pub if_offered : ℕ → World → Answer
if_offered k w = cond (has_feature w.hart.features k) (Ok (Value 0)) (Err NotSupported)

-- what FID 2 with all-ones leaves, and then FID 3 with all-ones, but for the count of writes that dropped bits; a refused one leaves what it found
abbrev pub both_left : ℕ → ℕ → ℕ → World → World
both_left eid a1 a2 w = call_left eid fid_fence (all_ones (width w)) a1 a2 (call_left eid fid_csr (all_ones (width w)) a1 a2 w)

-- the same, their reports counted
abbrev pub both_counted : ℕ → ℕ → ℕ → World → World
both_counted eid a1 a2 w = call_counted eid fid_fence (all_ones (width w)) a1 a2 (call_counted eid fid_csr (all_ones (width w)) a1 a2 w)

-- what SRET's synchronizing part leaves
abbrev pub part_synced : World → World
part_synced w = with_state w (offered_done (width w) (state_of w))

-- what the rest of SRET leaves: the context, the swap, the return and the clean words; the swap's report counted
abbrev pub rest_done : World → World
rest_done v =
    let s = context_loaded (width v) (state_of v) in
    tallied (swap_reports (width v) s) (with_state v (resumed (width v) (autoswapped (width v) s)))

-- the answers of the two calls; what both leave is what SRET's part leaves, and with the rest done what SRET leaves, which resumes; after both it resumes
-- too, leaves the same as alone, and says what FID 2 has not said. Arguments that a call does not look at are any numbers
pub record InsideSret (eid a1 a2 b0 b1 b2 : ℕ) (w : World) : Type 0 where
  pub csrs : call_answer eid fid_csr (all_ones (width w)) a1 a2 w ≡ if_offered 0 w
  pub entries : call_answer eid fid_fence (all_ones (width w)) a1 a2 (call_counted eid fid_csr (all_ones (width w)) a1 a2 w) ≡ if_offered 1 w
  pub synced : part_synced w ≡ both_left eid a1 a2 w
  pub answer : call_answer eid fid_sret b0 b1 b2 w ≡ Ok Resumed
  pub left : call_counted eid fid_sret b0 b1 b2 w ≡ rest_done (both_counted eid a1 a2 w)
  pub again : call_answer eid fid_sret b0 b1 b2 (both_counted eid a1 a2 w) ≡ Ok Resumed
  pub same : call_counted eid fid_sret b0 b1 b2 (both_counted eid a1 a2 w) ≡ call_counted eid fid_sret b0 b1 b2 w
  pub reports : call_reports eid fid_sret b0 b1 b2 w
      ≡ call_reports eid fid_csr (all_ones (width w)) a1 a2 w ++ call_reports eid fid_sret b0 b1 b2 (both_counted eid a1 a2 w)

-- SRET is accepted exactly if its checks pass, and from every state that they let through nothing that the features offer is refused inside it. Shut out:
-- an SRET that answers with a code of its inner synchronization; one that passes over the fences; one that counts other writes than the registers' and
-- the swap's; one without check 7.
abbrev pub NoRefusalInsideSret : Type 0
NoRefusalInsideSret =
    (eid a1 a2 b0 b1 b2 : ℕ) (w : World)
    → (accepted (call_answer eid fid_sret b0 b1 b2 w) ≡ sret_checks eid w) × (sret_checks eid w ≡ true → InsideSret eid a1 a2 b0 b1 b2 w)
