-- What the dispatcher's definition says: of refusals (demand 1), of FID 2 and 3, and of SRET's checks.
use mathlib.Core.Path.{◌≡◌, refl, sym, ap, subst}
use mathlib.Core.Bool.{Bool, true, false, cond, ◌||◌, true≢false, false≢true}
use mathlib.Core.Logic.{◌⊎◌, inl, inr, ⊎_elim}
use Prim.Native.Nat.{ℕ, ◌≤◌}
use lib.Dec.{eqb, leb}
use borrow.Author.Tests.{eqb-true, leb-true}
use Rattle.world.specs.World.{World, in_memory}
use Rattle.std.specs.Prelude.{Ok, Err}
use Rattle.checks.specs.declared.answer.Success.TheVariants.{Resumed}
use Rattle.checks.specs.declared.answer.Refusal.TheVariants.{Failed, NotSupported, InvalidParam, InvalidAddress, NoShmem}
use Rattle.checks.specs.Fids.{eid_nacl, fid_set, fid_csr, fid_fence, fid_sret}
use Rattle.checks.specs.Codes.{Answer, accepted, value_of}
use Rattle.checks.specs.Checks.{check1, check2, check5, check6, check7, is_call, is_drop, feature_there, answer_by, call_answer, sync_answer}
use Rattle.checks.proofs.Truth.{both}
use Rattle.checks.proofs.Judged.{guard}
use Rattle.stops.specs.Sync.{synced, whole}
use Rattle.nacl.specs.Calls.{done, call_left}

-- a refusal has value 0
pub value-0 : (r : Answer) → accepted r ≡ false → value_of r ≡ 0
value-0 (Ok s) n = absurd (true≢false n)
value-0 (Err r) n = refl

-- demand 1: a refusal returns value 0 and leaves record, memory and table as they were
pub refusal : (eid fid a0 a1 a2 : ℕ) (w : World) → accepted (call_answer eid fid a0 a1 a2 w) ≡ false
    → (value_of (call_answer eid fid a0 a1 a2 w) ≡ 0) × (call_left eid fid a0 a1 a2 w ≡ w)
unfolding call_left
refusal eid fid a0 a1 a2 w n = (value-0 (call_answer eid fid a0 a1 a2 w) n, rw n)

-- an accepted call leaves what its definition gives
pub left : (eid fid a0 a1 a2 : ℕ) (w : World) → accepted (call_answer eid fid a0 a1 a2 w) ≡ true → call_left eid fid a0 a1 a2 w ≡ done fid a0 a1 w
unfolding call_left
left eid fid a0 a1 a2 w t = rw t

-- an accepted call's FID is at most 4
pub at_most : (eid fid a0 a1 a2 : ℕ) (w : World) → accepted (call_answer eid fid a0 a1 a2 w) ≡ true → fid ≤ fid_sret
unfolding call_answer answer_by
at_most eid fid a0 a1 a2 w a =
    let (one, t₁) = guard (check1 w) Failed _ a in
    let (two, t₂) = guard (check2 w) NotSupported _ t₁ in
    let (three, t₃) = guard (is_call eid fid) NotSupported _ t₂ in
    leb-true fid fid_sret (both (eqb eid eid_nacl) (leb fid fid_sret) three).1

-- FID 2 and 3: the call is the whole form of the synchronization
pub answer-csr : (eid a0 a1 a2 : ℕ) (w : World) → call_answer eid fid_csr a0 a1 a2 w ≡ sync_answer eid fid_csr a0 w
unfolding call_answer sync_answer answer_by
answer-csr eid a0 a1 a2 w = refl

pub answer-fence : (eid a0 a1 a2 : ℕ) (w : World) → call_answer eid fid_fence a0 a1 a2 w ≡ sync_answer eid fid_fence a0 w
unfolding call_answer sync_answer answer_by
answer-fence eid a0 a1 a2 w = refl

pub left-csr : (eid a0 a1 a2 : ℕ) (w : World) → call_left eid fid_csr a0 a1 a2 w ≡ whole eid fid_csr a0 w
unfolding call_left whole done
left-csr eid a0 a1 a2 w = ap (λ (r : Answer). cond (accepted r) (synced fid_csr a0 w) w) (answer-csr eid a0 a1 a2 w)

pub left-fence : (eid a0 a1 a2 : ℕ) (w : World) → call_left eid fid_fence a0 a1 a2 w ≡ whole eid fid_fence a0 w
unfolding call_left whole done
left-fence eid a0 a1 a2 w = ap (λ (r : Answer). cond (accepted r) (synced fid_fence a0 w) w) (answer-fence eid a0 a1 a2 w)

-- FID 2 or FID 3
pub which : (fid : ℕ) → (eqb fid fid_csr || eqb fid fid_fence) ≡ true → (fid ≡ fid_csr) ⊎ (fid ≡ fid_fence)
which fid t = go (eqb fid fid_csr) (eqb fid fid_fence) refl refl t
  where
    go : (x y : Bool) → eqb fid fid_csr ≡ x → eqb fid fid_fence ≡ y → (x || y) ≡ true → (fid ≡ fid_csr) ⊎ (fid ≡ fid_fence)
    go true y e f t = inl (eqb-true fid fid_csr e)
    go false true e f t = inr (eqb-true fid fid_fence f)
    go false false e f t = absurd (false≢true t)

pub sync-call : (eid fid a0 a1 a2 : ℕ) (w : World) → (eqb fid fid_csr || eqb fid fid_fence) ≡ true
    → (call_answer eid fid a0 a1 a2 w ≡ sync_answer eid fid a0 w) × (call_left eid fid a0 a1 a2 w ≡ whole eid fid a0 w)
sync-call eid fid a0 a1 a2 w t =
    ⊎_elim (λ e. subst P (sym e) (answer-csr eid a0 a1 a2 w, left-csr eid a0 a1 a2 w))
    (λ e. subst P (sym e) (answer-fence eid a0 a1 a2 w, left-fence eid a0 a1 a2 w)) (which fid t)
  where
    P : ℕ → Type 0
    P f = (call_answer eid f a0 a1 a2 w ≡ sync_answer eid f a0 w) × (call_left eid f a0 a1 a2 w ≡ whole eid f a0 w)

-- an accepted call passed check 1
pub passed-one : (eid fid a0 a1 a2 : ℕ) (w : World) → accepted (call_answer eid fid a0 a1 a2 w) ≡ true → check1 w ≡ true
unfolding call_answer answer_by
passed-one eid fid a0 a1 a2 w t = (guard (check1 w) Failed _ t).0

-- what set passed: the page that it names lies in memory
pub set-passed : (eid a0 a1 a2 : ℕ) (w : World) → accepted (call_answer eid fid_set a0 a1 a2 w) ≡ true → is_drop w.hart.xlen a0 a1 ≡ false
    → in_memory w.hart.xlen w.base w.memory a0 ≡ true
unfolding call_answer answer_by
set-passed eid a0 a1 a2 w t d =
    let (one, t₁) = guard (check1 w) Failed _ t in
    let (two, t₂) = guard (check2 w) NotSupported _ t₁ in
    let (three, t₃) = guard (is_call eid fid_set) NotSupported _ t₂ in
    let (five, t₄) = guard (check5 w.hart.xlen fid_set a0 a1 a2) InvalidParam _ t₃ in
    let (six, t₅) = guard (check6 w.hart.xlen w.base w.memory fid_set a0 a1) InvalidAddress _ t₄ in
    (both (eqb a1 0) (in_memory w.hart.xlen w.base w.memory a0) (rw d at six)).1

-- what SRET's checks let through: a well-made table and record, and a page that is there
pub sret-passed : (eid a0 a1 a2 : ℕ) (w : World) → accepted (call_answer eid fid_sret a0 a1 a2 w) ≡ true → (check1 w ≡ true) × (check7 w ≡ true)
unfolding call_answer answer_by
sret-passed eid a0 a1 a2 w t =
    let (one, t₁) = guard (check1 w) Failed _ t in
    let (two, t₂) = guard (check2 w) NotSupported _ t₁ in
    let (three, t₃) = guard (is_call eid fid_sret) NotSupported _ t₂ in
    let (four, t₄) = guard (feature_there w.hart.features fid_sret) NotSupported _ t₃ in
    let (seven, t₅) = guard (check7 w) NoShmem (Ok Resumed) t₄ in
    (one, seven)
