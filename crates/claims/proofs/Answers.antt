-- Demand 1: the code is that of the first check that fails, the value is 0 but for an accepted probe, and SRET alone says resumed.
use mathlib.Core.Path.{◌≡◌, refl, sym, ap}
use mathlib.Core.Bool.{Bool, true, false, cond, not, ◌&&◌, ◌||◌}
use Prim.Native.Nat.{ℕ}
use Rattle.std.specs.Prelude.{Ok, Err}
use lib.Dec.{eqb, ltb}
use lib.IntN.{ℤ, pos}
use borrow.Author.Tests.{eqb-true}
use Rattle.hart.specs.WellMade.{lines_well_made}
use Rattle.world.specs.World.{World}
use Rattle.checks.specs.declared.answer.Refusal.{Refusal}
use Rattle.checks.specs.declared.answer.Success.TheVariants.{Value, Resumed}
use Rattle.checks.specs.declared.answer.Refusal.TheVariants.{Failed, NotSupported, InvalidParam, InvalidAddress, NoShmem}
use Rattle.checks.specs.Fids.{fid_probe, fid_csr, fid_sret}
use Rattle.checks.specs.Codes.{Answer, accepted, code_of, refusal_code, is_resumed, value_of}
use Rattle.checks.specs.Checks.{answer_by, call_answer, check1, check2, check5, check6, check7, feature_there, is_call, is_sync, probed, success, sync_answer}
use Rattle.checks.proofs.Accepted.{by-fid}
use Rattle.nacl.specs.Lines.{line_answer}
use Rattle.nacl.specs.Traps.{trap_answer}
use Rattle.claims.specs.Events.{Call, Stoppable, Lines, TrapBack}
use Rattle.claims.specs.Claims.{first_code, seven_checks, value_if, CodesByTheTable, ValuesOfProbeAlone, OnlySretResumes}

-- ---- the code

-- one check more in front
code-first : (b : Bool) (r : Refusal) (x : Answer) {z : ℤ} → code_of x ≡ z → code_of (cond (not b) (Err r) x) ≡ cond b z (refusal_code r)
code-first true r x e = e
code-first false r x e = refl

success-code : (features fid a : ℕ) → code_of (success features fid a) ≡ pos 0
success-code features fid a = go (eqb fid fid_probe) (eqb fid fid_sret)
  where
    go : (p r : Bool) → code_of (cond p (Ok (Value (probed features a))) (cond r (Ok Resumed) (Ok (Value 0)))) ≡ pos 0
    go true r = refl
    go false true = refl
    go false false = refl

code_is : (three : Bool) (fid a0 a1 a2 : ℕ) (w : World) → code_of (answer_by three fid a0 a1 a2 w) ≡ first_code (seven_checks three fid a0 a1 a2 w)
unfolding answer_by
code_is three fid a0 a1 a2 w =
    code-first (check1 w) Failed _
    (code-first (check2 w) NotSupported _
    (code-first three NotSupported _
    (code-first (feature_there w.hart.features fid) NotSupported _
    (code-first (check5 w.hart.xlen fid a0 a1 a2) InvalidParam _
    (code-first (check6 w.hart.xlen w.base w.memory fid a0 a1) InvalidAddress _
    (code-first (ltb fid fid_csr || check7 w) NoShmem _ (success-code w.hart.features fid a0)))))))

pub codes-by-checks : CodesByTheTable
unfolding call_answer sync_answer line_answer trap_answer
codes-by-checks (Call eid fid a0 a1 a2) w = code_is (is_call eid fid) fid a0 a1 a2 w
codes-by-checks (Stoppable n eid fid a) w = code_is (is_sync eid fid) fid a 0 0 w
codes-by-checks (Lines lines) w = code-first (check1 w) Failed _ (code-first (lines_well_made lines) InvalidParam _ refl)
codes-by-checks (TrapBack t) w = code-first (check1 w) Failed _ (code-first w.hart.virt NotSupported _ refl)

-- ---- the value, and resumed

-- what holds of a refusal and of what follows holds behind a check
behind : (P : Answer → Type 0) (b : Bool) (r : Refusal) {x : Answer} → P (Err r) → (b ≡ true → P x) → P (cond (not b) (Err r) x)
behind P true r k f = f refl
behind P false r k f = k

-- what holds of every refusal, and of success behind check 3, holds of the answer
by-checks : (P : Answer → Type 0) (three : Bool) (fid a0 a1 a2 : ℕ) (w : World) → ((r : Refusal) → P (Err r)) → (three ≡ true → P (success w.hart.features fid a0))
    → P (answer_by three fid a0 a1 a2 w)
unfolding answer_by
by-checks P three fid a0 a1 a2 w k f =
    behind P (check1 w) Failed (k Failed) (λ t₁.
    behind P (check2 w) NotSupported (k NotSupported) (λ t₂.
    behind P three NotSupported (k NotSupported) (λ t₃.
    behind P (feature_there w.hart.features fid) NotSupported (k NotSupported) (λ t₄.
    behind P (check5 w.hart.xlen fid a0 a1 a2) InvalidParam (k InvalidParam) (λ t₅.
    behind P (check6 w.hart.xlen w.base w.memory fid a0 a1) InvalidAddress (k InvalidAddress) (λ t₆.
    behind P (ltb fid fid_csr || check7 w) NoShmem (k NoShmem) (λ t₇. f t₃)))))))

-- the value is v if accepted, else 0
abbrev Valued : ℕ → Answer → Type 0
Valued v r = value_of r ≡ cond (accepted r) v 0

pub values-are : ValuesOfProbeAlone
unfolding call_answer sync_answer line_answer trap_answer
values-are (Call eid fid a0 a1 a2) w =
    by-checks (Valued (value_if (Call eid fid a0 a1 a2) w)) (is_call eid fid) fid a0 a1 a2 w (λ r. refl) (λ t. go (eqb fid fid_probe) (eqb fid fid_sret))
  where
    v : ℕ
    v = probed w.hart.features a0

    go : (p r : Bool) → Valued (cond p v 0) (cond p (Ok (Value v)) (cond r (Ok Resumed) (Ok (Value 0))))
    go true r = refl
    go false true = refl
    go false false = refl
values-are (Stoppable n eid fid a) w =
    by-checks (Valued 0) (is_sync eid fid) fid a 0 0 w (λ r. refl)
    (λ t. by-fid (λ (f : ℕ). Valued 0 (success w.hart.features f a)) eid fid t refl refl)
values-are (Lines lines) w =
    behind (Valued 0) (check1 w) Failed refl (λ t. behind (Valued 0) (lines_well_made lines) InvalidParam refl (λ k. refl))
values-are (TrapBack t) w = behind (Valued 0) (check1 w) Failed refl (λ o. behind (Valued 0) w.hart.virt NotSupported refl (λ k. refl))

-- it does not say resumed, accepted or not
abbrev Silent : Answer → Type 0
Silent r = is_resumed r ≡ (accepted r && false)

pub resumes-only-sret : OnlySretResumes
unfolding call_answer sync_answer line_answer trap_answer
resumes-only-sret (Call eid fid a0 a1 a2) w =
    by-checks Says (is_call eid fid) fid a0 a1 a2 w
    (λ r. refl)
    (λ t. go (eqb fid fid_probe) (eqb fid fid_sret) refl refl)
  where
    Says : Answer → Type 0
    Says r = is_resumed r ≡ (accepted r && eqb fid fid_sret)

    v : ℕ
    v = probed w.hart.features a0

    go : (p r : Bool) → eqb fid fid_probe ≡ p → eqb fid fid_sret ≡ r → Says (cond p (Ok (Value v)) (cond r (Ok Resumed) (Ok (Value 0))))
    go true r e k = ap (λ (f : ℕ). eqb f fid_sret) (sym (eqb-true fid fid_probe e))
    go false true e k = sym k
    go false false e k = sym k
resumes-only-sret (Stoppable n eid fid a) w =
    by-checks Silent (is_sync eid fid) fid a 0 0 w (λ r. refl) (λ t. by-fid (λ (f : ℕ). Silent (success w.hart.features f a)) eid fid t refl refl)
resumes-only-sret (Lines lines) w = behind Silent (check1 w) Failed refl (λ t. behind Silent (lines_well_made lines) InvalidParam refl (λ k. refl))
resumes-only-sret (TrapBack t) w = behind Silent (check1 w) Failed refl (λ o. behind Silent w.hart.virt NotSupported refl (λ k. refl))
