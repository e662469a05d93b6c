-- Entries that are not Pending are passed over: they have no step.
use mathlib.Core.Path.{◌≡◌, refl, subst}
use mathlib.Core.Bool.{false}
use Prim.Native.Nat.{ℕ, zero, suc, ◌+◌, ◌-◌, ◌<◌, ◌≤◌}
use native.Mathlib.Nat.{add-zero}
use native.Mathlib.Omega.{arith}
use Rattle.layout.specs.declared.xlen.Xlen.{Xlen}
use Rattle.page.specs.Registers.{IsPage}
use Rattle.page.specs.Entries.{is_pending, NextPending}
use Rattle.world.specs.State.{State}
use Rattle.turns.specs.Marks.{Pending}
use Rattle.turns.specs.Steps.{steps, Made}
use Rattle.turns.proofs.FenceSteps.{turn-idle}
use Rattle.sync.specs.Turns.{pending_at, marks_from}
use Rattle.sync.proofs.Loops.{one_more}

-- the turns of i entries from entry k on left s' and l more steps, and none was left
abbrev pub Went : Xlen → ℕ → ℕ → State → ℕ → State → ℕ → Type 0
Went x k i s n s' l = Made x (steps x (marks_from pending_at k i) s) s n s' l false

module _ (x : Xlen) (k : ℕ) {s s' : State} {n l : ℕ} (g : IsPage x s.page) where
  -- m entries more, none of them Pending
  idle-more : (m i : ℕ) → Went x k i s n s' l → ((e : ℕ) → k + i ≤ e → e < k + i + m → is_pending x s'.page e ≡ false) → Went x k (i + m) s n s' l
  idle-more zero i a idle = rw add-zero a
  idle-more (suc m) i a idle =
      let same : i + 1 + m ≡ i + suc m = omega arith in
      subst (λ (j : ℕ). Went x k j s n s' l) same
      (idle-more m (i + 1) (one_more x pending_at k i a (Pending (k + i)) refl g refl (turn-idle x (k + i) s' l (idle (k + i) (omega arith) (omega arith))))
      (λ e le less. idle e (omega arith) (omega arith)))

  -- up to the next pending entry
  pub to-next : (i : ℕ) {e end r : ℕ} → e ≡ k + i → Went x k i s n s' l → NextPending x s'.page e end r → Went x k (r - k) s n s' l
  to-next i {e} {end} {r} at a next =
      let from = next.from in
      let same : i + (r - (k + i)) ≡ r - k = omega arith in
      subst (λ (j : ℕ). Went x k j s n s' l) same
      (idle-more (r - (k + i)) i a (λ d le less. next.passed d (omega arith) (omega arith)))
