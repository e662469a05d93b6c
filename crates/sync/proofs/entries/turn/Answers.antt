-- `turn` meets its contract: an entry that is not Pending has no step; of one that is, the removals are made that are allowed, and the
-- end if one more is.
use mathlib.Core.Path.{◌≡◌, sym, ◌∙◌}
use mathlib.Core.Bool.{true, false}
use mathlib.Core.List.{List}
use Prim.Native.Nat.{ℕ, ◌-◌, ◌<◌, ◌≤◌, min}
use native.Mathlib.Omega.{arith}
use lib.ListN.{length, take}
use borrow.Author.Tests.{not-true, not-false}
use Rattle.layout.specs.declared.xlen.Xlen.{Xlen}
use Rattle.fence.specs.declared.entry.Fence.{Fence}
use Rattle.fence.specs.Table.{remove_slots, named}
use Rattle.page.specs.Entries.{is_pending, fence_at, clear_entry}
use Rattle.world.specs.State.{State, state_from}
use Rattle.turns.specs.Steps.{entry_steps, Made}
use Rattle.turns.proofs.FenceSteps.{turn-idle, turn-over, turn-done}
use Rattle.sync.proofs.entries.turn.Goals as goal

module _ (x : Xlen) (e : ℕ) (s : State) (n : ℕ) (h : is_pending x s.page e ≡ true) {f : Fence} (same : f ≡ fence_at x s.page e) {u : List ℕ} {k : ℕ}
    (r : (u ≡ remove_slots s.table (take n (named f s.table))) × (k ≡ min n (length (named f s.table)))) where
  -- as many were removed as are allowed
  over-at : n ≤ k → Made x (entry_steps x e s) s n (state_from s.hart s.page u) 0 true
  over-at full =
      let m = rw same at r.1 in
      rw (r.0, same) (turn-over x e s n h (omega arith))

  -- more are allowed
  done_at : {p : List ℕ} → k < n → p ≡ clear_entry x e s.page → Made x (entry_steps x e s) s n (state_from s.hart p u) (n - k - 1) false
  done_at more clear =
      let m = rw same at r.1 in
      let all : k ≡ length (named (fence_at x s.page e) s.table) = omega arith in
      rw (r.0, clear, all, same) (turn-done x e s n h (omega arith))

pub returns-then-not-is_pending : goal.returns-then-not-is_pending
returns-then-not-is_pending c = λ h. turn-idle _ _ _ _ (sym c.is_pending.ensures ∙ not-true _ c.if-not-is_pending.true-raw)

pub returns-in_err-left : goal.returns-in_err-left
returns-in_err-left c h =
    rw c.from_residual.ensures
    (over-at _ _ (state_from h _ _) _ (sym c.is_pending.ensures ∙ not-false _ c.if-not-is_pending.false-raw) c.fence_at.ensures (c.remove_first-removed.ensures.table_after, c.remove_first-removed.ensures.value)
    (omega (arith, c.in_err-left.ensures)))

pub returns : goal.returns
returns c h =
    rw c.in_ok-left.ensures.1
    (done_at _ _ (state_from h _ _) _ (sym c.is_pending.ensures ∙ not-false _ c.if-not-is_pending.false-raw) c.fence_at.ensures (c.remove_first-removed.ensures.table_after, c.remove_first-removed.ensures.value)
    (omega (arith, c.in_ok-left.ensures.0)) c.clear_pending.ensures)
