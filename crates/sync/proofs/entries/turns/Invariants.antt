-- `turns` meets its contract: the entries passed are dealt with, and the progress is what they left. Those between two pending ones have
-- no step.
use mathlib.Core.Path.{◌≡◌}
use mathlib.Core.Bool.{Bool, false}
use mathlib.Core.List.{List}
use Prim.Native.Nat.{ℕ, ◌-◌, ◌≤◌}
use lib.ListN.{length}
use Rattle.layout.specs.declared.xlen.Xlen.{Xlen}
use Rattle.hart.specs.declared.record.Hart.{Hart}
use Rattle.page.specs.Registers.{IsPage}
use Rattle.world.specs.State.{state_from}
use Rattle.turns.specs.Steps.{steps, Made}
use Rattle.sync.specs.Turns.{pending_at, marks_from}
use Rattle.sync.proofs.entries.turns.Given as goal

-- of i entries from `first` on the turns are made as far as steps are allowed
abbrev pub Turned : Xlen → List ℕ → List ℕ → ℕ → ℕ → ℕ → List ℕ → List ℕ → ℕ → Bool → Type 0
Turned x page₀ table₀ first i limit page table left stopped =
    (h : Hart) → Made x (steps x (marks_from pending_at first i) (state_from h page₀ table₀)) (state_from h page₀ table₀) limit (state_from h page table) left stopped

-- before entry e: the turns of the entries before it are made, no step was left, and `left` more are allowed
pub record Passed (x : Xlen) (page₀ table₀ : List ℕ) (first limit end : ℕ) (page table : List ℕ) (left e : ℕ) : Type 0 where
  pub from : first ≤ e
  pub within : e ≤ end
  pub whole : IsPage x page
  pub size : length table ≡ length table₀
  pub made : Turned x page₀ table₀ first (e - first) limit page table left false

abbrev pub invariant-loop-e : goal.invariant-loop-e
invariant-loop-e l = Passed l.x l.initial.page l.initial.table l.first l.limit l.end l.page l.table l.left l.e

abbrev pub decreases-loop-e : goal.decreases-loop-e
decreases-loop-e l = l.end - l.e
