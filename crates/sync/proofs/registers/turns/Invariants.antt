-- `sync::registers::turns` meets its contract: the turns of the registers passed are made, no step was left, and what they said stands in the
-- buffer.
use mathlib.Core.Bool.{false}
use mathlib.Core.List.{List}
use mathlib.Core.Path.{◌≡◌}
use Prim.Native.Nat.{ℕ, ◌+◌, ◌-◌, ◌*◌, ◌≤◌}
use Rattle.text.specs.declared.Buffer.{Buffer}
use Rattle.hart.specs.declared.record.Hart.{Hart}
use Rattle.page.specs.Registers.{IsPage}
use Rattle.world.specs.State.{state_from}
use Rattle.turns.specs.Steps.{steps, Made}
use Rattle.sync.specs.Turns.{dirty_at_turn, marks_from}
use Rattle.sync.proofs.Spoken.{Said}
use Rattle.sync.proofs.registers.turns.Given as goal

-- of k registers from turn `first` on
pub record Passed (h₀ : Hart) (page₀ : List ℕ) (told₀ : Buffer ℕ) (first limit k : ℕ) (h : Hart) (page : List ℕ) (left : ℕ) (told : Buffer ℕ) : Type 0 where
  pub width : h.xlen ≡ h₀.xlen
  pub whole : IsPage h₀.xlen page
  pub few : told.at ≤ told₀.at + 2 * k
  pub made : (table : List ℕ) → Made h₀.xlen (steps h₀.xlen (marks_from (dirty_at_turn h₀.xlen) first k) (state_from h₀ page₀ table))
      (state_from h₀ page₀ table) limit (state_from h page table) left false
  pub said : (table : List ℕ) → Said h₀.xlen (dirty_at_turn h₀.xlen) first k (state_from h₀ page₀ table) limit told₀ told

abbrev pub invariant-loop-t : goal.invariant-loop-t
invariant-loop-t l = Passed l.fn.h l.fn.page l.fn.told l.first l.limit (l.t - l.first) l.hart l.page l.left l.told
