-- `put_lines` meets its contract: the lines of the pending entries passed are put, and none between them is Pending.
use mathlib.Core.Path.{◌≡◌}
use mathlib.Core.Bool.{true}
use mathlib.Core.List.{List}
use Prim.Native.Nat.{ℕ, ◌-◌, ◌≤◌, ◌<◌}
use Rattle.layout.specs.declared.xlen.Xlen.{Xlen}
use Rattle.text.specs.declared.Buffer.{Buffer}
use Rattle.page.specs.Entries.{every_entry, is_pending}
use Rattle.lister.specs.Listing.{fence_line}
use Rattle.lister.proofs.Passing.{Passed}
use Rattle.lister.proofs.entries.put_lines.Given as goal

-- the lines of the pending entries before entry e are put
abbrev pub Before : Xlen → List ℕ → Buffer ℕ → Buffer ℕ → ℕ → ℕ → Type 0
Before x image out₀ out count e = Passed (is_pending x image) (fence_line x image) (every_entry x) out₀ e out count

-- and entry e is the next one, if it is not the end
pub record Found (x : Xlen) (image : List ℕ) (out₀ : Buffer ℕ) (end : ℕ) (out : Buffer ℕ) (count e : ℕ) : Type 0 where
  pub before : Before x image out₀ out count e
  pub within : e ≤ end
  pub pending : e < end → is_pending x image e ≡ true

abbrev pub invariant-loop-e : goal.invariant-loop-e
invariant-loop-e l = Found l.x l.image l.initial.out l.end l.out l.count l.e

abbrev pub decreases-loop-e : goal.decreases-loop-e
decreases-loop-e l = l.end - l.e
