-- `scan` meets its contract: no entry passed is Pending.
use Rattle.std.proofs.Common.{◌≡◌, ℕ, ◌≤◌, ◌<◌, false}
use Rattle.page.specs.Entries.{is_pending}
use Rattle.page.proofs.entries.scan.Given as goal

abbrev pub invariant-loop-i : goal.invariant-loop-i
invariant-loop-i l = (k : ℕ) → l.e ≤ k → k < l.i → is_pending l.x l.page k ≡ false
