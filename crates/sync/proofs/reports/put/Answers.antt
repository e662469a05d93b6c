-- `sync::reports::put` meets its contract: nothing, or two words one after the other.
use mathlib.Core.Path.{◌≡◌}
use native.Mathlib.Omega.{arith}
use borrow.Author.Tests.{ne_eqb}
use Rattle.text.proofs.Puts.{put-nothing, ◌then◌}
use Rattle.sync.proofs.reports.put.Goals as goal

pub returns-then-bits-gt0 : goal.returns-then-bits-gt0
returns-then-bits-gt0 c = rw (ne_eqb c.args.bits 0 (λ z. absurd (omega (arith, z)))) (c.put.ensures then c.put-then-bits-gt0.ensures)

pub returns-else-bits-gt0 : goal.returns-else-bits-gt0
returns-else-bits-gt0 c =
    let none : c.args.bits ≡ 0 = omega arith in
    rw none (put-nothing c.args.told.now)
