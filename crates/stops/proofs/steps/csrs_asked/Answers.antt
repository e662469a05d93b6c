-- `stops::steps::csrs_asked` meets its contract: all registers, the one that was found, or none.
use Rattle.std.specs.Prelude.{Option, ℕ}
use mathlib.Core.Path.{◌≡◌, sym, ap, ◌∙◌}
use Prim.Native.Nat.{◌+◌, ◌-◌}
use mathlib.Core.List.{map}
use native.Mathlib.Omega.{arith}
use borrow.Author.Tests.{ne_eqb}
use Rattle.csr.proofs.Turns.{lookup-found, lookup-had}
use Rattle.turns.specs.Marks.{Dirty}
use Rattle.sync.specs.Turns.{dirty_at_turn, marks_from}
use Rattle.sync.proofs.AllMarks.{one-csr}
use Rattle.stops.specs.Sync.{found_one}
use Rattle.stops.proofs.steps.csrs_asked.Goals as goal

pub returns-in-Some : goal.returns-in-Some
returns-in-Some c = let o = c.all_ones in
    let a = c.args in
    let found = sym c.of_number.ensures ∙ c.in-Some.is in
    let one : c.in-Some.t + 1 - c.in-Some.t ≡ 1 = omega arith in (
      ap (marks_from (dirty_at_turn a.x) c.in-Some.t) one ∙ one-csr a.x c.in-Some.t (lookup-had a.x a.a c.in-Some.t found)
          ∙ rw (← o.ensures, ne_eqb _ o.result c.if-a-all_ones.false) (sym (ap (λ (c : Option ℕ). map Dirty (found_one c)) found)),
      omega arith,
      omega (arith, (lookup-found a.x a.a c.in-Some.t found).0),
    )
