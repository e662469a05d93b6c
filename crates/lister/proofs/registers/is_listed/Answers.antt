-- `is_listed` meets its contract: of a register that is not dirty it is not asked whether the width has it.
use mathlib.Core.Path.{◌≡◌, refl, sym, ◌∙◌}
use mathlib.Core.Bool.{Bool, true, false, ◌&&◌}
use Rattle.csr.specs.Csrs.{at_turn}
use Rattle.page.proofs.Places.{dirty-is}
use Rattle.lister.proofs.registers.is_listed.Goals as goal

-- a test, and a second one that holds, or does not
and-true : (b : Bool) → b ≡ b && true
and-true true = refl
and-true false = refl

and-false : (b : Bool) {r d : Bool} → r ≡ d → r ≡ false → r ≡ b && d
and-false true e f = e
and-false false e f = f

pub returns-then-is_dirty : goal.returns-then-is_dirty
returns-then-is_dirty c = let a = c.args in
    rw (sym (dirty-is (at_turn a.t) a.image.now c.index.ensures.0 c.is_dirty.ensures) ∙ c.if-is_dirty.true) (c.requires.1 ∙ and-true _)

pub returns-else-is_dirty : goal.returns-else-is_dirty
returns-else-is_dirty c = let a = c.args in
    and-false _ (dirty-is (at_turn a.t) a.image.now c.index.ensures.0 c.is_dirty.ensures) c.if-is_dirty.false
