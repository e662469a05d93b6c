-- `apply::kinds::trap` meets its contract: nacl takes the trap that the body tells.
use Rattle.world.specs.World.{lent}
use Rattle.apply.specs.Effects.{memory_base}
use Rattle.apply.proofs.EffectLaws.{has-trap}
use Rattle.apply.proofs.kinds.trap.Goals as goal

pub returns-clause-has : goal.returns-clause-has
returns-clause-has c =
    let a = c.args in
    rw (← c.word.ensures, ← c.word-2.ensures, ← c.word-3.ensures, ← c.word-4.ensures, ← c.word-5.ensures)
    (has-trap (lent a.h memory_base a.memory.now a.table.now) _ _ c.plain.ensures c.trap-done.ensures)

pub returns-clause-wrote : goal.returns-clause-wrote
returns-clause-wrote c =
    rw (← c.word.ensures, ← c.word-2.ensures, ← c.word-3.ensures, ← c.word-4.ensures, ← c.word-5.ensures) c.trap-done.ensures.told
