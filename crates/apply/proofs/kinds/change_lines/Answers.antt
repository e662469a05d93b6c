-- `apply::kinds::change_lines` meets its contract: nacl makes the line change that the body tells.
use Rattle.world.specs.World.{lent}
use Rattle.apply.specs.Effects.{memory_base}
use Rattle.apply.proofs.EffectLaws.{has-lines}
use Rattle.apply.proofs.kinds.change_lines.Goals as goal

pub returns : goal.returns
returns c = let a = c.args in record {
  has = rw (← c.word.ensures) (has-lines (lent a.h memory_base a.memory.now a.table.now) c.plain.ensures c.word.result c.change-done.ensures);
  told_value = c.plain.ensures.4;
}
