-- `apply::kinds::apply` meets its contract: a body of a good length is as long as its kind wants, and each arm's function has that kind's effect.
use mathlib.Core.Path.{refl}
use Rattle.apply.specs.Effects.{effect}
use Rattle.apply.proofs.EffectLaws.{untold}
use Rattle.apply.proofs.Lengths.{call_length, lines-length, trap-length}
use Rattle.apply.proofs.kinds.apply.Goals as goal

pub call-requires : goal.call-requires
call-requires c = call_length _ _ c.requires c.in-Call.is

pub change_lines-requires : goal.change_lines-requires
change_lines-requires c = lines-length _ _ c.requires c.in-Lines.is

pub trap-requires : goal.trap-requires
trap-requires c = trap-length _ _ c.requires c.in-Trap.is

pub returns-in-Call : goal.returns-in-Call
unfolding effect
returns-in-Call c = let e = c.in-Call.is in
    record {
      has = rw e c.call.ensures.has;
      wrote = rw e c.call.ensures.wrote;
    }

pub returns-in-Write : goal.returns-in-Write
returns-in-Write c = let t = c.stored.ensures.told_value in
    record {
      has = c.stored.ensures.has;
      wrote = untold _ t.1 t.0;
    }

pub returns-in-Lines : goal.returns-in-Lines
unfolding effect
returns-in-Lines c = let e = c.in-Lines.is in
    record {
      has = rw e c.change_lines.ensures.has;
      wrote = rw e (untold _ refl c.change_lines.ensures.told_value);
    }

pub returns-in-Trap : goal.returns-in-Trap
unfolding effect
returns-in-Trap c = let e = c.in-Trap.is in
    record {
      has = rw e c.trap.ensures.has;
      wrote = rw e c.trap.ensures.wrote;
    }
