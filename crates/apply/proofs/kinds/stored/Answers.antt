-- `apply::kinds::stored` meets its contract: the store's effect leaves every hart as it is and says nothing.
use Rattle.apply.proofs.EffectLaws.{has-stored, quiet-stored}
use Rattle.apply.proofs.kinds.stored.Goals as goal

pub returns : goal.returns
returns c = let a = c.args in
    record {
      has = has-stored (c.store.ensures a.h) c.plain.ensures;
      told_value = (c.plain.ensures.4, quiet-stored (c.store.ensures a.h));
    }
