-- `sync::clean::store_words` meets its contract: the three words one after the other.
use mathlib.Core.List.{[], ◌∷◌}
use Rattle.csr.specs.Csrs.{Hip, Vsip, at_turn}
use Rattle.sync.proofs.CleanLaws.{three-stored, clean-of}
use Rattle.sync.proofs.clean.store_words.Goals as goal

pub returns : goal.returns
returns c k table fs cs ls = let a = c.args in
    let h = a.h.now in
    clean-of h.xlen (at_turn a.first ∷ Hip ∷ Vsip ∷ []) h k a.page.now table fs cs ls
    (three-stored h.xlen (at_turn a.first) Hip Vsip h a.page.now table (c.store_clean.ensures table) (c.store_clean-2.ensures table) (c.store_clean-3.ensures table))
