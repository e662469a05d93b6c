-- `sync::clean::store_trap_words` meets its contract: the words one after the other.
use mathlib.Core.List.{[], ◌∷◌}
use mathlib.Core.Path.{refl}
use Rattle.csr.specs.Csrs.{Hstatus, Htval, Htinst, Hip, Vsip}
use Rattle.turns.specs.Clean.{trap_words}
use Rattle.sync.proofs.CleanLaws.{two-and-others, clean-of}
use Rattle.sync.proofs.clean.store_trap_words.Goals as goal

pub returns : goal.returns
returns c k table fs cs ls = let a = c.args in
    let h = a.h.now in
    clean-of h.xlen trap_words h k a.page.now table fs cs ls
    (two-and-others h.xlen Hstatus Htval (Htinst ∷ Hip ∷ Vsip ∷ []) h a.page.now table (c.store_clean.ensures table) (c.store_clean-2.ensures table)
    (c.store_words.ensures h table refl refl refl))
