-- `nacl::lines::store_words` meets its contract: the words are stored in the page's part of memory.
use Prim.Native.Nat.{◌+◌, ◌-◌}
use mathlib.Core.List.{[], ◌∷◌}
use mathlib.Core.Path.{refl}
use native.Mathlib.Omega.{arith}
use Rattle.csr.specs.Csrs.{Hgeip, Hip, Vsip}
use Rattle.turns.specs.Clean.{store_clean_words}
use Rattle.nacl.proofs.Outcomes.{on-page}
use Rattle.nacl.proofs.lines.store_words.Goals as goal

pub returns : goal.returns
returns c table = let a = c.args in
    let x = a.h.now.xlen in
    on-page x (store_clean_words x (Hgeip ∷ Hip ∷ Vsip ∷ [])) a.at (a.at + c.page_size.result - a.at) a.h.now a.memory.now table
    (omega (arith, c.page_size.ensures))
    (c.store_words.ensures a.h.now table refl refl refl)
