-- `sync::clean::store_clean` meets its contract: a clean word gets the reading, any other stays.
use borrow.Author.Tests.{not-true, not-false}
use Rattle.csr.specs.Csrs.{at_turn}
use Rattle.sync.proofs.CleanLaws.{clean-stored, unclean-left}
use Rattle.sync.proofs.clean.store_clean.Goals as goal

pub returns-then-not-is_unclean : goal.returns-then-not-is_unclean
returns-then-not-is_unclean c table = let a = c.args in
    clean-stored (at_turn a.t) a.h.now a.page.now table (c.is_unclean.ensures _ c.index-i.ensures.0) (not-true _ c.if-not-is_unclean.true-raw) c.store.ensures

pub returns-else-not-is_unclean : goal.returns-else-not-is_unclean
returns-else-not-is_unclean c table = let a = c.args in
    unclean-left (at_turn a.t) a.h.now a.page.now table (c.is_unclean.ensures _ c.index-i.ensures.0) (not-false _ c.if-not-is_unclean.false-raw)
