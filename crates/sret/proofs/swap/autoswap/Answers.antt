-- `sret::swap::autoswap` meets its contract: hstatus and the swap word are exchanged, or nothing is.
use Rattle.sret.proofs.Order.{swap-made, swap-left}
use Rattle.sret.proofs.Said.{swap-said, swap-silent}
use borrow.Author.Tests.{not-true, not-false}
use Rattle.sret.proofs.swap.autoswap.Goals as goal

pub returns-then-not-is_swapped : goal.returns-then-not-is_swapped
returns-then-not-is_swapped c = let a = c.args in (
  λ table. swap-left a.h.xlen a.h a.page.now table c.is_swapped.ensures (not-true _ c.if-not-is_swapped.true-raw),
  λ table. swap-silent a.h.xlen a.h a.page.now table c.is_swapped.ensures (not-true _ c.if-not-is_swapped.true-raw) a.told.now,
)

pub returns : goal.returns
returns c = let a = c.args in (
  λ table. swap-made a.h.xlen a.h a.page.now table c.is_swapped.ensures (not-false _ c.if-not-is_swapped.false-raw) c.read-old.ensures c.swap_at-at.ensures
      c.word_at-new.ensures c.put_word.ensures c.write_hstatus-hart.ensures,
  λ table. swap-said a.h.xlen a.h a.page.now table c.is_swapped.ensures (not-false _ c.if-not-is_swapped.false-raw) c.swap_at-at.ensures c.word_at-new.ensures
      c.write_hstatus-hart.ensures c.number.ensures c.read.ensures c.put.ensures,
)
