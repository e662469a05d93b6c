-- `sync::registers::store_words` meets its contract: (C), the first follower's store and the second's, as far as steps are allowed.
use mathlib.Core.Path.{refl}
use Rattle.csr.proofs.Turns.{no-followers}
use Rattle.sync.proofs.TurnParts.{words-halt, words-alone, words-halt-first, words-join}
use Rattle.sync.proofs.registers.store_words.Goals as goal

pub returns-in_err-left : goal.returns-in_err-left
returns-in_err-left c table = rw c.from_residual.ensures (words-halt c.args.h.now.xlen c.args.t c.requires.1 (c.in_err-left.ensures table) refl)

pub returns-then-t-gt-VSIP : goal.returns-then-t-gt-VSIP
returns-then-t-gt-VSIP c table = words-alone c.args.h.now.xlen c.args.t c.requires.1 (c.in_ok-left.ensures table) (no-followers c.args.t c.if-t-gt-VSIP.true)

pub returns-in_err-left-2 : goal.returns-in_err-left-2
returns-in_err-left-2 c table =
    rw c.from_residual-in_err-left-2.ensures (words-halt-first c.args.h.now.xlen c.args.t c.requires.1 (c.in_ok-left.ensures table) refl c.first_follower.ensures (c.in_err-left-2.ensures table) refl)

pub returns : goal.returns
returns c table = words-join c.args.h.now.xlen c.args.t c.requires.1 (c.in_ok-left.ensures table) refl c.first_follower.ensures (c.in_ok-left-2.ensures table) refl
    c.second_follower.ensures (c.store_follower-2.ensures table)
