-- `hart::record::Hart::change` meets its contract: an arm's turn is its register's, whose method changes that place alone, those of the masks
-- their own; hgeip's and henvcfgh's change none; the last is vsatp's.
use mathlib.Core.Path.{ap, ◌∙◌}
use lib.Bits.{bit_and}
use lib.Dec.{lit<}
use Rattle.csr.specs.Csrs.{Vsatp}
use Rattle.csr.proofs.Table.{at_turn-last}
use Rattle.hart.specs.Record.{with_csrs}
use Rattle.hart.proofs.Arms.{masked-place, write-masked, put_back}
use Rattle.hart.proofs.Rules.{set_back, one_place}
use Rattle.hart.proofs.record.Hart.change.Goals as goal

pub at-requires-in-2-to-5 : goal.at-requires-in-2-to-5
at-requires-in-2-to-5 c = rw c.place-place.ensures (masked-place _ c.in-2-to-5.if-t-lt24-own.true c.in-2-to-5.in_default-own.rest)

pub returns-in-2-to-5 : goal.returns-in-2-to-5
returns-in-2-to-5 c = let a = c.args in
    let x = bit_and a.v c.mask.result in
    let e = write-masked a.t c.in-2-to-5.if-t-lt24-own.true c.in-2-to-5.in_default-own.rest a.self.now.xlen a.v a.self.now.csrs in
    let put = put_back a.self.now (set_back a.self.now.csrs c.place-place.result x) (rw c.place-place.ensures (masked-place _ c.in-2-to-5.if-t-lt24-own.true c.in-2-to-5.in_default-own.rest)) c.write_masked.ensures c.at-in-2-to-5.ensures in
    (put.0, put.1 ∙ ap (with_csrs a.self.now) (rw (c.place-place.ensures, c.mask.ensures) e))

pub returns-in_default : goal.returns-in_default
returns-in_default c = let a = c.args in
    rw (at_turn-last _ c.in_default.if-t-lt24-own.false)
    (put_back a.self.now (one_place a.self.now.xlen Vsatp a.v a.self.now.csrs) (lit< tt) c.write_vsatp.ensures c.at-in_default.ensures)
