-- `hart::well_made::leaves` meets its contract: an arm's turn is its register's, the last is vsatp's, and the others are tested by their mask.
use Rattle.csr.proofs.Table.{at_turn-last}
use Rattle.hart.proofs.Arms.{leaves-hstatus, leaves-hgatp, leaves-vsstatus, leaves-vstvec, leaves-vsatp, leaves-masked}
use Rattle.hart.proofs.well_made.leaves.Goals as goal

pub returns-in-0 : goal.returns-in-0
returns-in-0 c = rw (c.in-0.is, c.legal_hstatus.ensures, leaves-hstatus)

pub returns-in-17 : goal.returns-in-17
returns-in-17 c = rw (c.in-17.is, c.legal_hgatp.ensures, leaves-hgatp)

pub returns-in-18 : goal.returns-in-18
returns-in-18 c = rw (c.in-18.is, c.legal_vsstatus.ensures, leaves-vsstatus)

pub returns-in-19 : goal.returns-in-19
returns-in-19 c = rw (c.in-19.is, c.legal_vstvec.ensures, leaves-vstvec)

pub returns-in-1-to-23 : goal.returns-in-1-to-23
returns-in-1-to-23 c = rw c.mask.ensures (leaves-masked _ _ _ c.in-1-to-23.if-t-lt24-own.true c.in-1-to-23.in_default-own.rest)

pub returns-in_default : goal.returns-in_default
returns-in_default c = rw (at_turn-last _ c.in_default.if-t-lt24-own.false, c.legal_vsatp.ensures, leaves-vsatp)
