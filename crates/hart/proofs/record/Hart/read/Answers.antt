-- `hart::record::Hart::read` meets its contract: an arm's turn is its register's, and the others are stored at their place.
use Rattle.std.proofs.Common.{inl, inr, arith}
use Rattle.csr.proofs.Table.{NoneOf}
use Rattle.hart.proofs.Arms.{read_arms, read-stored, read-place}
use Rattle.hart.proofs.record.Hart.read.Goals as goal

pub bounds-self-place : goal.bounds-self-place
bounds-self-place c =
    let r = c.in_default.in_default-own.rest in
    let others : NoneOf read_arms c.args.t = ((r.0, λ e. r.1 (inl e)), λ e. r.1 (inr e)) in
    rw c.place.ensures (omega (arith, read-place _ others))

pub returns-in_default : goal.returns-in_default
returns-in_default c =
    let r = c.in_default.in_default-own.rest in
    let others : NoneOf read_arms c.args.t = ((r.0, λ e. r.1 (inl e)), λ e. r.1 (inr e)) in
    rw c.place.ensures (read-stored _ _ _ others)
