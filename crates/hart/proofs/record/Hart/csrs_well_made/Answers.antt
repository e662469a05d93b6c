-- `hart::record::Hart::csrs_well_made` meets its contract: each stored register has its test.
use mathlib.Core.Bool.{true}
use Rattle.hart.specs.Stored.{stored}
use Rattle.hart.proofs.Arms.{left_and-is}
use Rattle.hart.proofs.record.Hart.csrs_well_made.Goals as goal

pub returns : goal.returns
returns c = rw (
  c.leaves.ensures,
  c.leaves-2.ensures,
  c.leaves-3.ensures,
  c.leaves-4.ensures,
  c.leaves-5.ensures,
  c.leaves-6.ensures,
  c.leaves-7.ensures,
  c.leaves-8.ensures,
  c.leaves-9.ensures,
  c.leaves-10.ensures,
  c.leaves-11.ensures,
  c.leaves-12.ensures,
  c.leaves-13.ensures,
  c.leaves-14.ensures,
  c.leaves-15.ensures,
  c.leaves-16.ensures,
  c.leaves-17.ensures,
  c.leaves-18.ensures,
  c.leaves-19.ensures,
  c.leaves-20.ensures,
)
    (left_and-is c.args.self.now.xlen true stored c.args.self.now.csrs)
