-- `stops::steps::serve_registers` meets its contract: the turns asked for run on the page's part of memory.
use Prim.Native.Nat.{◌+◌, ◌-◌}
use native.Mathlib.Omega.{arith}
use Rattle.stops.proofs.Reports.{served-at, told_at}
use Rattle.stops.proofs.steps.serve_registers.Goals as goal

pub returns : goal.returns
returns c = let a = c.args in (
  λ table. served-at a.h.xlen _ _ a.at a.limit (a.at + c.page_size.result - a.at) a.h a.memory.now table (omega (arith, c.page_size.ensures))
      (rw c.len.ensures.value c.csrs_asked-asked.ensures.0) (c.turns.ensures.0 table),
  λ table. told_at a.h.xlen _ _ a.at a.limit (a.at + c.page_size.result - a.at) a.h a.memory.now table (omega (arith, c.page_size.ensures))
      (rw c.len.ensures.value c.csrs_asked-asked.ensures.0) (c.turns.ensures.1 table),
)
