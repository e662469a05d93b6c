-- `sret::resume::load_context` meets its contract. The loop's invariant: X0 is 0, and the registers before Xi are loaded.
use Rattle.sret.proofs.ContextLaws.{Loaded}
use Rattle.sret.proofs.resume.load_context.Given as goal

abbrev pub invariant-loop-i : goal.invariant-loop-i
invariant-loop-i l = Loaded l.xlen l.page l.x l.i
