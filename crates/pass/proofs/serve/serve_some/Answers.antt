-- `serve_some` meets its contract: the pass and the clearing are the turns of all entries.
use native.Mathlib.Omega.{arith}
use Rattle.pass.proofs.GatherLaws.{few}
use Rattle.pass.proofs.PassLaws.{all-served}
use Rattle.pass.proofs.serve.serve_some.Goals as goal

pub overflow_add-result : goal.overflow_add-result
overflow_add-result c = record { fits = omega (arith, (all-served _ _ _ c.requires.0 c.requires.2 _ _ c.sweep_slots-removed.ensures.0 c.sweep_slots-removed.ensures.1 c.clear-cleared.ensures.0 c.clear-cleared.ensures.1).few, few c.args.x) }

pub returns : goal.returns
returns c = all-served _ _ _ c.requires.0 c.requires.2 _ _ c.sweep_slots-removed.ensures.0 c.sweep_slots-removed.ensures.1 c.clear-cleared.ensures.0 c.clear-cleared.ensures.1
