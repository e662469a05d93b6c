-- `registers::write` meets its contract: two stores are all.
use mathlib.Core.Path.{◌∙◌}
use Rattle.hypervisor.proofs.RegisterStores.{all_two}
use Rattle.hypervisor.proofs.registers.write.Goals as goal

pub returns : goal.returns
returns c = let s = c.args in
    record { answer = c.write_for.ensures.answer; page = c.write_for.ensures.page ∙ all_two s.x s.number s.value s.page.now }
