-- `store` meets its contract. The loop's invariant: the words before word i are stored. The measure is how many are left.
use mathlib.Core.Path.{refl, ap, ◌∙◌}
use native.Mathlib.Omega.{arith}
use lib.ListN.{length}
use Rattle.layout.specs.Width.{bytes}
use Rattle.layout.proofs.WordLaws.{length-put}
use Rattle.hypervisor.proofs.ContextStores.{context-fits, storing-none, storing-next, storing-all}
use Rattle.hypervisor.proofs.context.store.Goals as goal

pub context_at-requires : goal.context_at-requires
context_at-requires c = omega arith

pub put_word-requires : goal.put_word-requires
put_word-requires c = omega (arith, c.context_at.ensures, c.requires.0, context-fits c.args.x 0 (omega arith))

pub loop-i-init : goal.loop-i-init
loop-i-init c = let s = c.args in
    storing-none s.x s.words.now _

pub context_at-requires-in-loop-i : goal.context_at-requires-in-loop-i
context_at-requires-in-loop-i c = omega arith

pub put_word-requires-in-loop-i : goal.put_word-requires-in-loop-i
put_word-requires-in-loop-i c = omega (arith, c.context_at-in-loop-i.ensures, c.loop-i.invariant.size, ap length c.put_word.ensures ∙ length-put (bytes c.args.x) c.args.page.now c.context_at.result 0, c.requires.0, context-fits c.args.x c.loop-i.i c.loop-i-test.true)

pub loop-i-preserved : goal.loop-i-preserved
loop-i-preserved c = storing-next c.args.x c.args.words.now _ c.loop-i.invariant c.loop-i-test.true c.requires.1 c.context_at-in-loop-i.ensures refl c.put_word-in-loop-i.ensures

pub returns : goal.returns
returns c = storing-all c.args.x c.args.words.now c.args.page.now c.loop-i.invariant c.loop-i-test.false c.requires.1 c.context_at.ensures c.put_word.ensures
