-- `sret::resume::load_context` meets its contract. The loop's invariant: X0 is 0, and the registers before Xi are loaded.
use mathlib.Core.Path.{refl, ap, ◌∙◌}
use native.Mathlib.Omega.{arith}
use Rattle.layout.specs.Width.{bytes}
use Rattle.layout.specs.Words.{word_at}
use Rattle.sret.proofs.ContextLaws.{context-fits, loaded-more, loaded-all}
use Rattle.sret.proofs.resume.load_context.Goals as goal

pub loop-i-init : goal.loop-i-init
loop-i-init c = record { some = omega arith; most = omega arith; size = refl; zeroth = refl; words = λ k f g. absurd (omega arith) }

pub word_at-requires : goal.word_at-requires
word_at-requires c = omega (arith, context-fits c.args.xlen c.loop-i.i c.loop-i-test.true)

pub loop-i-preserved : goal.loop-i-preserved
loop-i-preserved c = let a = c.args in
    let p = a.page.now in
    loaded-more a.xlen p c.loop-i.x c.loop-i.i c.word_at.result (omega arith)
    (c.word_at.ensures ∙ ap (word_at (bytes a.xlen) p) c.context_at.ensures) c.loop-i.invariant

pub returns : goal.returns
returns c = let a = c.args in
    loaded-all a.xlen a.page.now c.loop-i.x c.loop-i.i c.loop-i-test.false c.loop-i.invariant
