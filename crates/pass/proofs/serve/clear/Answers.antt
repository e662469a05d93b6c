-- `clear` meets its contract: before entry e Pending of the entries below it is cleared, and counted.
use mathlib.Core.Path.{◌≡◌, sym, ap, ◌∙◌, subst}
use mathlib.Core.List.{List}
use Prim.Native.Nat.{ℕ}
use native.Mathlib.Omega.{arith}
use Rattle.layout.specs.declared.xlen.Xlen.{Xlen}
use Rattle.layout.specs.Width.{bytes}
use Rattle.layout.specs.Geometry.{entry_count}
use Rattle.page.specs.Registers.{IsPage}
use Rattle.pass.specs.Inner.{cleared_to, cleared_count}
use Rattle.pass.proofs.GatherLaws.{few}
use Rattle.pass.proofs.PassLaws.{clear-start, clear-one, clear-idle, cleared-page, count_most}
use Rattle.pass.proofs.serve.clear.Goals as goal
use Rattle.pass.proofs.serve.clear.Goals.{then-is_pending, else-is_pending}

-- what is left is a page
still : (x : Xlen) (e : ℕ) (p : List ℕ) {q : List ℕ} → cleared_to x e p ≡ q → IsPage x p → IsPage x q
still x e p c g = subst (IsPage x) c (cleared-page x e p g)

pub loop-e-init : goal.loop-e-init
loop-e-init c = let start = clear-start c.args.x c.args.page.now c.requires.1 in
    record { page = start.0; count = sym start.1 }

pub is_pending-requires : goal.is_pending-requires
is_pending-requires c = (omega (arith, c.loop-e-test.true, c.entry_count-e-end.ensures), still _ _ _ c.loop-e.invariant.page c.requires.0)

pub clear_pending-requires : goal.clear_pending-requires
clear_pending-requires c = (omega (arith, c.loop-e-test.true, c.entry_count-e-end.ensures), still _ _ _ c.loop-e.invariant.page c.requires.0)

pub overflow_add-cleared : goal.overflow_add-cleared
overflow_add-cleared c = record {
  fits = omega (arith, c.loop-e.invariant.count, count_most c.args.x c.loop-e.e c.args.page.now, c.loop-e-test.true, c.entry_count-e-end.ensures, few c.args.x);
}

pub loop-e-preserved : goal.loop-e-preserved
loop-e-preserved c =
    let i = c.loop-e.invariant in
    elim c.if-is_pending.branch [
      | then-is_pending w ↦
          let one = clear-one c.args.x c.args.page.now c.loop-e.e i.page (sym c.is_pending.ensures ∙ w.if-is_pending.true) in
          rw (w.page-is, w.cleared-is, w.clear_pending.ensures) record { page = one.0; count = omega (arith, i.count, one.1) }
      | else-is_pending w ↦
          let same = clear-idle c.args.x c.args.page.now c.loop-e.e i.page (sym c.is_pending.ensures ∙ w.if-is_pending.false) in
          rw (w.page-is, w.cleared-is) record { page = same.0; count = omega (arith, i.count, same.1) }
    ]

pub returns : goal.returns
returns c = let i = c.loop-e.invariant in
    let s = c.args in
    let at : c.loop-e.e ≡ entry_count (bytes s.x) = omega (arith, c.requires.1.within, c.loop-e-test.false, c.entry_count-e-end.ensures) in
    (sym i.page ∙ ap (λ (k : ℕ). cleared_to s.x k s.page.now) at, i.count ∙ ap (λ (k : ℕ). cleared_count s.x k s.page.now) at)
