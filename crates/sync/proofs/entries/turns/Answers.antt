-- `turns` meets its contract: the entries passed are dealt with, and no step was left. Those between two pending ones have no step.
use mathlib.Core.Path.{◌≡◌, refl, ap, ◌∙◌}
use mathlib.Core.Bool.{false}
use mathlib.Core.List.{List}
use Prim.Native.Nat.{ℕ, ◌+◌, ◌-◌, ◌≤◌}
use native.Mathlib.Omega.{arith}
use lib.ListN.{length}
use Rattle.layout.specs.declared.xlen.Xlen.{Xlen}
use Rattle.layout.specs.declared.xlen.Xlen.TheVariants.{X32, X64}
use Rattle.layout.specs.Width.{bytes}
use Rattle.layout.specs.Geometry.{entry_count}
use Rattle.page.specs.Registers.{IsPage}
use Rattle.page.specs.Entries.{NextPending}
use Rattle.world.specs.State.{state_from}
use Rattle.turns.specs.Marks.{Pending}
use Rattle.sync.specs.Turns.{pending_at}
use Rattle.sync.proofs.Loops.{at-start, one_more, no_more, at-end}
use Rattle.sync.proofs.Idle.{to-next}
use Rattle.sync.proofs.entries.turns.Goals as goal
use Rattle.sync.proofs.entries.turns.Invariants.{Passed, Turned}

-- there are few entries
few : (x : Xlen) → entry_count (bytes x) ≤ 120
few X32 = omega arith
few X64 = omega arith

-- the turns of i entries are made: on to the next pending one
next : {x : Xlen} {page₀ table₀ : List ℕ} {first limit end : ℕ} {page table : List ℕ} {left e r : ℕ} (i : ℕ) → e ≡ first + i → IsPage x page₀ → IsPage x page
    → length table ≡ length table₀ → Turned x page₀ table₀ first i limit page table left false → NextPending x page e end r
    → Passed x page₀ table₀ first limit end page table left r
next {x} {page₀} {table₀} {first} {r = r} i at g whole size made n =
    let from = n.from in
    record {
      from = omega arith;
      within = n.within;
      whole = whole;
      size = size;
      made = λ h. to-next x first g i at (made h) n;
    }

pub overflow_add-end : goal.overflow_add-end
overflow_add-end c = omega (arith, few c.args.x)

pub next_pending-e-requires : goal.next_pending-e-requires
next_pending-e-requires c = (omega arith, c.requires.0, c.requires.1)

pub loop-e-init : goal.loop-e-init
loop-e-init c = next 0 (omega arith) c.requires.1 c.requires.1 refl
    (λ h. at-start c.args.x pending_at c.args.first (state_from h c.args.page.now c.args.table.now) c.args.limit)
    c.next_pending-e.ensures

pub turn-requires : goal.turn-requires
turn-requires c = let inv = c.loop-e.invariant in
    (omega (arith, c.requires.0), inv.whole)

pub returns-in_err-left : goal.returns-in_err-left
returns-in_err-left c h =
    let a = c.args in
    let i = c.loop-e.e - a.first in
    let from = c.loop-e.invariant.from in
    let at : a.first + i ≡ c.loop-e.e = omega arith in
    rw c.from_residual.ensures
    (no_more a.x pending_at a.first (i + 1)
    (one_more a.x pending_at a.first i (c.loop-e.invariant.made h) (Pending c.loop-e.e) (ap pending_at at) c.requires.1 refl (c.in_err-left.ensures h)) a.count (omega arith) refl)

pub overflow_add-e : goal.overflow_add-e
overflow_add-e c = omega (arith, few c.args.x)

pub next_pending-e-requires-in-loop-e : goal.next_pending-e-requires-in-loop-e
next_pending-e-requires-in-loop-e c = (omega arith, c.requires.0, c.turn.auto.page ∙ c.loop-e.invariant.whole)

pub loop-e-smaller : goal.loop-e-smaller
loop-e-smaller c = omega (arith, c.next_pending-e-in-loop-e.ensures.from)

pub loop-e-preserved : goal.loop-e-preserved
loop-e-preserved c =
    let a = c.args in
    let inv = c.loop-e.invariant in
    let from = inv.from in
    let i = c.loop-e.e - a.first in
    let at : a.first + i ≡ c.loop-e.e = omega arith in
    next (i + 1) (omega arith) c.requires.1 (c.turn.auto.page ∙ inv.whole) (c.turn.auto.table ∙ inv.size)
    (λ h. one_more a.x pending_at a.first i (inv.made h) (Pending c.loop-e.e) (ap pending_at at) c.requires.1 refl (c.in_ok-left.ensures h)) c.next_pending-e-in-loop-e.ensures

pub returns : goal.returns
returns c h =
    let a = c.args in
    let w = c.loop-e.invariant.within in
    at-end a.x pending_at a.first (c.loop-e.e - a.first) (c.loop-e.invariant.made h) a.count (omega (arith, c.loop-e.invariant.from, c.loop-e-test.false))
