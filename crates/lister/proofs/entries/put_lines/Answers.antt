-- `put_lines` meets its contract: the lines of the pending entries passed are put, and none between them is Pending.
use mathlib.Core.Path.{◌≡◌, ap, ◌∙◌}
use mathlib.Core.List.{List}
use Prim.Native.Nat.{ℕ}
use native.Mathlib.Omega.{arith}
use Rattle.layout.specs.declared.xlen.Xlen.{Xlen}
use Rattle.layout.specs.Width.{bytes}
use Rattle.layout.specs.Geometry.{entry_count}
use Rattle.text.specs.declared.Buffer.{Buffer}
use Rattle.page.specs.Entries.{is_pending, NextPending}
use Rattle.lister.specs.Marks.{pending_entries}
use Rattle.lister.proofs.Passing.{at_first, few, near, passes, skips-to, at_last}
use Rattle.lister.proofs.Chosen.{entry-at, entry-count}
use Rattle.lister.proofs.Sizes.{length-fence}
use Rattle.lister.proofs.entries.put_lines.Goals as goal
use Rattle.lister.proofs.entries.put_lines.Invariants.{Before, Found}

-- from one entry to the next pending one
found : {x : Xlen} {image : List ℕ} {out₀ out : Buffer ℕ} {end count i r : ℕ} → end ≡ entry_count (bytes x) → Before x image out₀ out count i
    → NextPending x image i end r → Found x image out₀ end out count r
found {x} {image} {out₀} {out} {end} {count} {i} {r} whole b n =
    let within = n.within in
    record {
      before = skips-to b 0 r n.from (omega (arith, entry-count x)) (λ k le less. ap (is_pending x image) (entry-at x k (omega arith)) ∙ n.passed k le less);
      within = within;
      pending = n.found;
    }

pub next_pending-e-requires : goal.next_pending-e-requires
next_pending-e-requires c = (omega arith, omega (arith, c.entry_count-end.ensures), c.requires.0)

pub loop-e-init : goal.loop-e-init
loop-e-init c = found c.entry_count-end.ensures at_first c.next_pending-e.ensures

pub put_line-requires : goal.put_line-requires
put_line-requires c = let count = c.entry_count-end.ensures in
    (omega arith, c.requires.0, omega (arith, near c.loop-e.invariant.before 185 (length-fence _ _)))

pub overflow_add-count : goal.overflow_add-count
overflow_add-count c = omega (arith, few c.loop-e.invariant.before)

pub overflow_add-e : goal.overflow_add-e
overflow_add-e c = omega arith

pub next_pending-e-requires-in-loop-e : goal.next_pending-e-requires-in-loop-e
next_pending-e-requires-in-loop-e c = (omega arith, omega (arith, c.entry_count-end.ensures), c.requires.0)

pub loop-e-smaller : goal.loop-e-smaller
loop-e-smaller c = omega (arith, c.next_pending-e-in-loop-e.ensures.from)

pub loop-e-preserved : goal.loop-e-preserved
loop-e-preserved c = let inv = c.loop-e.invariant in
    let whole = c.entry_count-end.ensures in
    let x = c.args.x in
    found whole (passes inv.before 0 (entry-at x _ (omega arith)) (omega (arith, entry-count x)) (inv.pending (omega arith)) c.put_line.ensures) c.next_pending-e-in-loop-e.ensures

pub returns : goal.returns
unfolding pending_entries
returns c = let few = c.entry_count-end.ensures in
    let x = c.args.x in
    let w = at_last c.loop-e.invariant.before (omega (arith, few, entry-count x, c.loop-e-test.false)) in
    record { puts = w.0; count_value = w.1 }
