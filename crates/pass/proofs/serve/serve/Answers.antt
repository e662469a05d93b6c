-- `serve` meets its contract: no entry is pending, or one, or some.
use mathlib.Core.Path.{◌≡◌, ◌∙◌, subst}
use mathlib.Core.List.{List}
use Prim.Native.Nat.{ℕ, ◌+◌, ◌<◌}
use native.Mathlib.Omega.{arith}
use Rattle.layout.specs.declared.xlen.Xlen.{Xlen}
use Rattle.layout.specs.Width.{bytes}
use Rattle.layout.specs.Geometry.{entry_count}
use Rattle.page.specs.Entries.{NextPending}
use Rattle.pass.proofs.GatherLaws.{few}
use Rattle.pass.proofs.PassLaws.{none-served, only_one}
use Rattle.pass.proofs.serve.serve.Goals as goal

-- the first pending entry
scanned : (x : Xlen) (page : List ℕ) {end first : ℕ} → end ≡ entry_count (bytes x) → NextPending x page 0 end first → NextPending x page 0 (entry_count (bytes x)) first
scanned x page {first = first} l n = subst (λ (end : ℕ). NextPending x page 0 end first) l n

-- it is one
below : (x : Xlen) (page : List ℕ) {end first : ℕ} → end ≡ entry_count (bytes x) → NextPending x page 0 end first → (first ≡ end → ⊥) → first < entry_count (bytes x)
below x page l n d = omega (arith, n.within)

pub returns-then-first-end : goal.returns-then-first-end
returns-then-first-end c = none-served c.args.x c.args.page.now c.args.table.now c.requires.0 (scanned _ _ c.entry_count-end.ensures c.next_pending-first.ensures) (c.if-first-end.true ∙ c.entry_count-end.ensures)

pub overflow_add-first : goal.overflow_add-first
overflow_add-first c = record { fits = omega (arith, (scanned _ _ c.entry_count-end.ensures c.next_pending-first.ensures).within, few c.args.x) }

pub next_pending-requires : goal.next_pending-requires
next_pending-requires c = (omega (arith, below _ _ c.entry_count-end.ensures c.next_pending-first.ensures c.if-first-end.false, c.entry_count-end.ensures), omega (arith, c.entry_count-end.ensures), c.requires.0)

pub serve_one-requires : goal.serve_one-requires
serve_one-requires c = let x = c.args.x in
    let end = c.entry_count-end.ensures in (
      c.requires.0,
      only_one x c.args.page.now c.next_pending-first.result c.next_pending.result (scanned _ _ c.entry_count-end.ensures c.next_pending-first.ensures) (below _ _ c.entry_count-end.ensures c.next_pending-first.ensures c.if-first-end.false)
          (subst (λ (n : ℕ). NextPending x c.args.page.now (c.next_pending-first.result + 1) n c.next_pending.result) end c.next_pending.ensures) (c.if-next_pending-end.true ∙ end),
      c.requires.1,
    )

pub serve_some-requires : goal.serve_some-requires
serve_some-requires c = (c.requires.0, scanned _ _ c.entry_count-end.ensures c.next_pending-first.ensures, c.requires.1)
