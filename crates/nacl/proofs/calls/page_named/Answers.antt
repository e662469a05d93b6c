-- `nacl::calls::page_named` meets its contract: a drop touches nothing, and else the page's part of memory, for which there is room, is blanked.
use Rattle.std.specs.Prelude.{Some}
use mathlib.Core.Path.{refl, sym, ◌∙◌}
use Prim.Native.Nat.{◌+◌, ◌-◌}
use native.Mathlib.Omega.{arith}
use Rattle.world.proofs.WorldLaws.{room}
use Rattle.nacl.proofs.Outcomes.{set-dropped, set-named}
use Rattle.nacl.proofs.calls.page_named.Goals as goal

pub returns-then-is_drop : goal.returns-then-is_drop
returns-then-is_drop c table = let a = c.args in set-dropped a.lo a.hi a.base a.h.now a.memory.now table (sym c.is_drop.ensures ∙ c.if-is_drop.true)

pub page_offset-at-requires : goal.page_offset-at-requires
page_offset-at-requires c = c.requires (sym c.is_drop.ensures ∙ c.if-is_drop.false)

pub overflow_add-end : goal.overflow_add-end
overflow_add-end c =
    let there = c.requires (sym c.is_drop.ensures ∙ c.if-is_drop.false) in
    omega (arith, c.page_offset-at.ensures, room c.args.h.now.xlen c.args.base c.args.memory.now (Some c.args.lo) there, c.page_size.ensures)

pub returns : goal.returns
returns c table =
    let a = c.args in
    let o = c.page_offset-at.result in
    set-named a.lo a.hi a.base a.h.now a.memory.now table (sym c.is_drop.ensures ∙ c.if-is_drop.false) o (o + c.page_size.result - o) c.page_offset-at.ensures
    (omega (arith, c.page_size.ensures)) (c.blank.ensures a.h.now refl refl)
