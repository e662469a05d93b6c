-- `sync::registers::store_follower` meets its contract: no follower, a dirty one, or a clean one.
use mathlib.Core.Path.{sym, ◌∙◌}
use Rattle.page.proofs.Places.{dirty-is}
use Rattle.world.specs.State.{state_from}
use Rattle.sync.proofs.TurnParts.{follower-none, follower-dirty, follower-clean}
use Rattle.sync.proofs.registers.store_follower.Goals as goal

pub returns-in_default : goal.returns-in_default
returns-in_default c table = let a = c.args in
    follower-none a.h.now.xlen a.follower (state_from a.h.now a.page.now table) a.limit c.in_default.is

pub returns-then-is_dirty : goal.returns-then-is_dirty
returns-then-is_dirty c table = let a = c.args in
    follower-dirty a.h.now.xlen a.follower (state_from a.h.now a.page.now table) a.limit _ c.in-Some.is (sym (dirty-is _ a.page.now c.index-i.ensures.0 c.is_dirty.ensures) ∙ c.if-is_dirty.true)

pub returns : goal.returns
returns c table = let a = c.args in
    follower-clean a.h.now.xlen a.follower (state_from a.h.now a.page.now table) a.limit _ c.in-Some.is (sym (dirty-is _ a.page.now c.index-i.ensures.0 c.is_dirty.ensures) ∙ c.if-is_dirty.false)
    (c.store_own.ensures table)
