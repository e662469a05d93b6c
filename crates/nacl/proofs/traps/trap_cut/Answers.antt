-- `nacl::traps::trap_cut` meets its contract: a refusal touches nothing; else the record changes, and the page where there is one.
use mathlib.Core.Path.{refl, sym, ◌∙◌}
use native.Mathlib.Omega.{arith}
use Rattle.std.proofs.Common.{rules}
use Rattle.text.proofs.Puts.{put-at}
use Rattle.world.specs.World.{lent}
use Rattle.checks.proofs.Judged.{check1-is}
use Rattle.nacl.proofs.TrapOutcomes.{trap-failed, trap-denied, trap-alone, trap-stored}
use Rattle.nacl.proofs.Said.{trap-silent-1, trap-silent-2, trap-silent-3, trap-said, none-counted, trap-tallied}
use Rattle.nacl.proofs.traps.trap_cut.Goals as goal

pub returns-then-not-well_made : goal.returns-then-not-well_made
returns-then-not-well_made c =
    let w = lent c.args.h c.args.base c.args.memory.now c.args.table.now in
    let one = sym (check1-is w c.well_made.ensures) ∙ c.if-not-well_made.true in
    rw c.refused.ensures (trap-tallied (refl, none-counted c.args.h, refl, refl, refl) c.args.t w (trap-failed c.args.t w one) (trap-silent-1 c.args.t w one c.args.out.now))

pub returns-then-not-h : goal.returns-then-not-h
returns-then-not-h c =
    let w = lent c.args.h c.args.base c.args.memory.now c.args.table.now in
    let one = sym (check1-is w c.well_made.ensures) ∙ c.if-not-well_made.false in
    rw c.refused-then-not-h.ensures (trap-tallied (refl, none-counted c.args.h, refl, refl, refl) c.args.t w
    (trap-denied c.args.t w one c.if-not-h.true) (trap-silent-2 c.args.t w one c.if-not-h.true c.args.out.now))

pub returns-then-not-page_there : goal.returns-then-not-page_there
returns-then-not-page_there c =
    let w = lent c.args.h c.args.base c.args.memory.now c.args.table.now in
    let one = sym (check1-is w c.well_made.ensures) ∙ c.if-not-well_made.false in
    let none = sym c.page_there.ensures ∙ c.if-not-page_there.true in
    rw c.done.ensures (trap-tallied (refl, none-counted c.trapped-changed.result, refl, refl, refl) c.args.t w
    (trap-alone c.args.t w one c.if-not-h.false c.trapped-changed.ensures none)
    (trap-silent-3 c.args.t w one c.if-not-h.false c.trapped-changed.ensures none c.args.out.now))

pub store_there-stored-requires : goal.store_there-stored-requires
store_there-stored-requires c = (sym c.page_there.ensures ∙ c.if-not-page_there.false, omega (arith, c.new-told.ensures.place))

pub returns : goal.returns
returns c =
    let w = lent c.args.h c.args.base c.args.memory.now c.args.table.now in
    let one = sym (check1-is w c.well_made.ensures) ∙ c.if-not-well_made.false in
    let there = sym c.page_there.ensures ∙ c.if-not-page_there.false in
    let start = c.new-told.ensures in
    let put = c.store_there-stored.ensures.1 c.args.table.now in
    let said = trap-said c.args.t w one c.if-not-h.false c.trapped-changed.ensures there (put-at start.same start.place put) in
    let same = put.same in
    rw c.done-2.ensures (trap-tallied (refl, c.counted-hart.ensures, refl, refl, refl) c.args.t w
    (trap-stored c.args.t w one c.if-not-h.false c.trapped-changed.ensures there (c.store_there-stored.ensures.0 c.args.table.now))
    (search (rules, said, same)))
