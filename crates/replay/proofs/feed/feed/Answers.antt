-- `feed` meets its contract: between two steps what is there is what the part taken so far gives. The measure is how much of the part is left.
use Rattle.std.proofs.Common.{◌≡◌, true, not, sym, refl, ap, ◌∙◌, true≢false, arith, rules}
use Rattle.std.proofs.lemmas.Bool.{not-true}
use Rattle.replay.specs.Code.{ready}
use Rattle.replay.proofs.Ahead.{store-parts}
use Rattle.replay.proofs.Feeding.{part-rest, running-first, running-next, running-store, running-over, running-last}
use Rattle.replay.proofs.feed.feed.Goals as goal
use Rattle.replay.proofs.feed.feed.Goals.{then-loop-taken-test+then-not-replay+else-lines-ge-LONGEST, then-loop-taken-test+else-not-replay, else-loop-taken-test, then-replay, else-replay}

pub loop-taken-init : goal.loop-taken-init
loop-taken-init c = (running-first (sym c.is_ready.ensures ∙ c.if-not-is_ready.false) c.new-lines.ensures.place, refl, refl, refl)

pub store-taken-requires : goal.store-taken-requires
store-taken-requires c =
    let ahead = sym c.is_store_ahead.ensures ∙ c.if-is_store_ahead.true in
    let room = c.loop-taken.invariant.0.room in
    (rw (store-parts _ _ ahead).first at ahead, search (rules, room))

pub overflow_add-taken : goal.overflow_add-taken
overflow_add-taken c =
    let stored = running-store c.loop-taken.invariant.0 (sym c.is_store_ahead.ensures ∙ c.if-is_store_ahead.true) (not-true _ c.if-not-replay.true)
    c.store-taken.ensures c.if-lines-ge-LONGEST.true in
    let within = stored.1.within in search (rules, within)

pub loop-taken-smaller-then-is_store_ahead : goal.loop-taken-smaller-then-is_store_ahead
loop-taken-smaller-then-is_store_ahead c =
    let stored = running-store c.loop-taken.invariant.0 (sym c.is_store_ahead.ensures ∙ c.if-is_store_ahead.true) (not-true _ c.if-not-replay.true)
    c.store-taken.ensures c.if-lines-ge-LONGEST.true in
    omega (arith, stored.0, stored.1.within)

pub loop-taken-preserved-then-is_store_ahead : goal.loop-taken-preserved-then-is_store_ahead
loop-taken-preserved-then-is_store_ahead c =
    let i = c.loop-taken.invariant in
    let stored = running-store i.0 (sym c.is_store_ahead.ensures ∙ c.if-is_store_ahead.true) (not-true _ c.if-not-replay.true)
    c.store-taken.ensures c.if-lines-ge-LONGEST.true in
    (stored.1, search rules, search rules, i.3)

pub loop-taken-preserved : goal.loop-taken-preserved
loop-taken-preserved c = let l = c.loop-taken in
    (running-next l.invariant.0 (rw (part-rest l.taken c.args.part.now) at c.step-count.ensures) c.if-lines-ge-LONGEST.true, search rules, search rules, search rules)

pub returns : goal.returns
returns c =
    let was-ready : ready c.args.s c.args.pending.now ≡ true = sym c.is_ready.ensures ∙ c.if-not-is_ready.false in
    let start = c.new-lines.ensures in
    let k = c.loop-taken.invariant.0 in (
      λ e. elim c.if-replay.branch [
        | then-replay w ↦ let f = running-over k start.same start.place w.if-replay.true in rw w.taken-is (search (rules, f))
        | else-replay w ↦
            let f = running-last k start.same start.place (λ b.
            elim c.loop-taken-test.branch [
              | then-loop-taken-test+then-not-replay+else-lines-ge-LONGEST v ↦ omega arith
              | then-loop-taken-test+else-not-replay v ↦ absurd (true≢false (sym (ap not w.if-replay.false) ∙ v.if-not-replay.false))
              | else-loop-taken-test v ↦ absurd (omega arith)
            ]) in
            rw w.taken-is (search (rules, f))
      ],
      λ e. absurd (true≢false (sym was-ready ∙ e)),
    )
