-- `sync::blank::blank` meets its contract: zeroes, and then the readings.
use mathlib.Core.Path.{ap, ◌∙◌}
use Prim.Native.Nat.{ℕ}
use lib.ListN.{replicate}
use Rattle.csr.specs.Csrs.{turn_order}
use Rattle.turns.specs.Blank.{put_all, blank}
use Rattle.sync.proofs.BlankLaws.{put_all-same}
use Rattle.sync.proofs.blank.blank.Goals as goal

pub returns : goal.returns
unfolding blank
returns c k e l = let h = c.args.h.now in
    c.readings.ensures ∙ ap (put_all h.xlen (turn_order h.xlen) h) (c.fill.ensures.after (λ y e. e) ∙ ap (λ (n : ℕ). replicate n 0) c.requires)
    ∙ put_all-same h.xlen (turn_order h.xlen) h k _ e l
