-- `replay_abi::store` meets its contract: the record's block and three words take the places of what the block held.
use mathlib.Core.Path.{◌≡◌, refl, ◌∙◌}
use mathlib.Core.Bool.{Bool, true, false}
use Prim.Native.Nat.{◌^◌, ◌<◌}
use Rattle.std.specs.Int.{from_bool}
use Rattle.block.specs.Block.{flag_word}
use lib.ListN.{length-set}
use borrow.Author.Rules.{rules}
use Rattle.hart.proofs.Shape.{Sized}
use Rattle.replay_abi.proofs.Replayed.{stored}
use Rattle.replay_abi.proofs.store.Goals as goal

flag : (b : Bool) → from_bool b ≡ flag_word b
flag true = refl
flag false = refl

pub bounds-state-69 : goal.bounds-state-69
bounds-state-69 c = simp length-set (search rules)

pub bounds-state-70 : goal.bounds-state-70
bounds-state-70 c = simp length-set (search rules)

pub returns : goal.returns
returns c =
    let sized : Sized c.args.s.hart =
    record { csrs = search rules; x = search rules } in
    let small : c.args.s.hart.dropped < 2 ^ 32 =
    search rules in
    stored c.args.s sized small c.args.state.now c.requires c.store.ensures (c.from.ensures ∙ flag c.args.s.ended)
