-- A record has at most 26 reports, which are 52 words.
use mathlib.Core.Bool.{Bool, true, false, cond}
use mathlib.Core.List.{List}
use Prim.Native.Nat.{ℕ, ◌+◌, ◌≤◌}
use native.Mathlib.Omega.{arith}
use lib.Dec.{eqb, leb, ltb}
use lib.ListN.{length}
use Rattle.hart.specs.Dropped.{report_words}
use Rattle.fence.specs.Slots.{slot_count}
use Rattle.world.specs.World.{World, width}
use Rattle.checks.specs.Codes.{Answer}
use Rattle.sync.proofs.Spoken.{words-length}
use Rattle.nacl.specs.Traps.{cut_trap}
use Rattle.nacl.proofs.Few.{call-few, trap-few}
use Rattle.apply.specs.Effects.{Effect, plain, write_effect, slot_effect, trap_of, trap_effect, effect}

-- at most 26
abbrev Few : Effect → Type 0
Few e = length e.reports ≤ 26

-- either effect has few
either-few : (b : Bool) (e f : Effect) → Few e → Few f → Few (cond b e f)
either-few true e f p q = p
either-few false e f p q = q

-- plain ones have none
plain-few : (t : Bool) (a b : Answer) (v w : World) → Few (cond t (plain a v) (plain b w))
plain-few true a b v w = omega arith
plain-few false a b v w = omega arith

-- a memory write, and a slot
write-few : (at : ℕ) (bytes : List ℕ) (w : World) → Few (write_effect at bytes w)
unfolding write_effect
write-few at bytes w = plain-few (leb (at + length bytes) (length w.memory)) _ _ _ _

slot-few : (i a b c d : ℕ) (w : World) → Few (slot_effect i a b c d w)
unfolding slot_effect
slot-few i a b c d w = plain-few (ltb i (slot_count w.table)) _ _ _ _

trap-one : (b : List ℕ) (w : World) → Few (trap_effect (trap_of b) w)
trap-one b w = omega (arith, trap-few (cut_trap (width w) (trap_of b)) w)

effect-few : (kind : ℕ) (b : List ℕ) (w : World) → Few (effect kind b w)
unfolding effect
effect-few kind b w =
    either-few (eqb kind 1) _ _ (call-few _ _ _ _ _ w)
    (either-few (eqb kind 2) _ _ (write-few _ _ w)
    (either-few (eqb kind 3) _ _ (omega arith) (either-few (eqb kind 4) _ _ (slot-few _ _ _ _ _ w) (trap-one b w))))

-- as words
pub few_words : (kind : ℕ) (b : List ℕ) (w : World) → length (report_words (effect kind b w).reports) ≤ 52
few_words kind b w = omega (arith, words-length (effect kind b w).reports, effect-few kind b w)
