-- The two forms of a call that passes its checks, and of one that is refused.
use mathlib.Core.Path.{◌≡◌, sym, ap, ◌∙◌, subst}
use mathlib.Core.Bool.{true, false, ◌&&◌}
use Prim.Native.Nat.{ℕ, ◌%◌}
use lib.Dec.{eqb, leb}
use Rattle.layout.specs.declared.xlen.Xlen.{Xlen}
use Rattle.layout.specs.Width.{bytes}
use Rattle.layout.specs.Geometry.{page_size}
use Rattle.hart.specs.WellMade.{well_made}
use Rattle.world.specs.World.{World, offset}
use Rattle.world.specs.State.{State, state_of, with_state}
use Rattle.world.proofs.MemoryLaws.{Room}
use Rattle.world.proofs.StateLaws.{still-there}
use Rattle.turns.proofs.Kept.{StateKept}
use Rattle.checks.specs.Checks.{table_well_made, check1, check2, check7, sync_answer}
use Rattle.checks.specs.Codes.{accepted}
use Rattle.checks.proofs.Accepted.{Passed, answered, good_parameter}
use Rattle.checks.proofs.Judged.{tables}
use Rattle.checks.proofs.Truth.{and_intro}
use Rattle.stops.specs.Sync.{synced, synced_for, whole, stoppable}

-- what the two forms leave of a world that passes, and of one that does not
pub whole-passed : (eid fid a : ℕ) (w : World) → Passed eid fid a w → whole eid fid a w ≡ synced fid a w
unfolding whole
whole-passed eid fid a w q = rw (answered eid fid a w q)

pub stop-passed : (n eid fid a : ℕ) (w : World) → Passed eid fid a w → stoppable n eid fid a w ≡ synced_for n fid a w
unfolding stoppable
stop-passed n eid fid a w q = rw (answered eid fid a w q)

pub whole-refused : (eid fid a : ℕ) (w : World) → accepted (sync_answer eid fid a w) ≡ false → whole eid fid a w ≡ w
unfolding whole
whole-refused eid fid a w n = rw n

pub stop-refused : (n eid fid a : ℕ) (w : World) → accepted (sync_answer eid fid a w) ≡ false → stoppable n eid fid a w ≡ w
unfolding stoppable
stop-refused n eid fid a w r = rw r

-- a world with a state in it that steps leave
module _ (w : World) (rm : Room (page_size (bytes w.hart.xlen)) (offset w) w.memory) (s : State) (k : StateKept w.hart.xlen s (state_of w)) where
  -- the checks of the world itself pass if they did
  pub still_one : check1 w ≡ true → check1 (with_state w s) ≡ true
  unfolding check1
  still_one t =
      and_intro (table_well_made s.table) (well_made s.hart) (ap (λ (n : ℕ). eqb (n % 4) 0 && leb n 1024) k.table ∙ (tables w t).0) (k.hart.well (tables w t).1)

  pub still-two : check2 w ≡ true → check2 (with_state w s) ≡ true
  unfolding check2
  still-two t = rw (k.hart.virt, k.hart.mode) t

  pub still-seven : check7 w ≡ true → check7 (with_state w s) ≡ true
  unfolding check7
  still-seven t = still-there w rm s k.hart.xlen k.hart.shmem k.page ∙ t

  -- so all do
  pub still-passed : (eid fid a : ℕ) → Passed eid fid a w → Passed eid fid a (with_state w s)
  still-passed eid fid a q =
      record {
        one = still_one q.one;
        two = still-two q.two;
        three = q.three;
        four = rw k.hart.features q.four;
        five = subst (λ (y : Xlen). good_parameter y fid a ≡ true) (sym k.hart.xlen) q.five;
        seven = still-seven q.seven;
      }
