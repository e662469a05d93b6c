-- Check 1 from its parts, and what an accepted answer says of a check.
use mathlib.Core.Path.{◌≡◌, refl}
use mathlib.Core.Bool.{Bool, true, false, cond, not, ◌&&◌, false≢true}
use Rattle.std.specs.Prelude.{Err}
use Rattle.hart.specs.WellMade.{well_made}
use Rattle.world.specs.World.{World}
use Rattle.checks.specs.declared.answer.Refusal.{Refusal}
use Rattle.checks.specs.Codes.{Answer, accepted}
use Rattle.checks.specs.Checks.{table_well_made, check1}
use Rattle.checks.proofs.Truth.{both}

-- check 1 is its two parts
pub check1-is : (w : World) {x : Bool} → x ≡ (table_well_made w.table && well_made w.hart) → x ≡ check1 w
unfolding check1
check1-is w p = p

-- the table and the record are well made
pub tables : (w : World) → check1 w ≡ true → (table_well_made w.table ≡ true) × (well_made w.hart ≡ true)
unfolding check1
tables w t = both (table_well_made w.table) (well_made w.hart) t

-- a refusal first, then the rest
pub guard : (b : Bool) (r : Refusal) (x : Answer) → accepted (cond (not b) (Err r) x) ≡ true → (b ≡ true) × (accepted x ≡ true)
guard true r x a = (refl, a)
guard false r x a = absurd (false≢true a)
