-- `hart::trap::trap_hstatus` meets its contract: the three bits one after the other.
use Rattle.std.proofs.Common.{◌≡◌, Bool, true, false, cond, refl}
use Rattle.std.specs.Int.{from_bool}
use Rattle.hart.specs.Trap.{trap_hstatus}
use Rattle.hart.proofs.trap.trap_hstatus.Goals as goal

-- a bit as a number
bit-is : (b : Bool) → cond b 1 0 ≡ from_bool b
bit-is true = refl
bit-is false = refl

pub returns : goal.returns
unfolding trap_hstatus
returns c = rw (c.from-2.ensures, c.from.ensures, bit-is c.args.gva, bit-is c.args.s)
