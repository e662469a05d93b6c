-- The code's constants are the definitions'.
use mathlib.Core.Path.{◌≡◌, refl}
use Rattle.csr.specs.declared.TheConstants.{COUNT}
use Rattle.csr.specs.Csrs.{every_csr}
use lib.ListN.{length}

-- how many registers there are
pub count : COUNT ≡ length every_csr
count = refl
