-- The code's constants are the definitions'.
use mathlib.Core.Path.{◌≡◌, refl}
use Rattle.layout.specs.declared.place.TheConstants.{FLAGS_AT}
use Rattle.layout.specs.Geometry.{flags_at}

-- where the autoswap flags stand
pub flags-at : FLAGS_AT ≡ flags_at
flags-at = refl
