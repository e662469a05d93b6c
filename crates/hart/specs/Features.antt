-- The feature set.
use Rattle.std.specs.Prelude.{Bool, ℕ, ◌/◌, ◌%◌, ◌^◌, eqb}

-- feature k is present
abbrev pub has_feature : ℕ → ℕ → Bool
has_feature features k = eqb (features / 2 ^ k % 2) 1
