-- How far a run came that is allowed some number of steps: None where a step was left, else how many more were allowed.
use Rattle.std.specs.Prelude.{Bool, true, false, ℕ, Option, Some, None}

-- how many more steps were allowed: none where a step was left
abbrev pub left_of : Option ℕ → ℕ
left_of (Some left) = left
left_of None = 0

-- a step was left
abbrev pub stopped_in : Option ℕ → Bool
stopped_in (Some left) = false
stopped_in None = true
