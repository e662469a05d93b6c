-- What reading an input answers.
use Rattle.std.specs.Prelude.{ℕ, ◌≤◌, Result, Ok, Err}

-- the bytes that were read are at the start of a buffer of k bytes
abbrev pub Within : {E : Type 0} → ℕ → Result ℕ E → Type 0
Within k (Ok n) = n ≤ k
Within k (Err e) = Unit {0}
