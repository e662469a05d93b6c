-- 01's number and value for each case of an answer.
use Rattle.std.specs.Prelude.{◌≡◌, Bool, true, false, ℕ, ℤ, pos, neg_ℤ, Result, Ok, Err, is_ok}
use Rattle.checks.specs.declared.answer.Success.{Success}
use Rattle.checks.specs.declared.answer.Success.TheVariants.{Value, Resumed}
use Rattle.checks.specs.declared.answer.Refusal.{Refusal}
use Rattle.checks.specs.declared.answer.Refusal.TheVariants.{Failed, NotSupported, InvalidParam, InvalidAddress, NoShmem}

-- what a call answers
abbrev pub Answer : Type 0
Answer = Result Success Refusal

-- a refusal's code
abbrev pub refusal_code : Refusal → ℤ
refusal_code Failed = neg_ℤ (pos 1)
refusal_code NotSupported = neg_ℤ (pos 2)
refusal_code InvalidParam = neg_ℤ (pos 3)
refusal_code InvalidAddress = neg_ℤ (pos 5)
refusal_code NoShmem = neg_ℤ (pos 9)

-- the code: 0 for success, else the refusal's
abbrev pub code_of : Answer → ℤ
code_of (Ok s) = pos 0
code_of (Err r) = refusal_code r

-- the value: success carries it, everything else has 0
abbrev pub value_of : Answer → ℕ
value_of (Ok (Value v)) = v
value_of (Ok Resumed) = 0
value_of (Err r) = 0

-- the answer says resumed
abbrev pub is_resumed : Answer → Bool
is_resumed (Ok (Value v)) = false
is_resumed (Ok Resumed) = true
is_resumed (Err r) = false

-- the call is accepted
abbrev pub accepted : Answer → Bool
accepted a = is_ok a

-- the answer r is a, with 01's code and value for that case
pub record AnswerIs (r a : Answer) : Type 0 where
  pub same : r ≡ a
  pub code : code_of r ≡ code_of a
  pub value : value_of r ≡ value_of a
