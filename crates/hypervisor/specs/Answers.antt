-- Number and value for each case of an answer to a request on the page (02, Req 01).
use Rattle.std.specs.Prelude.{Bool, true, false, cond, ℕ, ℤ, pos, neg_ℤ, Result, Ok, Err}
use Rattle.hypervisor.specs.declared.answer.Refusal.{Refusal}
use Rattle.hypervisor.specs.declared.answer.Refusal.TheVariants.{Failed, InvalidParam, Denied}

-- an answer: a value, or a refusal
abbrev pub Answer : Type 0
Answer = Result ℕ Refusal

-- the code: 0, or the refusal's
abbrev pub code_of : Answer → ℤ
code_of (Ok v) = pos 0
code_of (Err Failed) = neg_ℤ (pos 1)
code_of (Err InvalidParam) = neg_ℤ (pos 3)
code_of (Err Denied) = neg_ℤ (pos 4)

-- the value: a refusal has 0
abbrev pub value_of : Answer → ℕ
value_of (Ok v) = v
value_of (Err r) = 0

-- the request is accepted
abbrev pub is_done : Answer → Bool
is_done (Ok v) = true
is_done (Err r) = false

-- both in one number: the value, or the refusal's code, which is below 0
abbrev pub result_of : Answer → ℤ
result_of a = cond (is_done a) (pos (value_of a)) (code_of a)
