-- Equal answers have the same code and value.
use mathlib.Core.Path.{◌≡◌, ap}
use Rattle.checks.specs.Codes.{Answer, code_of, value_of, AnswerIs}

pub answer-is : {r a : Answer} → r ≡ a → AnswerIs r a
answer-is e = record { same = e; code = ap code_of e; value = ap value_of e }
