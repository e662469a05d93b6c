-- `checks::judge::call` meets its contract: check 3 asks for one of the five calls.
use Rattle.checks.specs.Checks.{call_answer}
use Rattle.checks.proofs.Codes.{answer-is}
use Rattle.checks.proofs.judge.call.Goals as goal

pub returns : goal.returns
unfolding call_answer
returns c = answer-is (rw (← c.is_call-three.ensures) c.judged.ensures)
