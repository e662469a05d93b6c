-- `checks::judge::sync` meets its contract: check 3 asks for a call that synchronizes.
use Rattle.checks.specs.Checks.{sync_answer}
use Rattle.checks.proofs.Codes.{answer-is}
use Rattle.checks.proofs.judge.sync.Goals as goal

pub returns : goal.returns
unfolding sync_answer
returns c = answer-is (rw (← c.is_sync-three.ensures) c.judged.ensures)
