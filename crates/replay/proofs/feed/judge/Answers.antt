-- `judge` meets its contract: a good header waits for its body, and any other ends the replay.
use Rattle.std.proofs.Common.{sym, ◌∙◌, arith}
use Rattle.recording.specs.Format.{header_length}
use Rattle.recording.proofs.Good.{partial-header}
use Rattle.replay.proofs.Tellings.{told-waiting, told-bad}
use Rattle.replay.proofs.feed.judge.Goals as goal

pub returns-then-is_good : goal.returns-then-is_good
returns-then-is_good c memory table = told-waiting _ _ memory table _ c.requires.0 header_length (partial-header _ (sym c.is_good.ensures ∙ c.if-is_good.true)) (omega arith)

pub returns : goal.returns
returns c memory table = told-bad _ _ memory table _ c.requires.0 (sym c.is_good.ensures ∙ c.if-is_good.false) c.put_bad.ensures.puts c.put_bad.ensures.room
