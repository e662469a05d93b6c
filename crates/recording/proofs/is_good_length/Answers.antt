-- `recording::is_good_length` meets its contract: a number that no kind has, has no good length.
use mathlib.Core.Path.{sym}
use Rattle.recording.proofs.Numbers.{no-length}
use Rattle.recording.proofs.is_good_length.Goals as goal

pub returns-in-Err : goal.returns-in-Err
returns-in-Err c = sym (no-length _ c.in-Err.ensures.1 _)
