-- `recording::is_store` meets its contract: a number that no kind has is no store's.
use mathlib.Core.Path.{sym}
use Rattle.recording.proofs.Numbers.{no-store}
use Rattle.recording.proofs.is_store.Goals as goal

pub returns-in-Err : goal.returns-in-Err
returns-in-Err c = sym (no-store _ c.in-Err.ensures.1)
