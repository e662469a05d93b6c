-- `recording::good_kind` meets its contract: a number that no kind has is in no good header.
use Rattle.recording.proofs.Numbers.{decoded}
use Rattle.recording.proofs.good_kind.Goals as goal

pub unwrap-requires : goal.unwrap-requires
unwrap-requires c = decoded _ _ _ (rw c.kind.ensures at c.try_from.ensures) c.requires.1
