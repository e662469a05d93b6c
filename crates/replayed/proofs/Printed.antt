-- 02's sample lines and the limits, computed.
use mathlib.Core.Path.{refl}
use Rattle.text.specs.Numerals.{glyph, hex, last_digits}
use Rattle.recording.specs.Format.{good_length}
use Rattle.replay.specs.Lines.{signed, pair, pairs, line_start, line, cut_line, bad_line}
use Rattle.replayed.specs.Claims.{Samples}

pub samples : Samples
unfolding glyph hex last_digits good_length signed pair pairs line_start line cut_line bad_line
samples = record { done = refl; refused = refl; dropped = refl; last = refl; wrong = refl; limits = refl; lengths = refl }
