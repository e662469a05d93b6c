-- What the first bytes of the buffer give: a record that is not whole waits, a bad header ends the replay, and a whole record is applied.
use Rattle.std.proofs.Common.{◌≡◌, ℕ, ◌≤◌, Bool, true, false, ltb, List, [], length, take, drop, refl, ap, ◌∙◌, ap₂, arith, drop_of_length-le, length-take-le, take-take, take-add, drop_at, ltb-false, ltb-true, le-leb}
use Rattle.world.specs.World.{World}
use Rattle.recording.specs.Format.{header_length, longest, body_length, good_header, record_length}
use Rattle.recording.specs.Gathering.{partial}
use Rattle.recording.proofs.Good.{partial-good}
use Rattle.apply.specs.Effects.{effect}
use Rattle.replay.specs.declared.Replay.{Replay}
use Rattle.replay.specs.Replay.{following, waiting, spoilt, after, effect_of, line_of, through}
use Rattle.replay.specs.Code.{ready}
use Rattle.replay.proofs.Headers.{SameHeader, take-header, same_good, same_end}
use Rattle.replay.proofs.Records.{through-short, through-bad, through-part, through-whole}

module _ (n : ℕ) (w : World) (p : List ℕ) (room : longest ≤ length p) where
  -- the beginning of a record waits
  pub waits : (h : ℕ) → partial p h ≡ true → h ≤ longest → through n w (take h p) ≡ waiting n w (take h p)
  waits h e b = split (ltb h header_length) refl
    where
      size : length (take h p) ≡ h
      size = length-take-le h p (omega arith)

      split : (t : Bool) → ltb h header_length ≡ t → through n w (take h p) ≡ waiting n w (take h p)
      split true l = through-short n w (take h p) (rw size (ltb-true h header_length l))
      split false l =
          let g = partial-good p h (ltb-false h header_length l) e in
          let t = take-header h p (ltb-false h header_length l) in
          through-part n w (take h p) (rw size (ltb-false h header_length l)) (same_good t ∙ g.0) (rw (size, same_end t) g.1)

  -- a bad header ends it
  pub ends : good_header p ≡ false → through n w (take header_length p) ≡ spoilt n w
  ends e =
      through-bad n w (take header_length p) (rw (length-take-le header_length p (omega arith)) (omega arith))
      (same_good (take-header header_length p (omega arith)) ∙ e)

-- a buffer is ready that has room and the beginning of a record
pub ready_with : (s : Replay) (p : List ℕ) → longest ≤ length p → partial p s.have ≡ true → ready s p ≡ true
unfolding ready
ready_with s p l e = rw (le-leb longest (length p) l, e)

-- a whole record is applied, and no byte is left
module _ (n : ℕ) (w : World) (p : List ℕ) (g : good_header p ≡ true) (fits : record_length p ≤ length p) where
  same : SameHeader (take (record_length p) p) p
  same = take-header (record_length p) p (omega arith)

  body : drop header_length (take (record_length p) p) ≡ take (body_length p) (drop header_length p)
  body =
      ap (drop header_length) (take-add header_length (body_length p) p)
      ∙ drop_at (take header_length p) (take (body_length p) (drop header_length p)) header_length (length-take-le header_length p (omega arith))

  same_effect : effect_of w (take (record_length p) p) ≡ effect_of w p
  same_effect =
      ap₂ (λ (k : ℕ) (b : List ℕ). effect k b w) same.kind
      (rw (same.length, body) (take-take (body_length p) (body_length p) (drop header_length p) (omega arith)))

  pub applies : through n w (take (record_length p) p) ≡ after (line_of n w p) (waiting (following n) (effect_of w p).world [])
  applies =
      through-whole n w (take (record_length p) p) (same_good same ∙ g) (rw (same_end same, length-take-le (record_length p) p fits) (omega arith))
      ∙ rw (same_effect, same.kind, same_end same) (ap (after (line_of n w p)) none)
    where
      none : through (following n) (effect_of w p).world (drop (record_length p) (take (record_length p) p)) ≡ waiting (following n) (effect_of w p).world []
      none =
          ap (through (following n) (effect_of w p).world)
          (drop_of_length-le (take (record_length p) p) {i = record_length p} (rw (length-take-le (record_length p) p fits) (omega arith)))
          ∙ through-short (following n) (effect_of w p).world [] (omega arith)
