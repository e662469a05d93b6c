-- Bytes that come later: a recording fed in parts gives what it gives whole, whatever the cuts.
use Rattle.std.proofs.Common.{◌≡◌, ℕ, zero, suc, ◌≤◌, Bool, true, false, ltb, List, ◌++◌, length, drop, sym, refl, ap, ◌∙◌, ap₂, append_assoc, append-nil, arith, length-append, length-drop, ltb-false, ltb-true}
use lib.Seq.{take-append-le, drop-append-le}
use Rattle.world.specs.World.{World}
use Rattle.recording.specs.Format.{header_length, body_length, good_header, record_length}
use Rattle.apply.specs.Effects.{effect}
use Rattle.replay.specs.Lines.{bad_line}
use Rattle.replay.specs.Replay.{State, Fed, following, waiting, spoilt, after, effect_of, line_of, through, fed}
use Rattle.replay.proofs.Headers.{SameHeader, append-header, same_good, same_end}
use Rattle.replay.proofs.Records.{through-short, through-bad, through-part, through-whole}

-- either way of a test
either : {P : Type 0} (t : Bool) → (t ≡ true → P) → (t ≡ false → P) → P
either true f g = f refl
either false f g = g refl

-- what more bytes give after what was given already
abbrev pub then : Fed → List ℕ → Fed
then f more = after f.lines (fed f.state more)

-- a record that is not whole goes on
then-waiting : (n : ℕ) (w : World) (bytes more : List ℕ) → then (waiting n w bytes) more ≡ through n w (bytes ++ more)
unfolding fed
then-waiting n w bytes more = refl

-- nothing is read after a bad header
then-spoilt : (n : ℕ) (w : World) (more : List ℕ) → then (spoilt n w) more ≡ spoilt n w
unfolding fed
then-spoilt n w more = ap (λ (l : List ℕ). record { state = (spoilt n w).state; lines = l }) (append-nil (bad_line n))

-- lines before others
then-after : (l : List ℕ) (f : Fed) (more : List ℕ) → then (after l f) more ≡ after l (then f more)
then-after l f more =
    ap (λ (k : List ℕ). record { state = (fed f.state more).state; lines = k }) (append_assoc l f.lines (fed f.state more).lines)

-- a whole record is the same with others behind it
module _ (w : World) (bytes more : List ℕ) (s : record_length bytes ≤ length bytes) where
  same_effect : effect_of w (bytes ++ more) ≡ effect_of w bytes
  same_effect =
      ap₂ (λ (k : ℕ) (b : List ℕ). effect k b w) h.kind
      (rw (h.length, drop-append-le header_length bytes more (omega arith))
      (take-append-le (body_length bytes) (drop header_length bytes) more (simp length-drop (omega arith))))
    where
      h : SameHeader (bytes ++ more) bytes
      h = append-header bytes more (omega arith)

  same_line : (n : ℕ) → line_of n w (bytes ++ more) ≡ line_of n w bytes
  same_line n = rw (same_effect, (append-header bytes more (omega arith)).kind)

  same_rest : drop (record_length (bytes ++ more)) (bytes ++ more) ≡ drop (record_length bytes) bytes ++ more
  same_rest = rw (same_end (append-header bytes more (omega arith))) (drop-append-le (record_length bytes) bytes more s)

-- the records of bytes with others behind them: those of the bytes, and then those of the others, if that is so of the rest after a whole record
module _ (n : ℕ) (w : World) (bytes more : List ℕ) where
  abbrev Cut : ℕ → World → List ℕ → Type 0
  Cut n w bytes = through n w (bytes ++ more) ≡ then (through n w bytes) more

  from : {f : Fed} → through n w bytes ≡ f → through n w (bytes ++ more) ≡ then f more → Cut n w bytes
  from e p = p ∙ ap (λ (f : Fed). then f more) (sym e)

  bad : header_length ≤ length bytes → good_header bytes ≡ false → Cut n w bytes
  bad l g =
      from (through-bad n w bytes l g)
      (through-bad n w (bytes ++ more) (simp length-append (omega arith)) (same_good (append-header bytes more l) ∙ g) ∙ sym (then-spoilt n w more))

  whole : Cut (following n) (effect_of w bytes).world (drop (record_length bytes) bytes) → good_header bytes ≡ true → record_length bytes ≤ length bytes
      → Cut n w bytes
  whole rest g s =
      from (through-whole n w bytes g s)
      (through-whole n w (bytes ++ more) (same_good h ∙ g) (rw (same_end h, length-append bytes more) (omega arith))
      ∙ middle ∙ sym (then-after (line_of n w bytes) (through (following n) (effect_of w bytes).world (drop (record_length bytes) bytes)) more))
    where
      h : SameHeader (bytes ++ more) bytes
      h = append-header bytes more (omega arith)

      middle : after (line_of n w (bytes ++ more)) (through (following n) (effect_of w (bytes ++ more)).world (drop (record_length (bytes ++ more)) (bytes ++ more)))
          ≡ after (line_of n w bytes) (then (through (following n) (effect_of w bytes).world (drop (record_length bytes) bytes)) more)
      middle = rw (same_line w bytes more s n, same_effect w bytes more s, same_rest w bytes more s, rest)

  cut_step : (header_length ≤ length bytes → Cut (following n) (effect_of w bytes).world (drop (record_length bytes) bytes)) → Cut n w bytes
  cut_step rest =
      either (ltb (length bytes) header_length) (λ e. from (through-short n w bytes (ltb-true _ _ e)) (sym (then-waiting n w bytes more)))
      (λ e. either (good_header bytes)
      (λ g. either (ltb (length bytes) (record_length bytes))
      (λ s. from (through-part n w bytes (ltb-false _ _ e) g (ltb-true _ _ s)) (sym (then-waiting n w bytes more)))
      (λ s. whole (rest (ltb-false _ _ e)) g (ltb-false _ _ s)))
      (bad (ltb-false _ _ e)))

cut_at : (k n : ℕ) (w : World) (bytes more : List ℕ) → length bytes ≤ k → through n w (bytes ++ more) ≡ then (through n w bytes) more
cut_at zero n w bytes more b = cut_step n w bytes more (λ l. absurd (omega arith))
cut_at (suc k) n w bytes more b =
    cut_step n w bytes more
    (λ l. cut_at k (following n) (effect_of w bytes).world (drop (record_length bytes) bytes) more (simp length-drop (omega arith)))

-- feeding a part and then another is feeding both as one
pub fed-parts : (s : State) (p q : List ℕ) → fed s (p ++ q) ≡ then (fed s p) q
unfolding fed
fed-parts s p q = either s.ended over on
  where
    over : s.ended ≡ true → fed s (p ++ q) ≡ then (fed s p) q
    over e = rw e

    on : s.ended ≡ false → fed s (p ++ q) ≡ then (fed s p) q
    on e =
        rw e
        (ap (through s.number s.world) (sym (append_assoc s.rest p q))
        ∙ cut_at (length (s.rest ++ p)) s.number s.world (s.rest ++ p) q (omega arith))
