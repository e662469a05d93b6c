-- One record: whole, not whole, or with a bad header.
use mathlib.Core.Bool.{Bool, true, false}
use mathlib.Core.Path.{◌≡◌, refl, ap, ◌∙◌}
use mathlib.Core.List.{List, [], ◌++◌, append-nil}
use Prim.Native.Nat.{ℕ, ◌≤◌, ◌<◌}
use native.Mathlib.Omega.{arith}
use lib.Dec.{ltb}
use lib.ListN.{length, length-append, drop_of_length-le}
use borrow.Author.Tests.{ltb-true, ltb-false, ne_eqb}
use Rattle.recording.specs.Format.{header_length, good_header, record_length}
use Rattle.replay.specs.Replay.{State, Fed, following, waiting, spoilt, after, effect_of, line_of, through, fed, ending_of, ending}
use Rattle.replay.proofs.Headers.{append-header, same_good}
use Rattle.replay.proofs.Records.{through-short, through-bad, through-part, through-whole}
use Rattle.replay.proofs.Cuts.{then, fed-parts}
use Rattle.replayed.specs.Claims.{Between, past, RecordByRecord, CutIsNotApplied, BadEnds, WholeEndsQuietly}

-- between two records the bytes are all there is
fed-between : (s : State) (r : List ℕ) → Between s → fed s r ≡ through s.number s.world r
unfolding fed
fed-between s r b = rw (b.on, b.none)

-- a whole record
whole : (s : State) (r : List ℕ) → Between s → good_header r ≡ true → length r ≡ record_length r
    → fed s r ≡ after (line_of s.number s.world r) (waiting (following s.number) (effect_of s.world r).world [])
whole s r b g l =
    fed-between s r b ∙ through-whole s.number s.world r g (omega (arith, l))
    ∙ ap (after (line_of s.number s.world r))
    (ap (through (following s.number) (effect_of s.world r).world) (drop_of_length-le r {i = record_length r} (omega (arith, l)))
    ∙ through-short (following s.number) (effect_of s.world r).world [] (omega arith))

pub record-by-record : RecordByRecord
record-by-record s r more b g l =
    let f = fed (past s (effect_of s.world r)) more in
    fed-parts s r more ∙ ap (λ (f : Fed). then f more) (whole s r b g l)
    ∙ ap (λ (k : List ℕ). record { state = f.state; lines = k ++ f.lines }) (append-nil (line_of s.number s.world r))

-- what waits
waits : (s : State) (r : List ℕ) → Between s → (header_length ≤ length r → (good_header r ≡ true) × (length r < record_length r))
    → fed s r ≡ waiting s.number s.world r
waits s r b k = fed-between s r b ∙ split (ltb (length r) header_length) refl
  where
    split : (t : Bool) → ltb (length r) header_length ≡ t → through s.number s.world r ≡ waiting s.number s.world r
    split true e = through-short s.number s.world r (ltb-true (length r) header_length e)
    split false e =
        let l = ltb-false (length r) header_length e in
        through-part s.number s.world r l (k l).0 (k l).1

pub cut-is-not-applied : CutIsNotApplied
unfolding ending_of
cut-is-not-applied s r b k =
    let f = waits s r b k in
    record {
      world = ap (λ (f : Fed). f.state.world) f;
      number = ap (λ (f : Fed). f.state.number) f;
      ended = ap (λ (f : Fed). f.state.ended) f;
      rest = ap (λ (f : Fed). f.state.rest) f;
      lines = ap (λ (f : Fed). f.lines) f;
      end = λ l. ap (λ (f : Fed). ending f.state) f ∙ rw (ne_eqb (length r) 0 (λ e. absurd (omega (arith, e, l))));
    }

-- a bad header
spoils : (s : State) (r more : List ℕ) → Between s → length r ≡ header_length → good_header r ≡ false → fed s (r ++ more) ≡ spoilt s.number s.world
spoils s r more b l g =
    fed-between s (r ++ more) b
    ∙ through-bad s.number s.world (r ++ more) (rw (length-append r more) (omega (arith, l))) (same_good (append-header r more (omega (arith, l))) ∙ g)

pub bad-ends : BadEnds
unfolding ending_of
bad-ends s r more b l g =
    let f = spoils s r more b l g in
    record {
      world = ap (λ (f : Fed). f.state.world) f;
      number = ap (λ (f : Fed). f.state.number) f;
      ended = ap (λ (f : Fed). f.state.ended) f;
      lines = ap (λ (f : Fed). f.lines) f;
      end = ap (λ (f : Fed). ending f.state) f;
    }

-- nothing is left at the end
pub whole-ends-quietly : WholeEndsQuietly
unfolding ending_of
whole-ends-quietly s b = rw (b.on, b.none)
