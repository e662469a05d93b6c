-- What a step gives back is what the first bytes of the buffer give.
use Rattle.std.proofs.Common.{◌≡◌, ℕ, ◌+◌, ◌≤◌, Bool, true, false, true≢false, List, [], length, take, sym, ap, append-nil, arith}
use Rattle.text.specs.Buffer.{Put}
use Rattle.text.specs.declared.Buffer.{Buffer}
use Rattle.text.proofs.Puts.{put-nothing}
use Rattle.hart.specs.declared.record.Hart.{Hart}
use Rattle.world.specs.World.{World, lent}
use Rattle.recording.specs.Format.{header_length, longest, kind_of, good_header, record_length}
use Rattle.recording.specs.Gathering.{partial}
use Rattle.recording.proofs.Good.{partial-short}
use Rattle.apply.specs.declared.Applied.{Applied}
use Rattle.apply.specs.Effects.{memory_base, Has}
use Rattle.replay.specs.declared.Replay.{Replay}
use Rattle.replay.specs.Lines.{line, bad_line}
use Rattle.replay.specs.Replay.{Fed, following, effect_of, line_of, through}
use Rattle.replay.specs.Code.{longest_line}
use Rattle.replay.specs.Inner.{Told}
use Rattle.replay.proofs.Steps.{waits, ends, applies, ready_with}

-- a replay that goes on
abbrev pub going : Hart → ℕ → ℕ → Replay
going h n have = record { hart = h; number = n; have = have; ended = false }

-- one that a bad header has ended
abbrev pub over : Hart → ℕ → Replay
over h n = record { hart = h; number = n; have = 0; ended = true }

module _ (h : Hart) (n : ℕ) (memory table p : List ℕ) {b : Buffer ℕ} (room : longest ≤ length p) where
  pub told-waiting : (have : ℕ) → partial p have ≡ true → have ≤ longest
      → Told (through n (lent h memory_base memory table) (take have p)) b (going h n have) memory table p b
  told-waiting have e few =
      let f = waits n (lent h memory_base memory table) p room have e few in
      record {
        state = sym (ap (λ (f : Fed). f.state) f);
        lines = rw f (put-nothing b);
        room = omega arith;
        ready = ready_with (going h n have) p room e;
      }

  -- with `ended` as it was
  pub told-still : (have : ℕ) → partial p have ≡ true → have ≤ longest → (ended : Bool) → ended ≡ false
      → Told (through n (lent h memory_base memory table) (take have p)) b (record { hart = h; number = n; have = have; ended = ended }) memory table p b
  told-still have e few true f = absurd (true≢false f)
  told-still have e few false f = told-waiting have e few

  pub told-bad : {b' : Buffer ℕ} → good_header p ≡ false → Put b (bad_line n) b' → b'.at ≤ b.at + longest_line
      → Told (through n (lent h memory_base memory table) (take header_length p)) b (over h n) memory table p b'
  told-bad e puts most =
      let f = ends n (lent h memory_base memory table) p room e in
      record {
        state = sym (ap (λ (f : Fed). f.state) f);
        lines = rw f puts;
        room = most;
        ready = ready_with (over h n) p room (partial-short p 0 (omega arith));
      }

  -- the record is the one that the bytes q begin with
  pub told-applied : {b' : Buffer ℕ} (q : List ℕ) (r : Applied) (memory' table' : List ℕ) (number : ℕ) → good_header q ≡ true → record_length q ≤ length q
      → Has (effect_of (lent h memory_base memory table) q) memory_base r memory' table' → number ≡ following n
      → Put b (line n (kind_of q) r.answer r.steps r.removed (effect_of (lent h memory_base memory table) q).reports) b' → b'.at ≤ b.at + longest_line
      → Told (through n (lent h memory_base memory table) (take (record_length q) q)) b (going r.hart number 0) memory' table' p b'
  told-applied q r memory' table' number g fits has e puts most =
      let f = applies n (lent h memory_base memory table) q g fits in
      record {
        state = rw (f, e) (ap (λ (v : World). record { world = v; number = following n; rest = []; ended = false }) has.world);
        lines =
            rw (f, append-nil (line_of n (lent h memory_base memory table) q))
            (rw (has.answer, has.steps, has.removed) at puts);
        room = most;
        ready = ready_with (going r.hart number 0) p room (partial-short p 0 (omega arith));
      }
