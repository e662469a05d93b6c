-- A part fed step by step: what holds between the steps, at the beginning and at the end.
use Rattle.std.proofs.Common.{◌≡◌, ℕ, ◌+◌, ◌-◌, ◌<◌, ◌≤◌, Bool, true, false, ltb, List, [], ◌++◌, length, take, drop, sym, refl, ap, ◌∙◌, ap₂, append-nil, arith, length-drop, take-append-drop, take-add, take_all, ltb-false, ltb-true}
use lib.Seq.{take-length}
use Rattle.text.specs.Buffer.{Put}
use Rattle.text.specs.declared.Buffer.{Buffer}
use Rattle.text.proofs.Writing.{wrote-length}
use Rattle.text.proofs.Puts.{put-nothing, ◌then◌, put-at}
use Rattle.hart.specs.declared.record.Hart.{Hart}
use Rattle.world.specs.World.{lent}
use Rattle.recording.specs.Format.{header_length, longest}
use Rattle.recording.specs.Gathering.{partial}
use Rattle.recording.proofs.Good.{good-bounds, partial-good}
use Rattle.apply.specs.Effects.{memory_base}
use Rattle.replay.specs.declared.Replay.{Replay}
use Rattle.replay.specs.Replay.{State, Fed, following, fed}
use Rattle.replay.specs.Code.{state_of, ready, longest_line, FedOn}
use Rattle.replay.specs.Inner.{Stepped, between, store_ahead}
use Rattle.replay.proofs.Ahead.{store-parts}
use Rattle.replay.proofs.Cuts.{fed-parts}
use Rattle.replay.proofs.Gathers.{ready-parts}
use Rattle.replay.proofs.Steps.{waits}

-- the rest of a part
pub part-rest : (taken : ℕ) (part : List ℕ) → take (length part - taken) (drop taken part) ≡ drop taken part
part-rest taken part = take_all (length part - taken) (drop taken part) (simp length-drop (omega arith))

-- nothing is read after a bad header
pub fed-ended : (s : State) (more : List ℕ) → s.ended ≡ true → fed s more ≡ record { state = s; lines = [] }
unfolding fed
fed-ended s more e = rw e

-- what is there of a record is less than the longest
partial-most : (p : List ℕ) (h : ℕ) → partial p h ≡ true → h ≤ longest
partial-most p h e = split (ltb h header_length) refl
  where
    split : (t : Bool) → ltb h header_length ≡ t → h ≤ longest
    split true l = omega (arith, ltb-true h header_length l)
    split false l = let g = partial-good p h (ltb-false h header_length l) e in omega (arith, g.1, good-bounds _ _ g.0)

-- no bytes give nothing
pub fed-nothing : (s : Replay) (memory table p : List ℕ) → ready s p ≡ true → fed (state_of s memory table p) [] ≡ record { state = state_of s memory table p; lines = [] }
unfolding fed
fed-nothing s memory table p e = split s.ended refl
  where
    split : (t : Bool) → s.ended ≡ t → fed (state_of s memory table p) [] ≡ record { state = state_of s memory table p; lines = [] }
    split true f = fed-ended (state_of s memory table p) [] f
    split false f =
        let r = ready-parts s p e in
        rw (f, append-nil (take s.have p)) (waits s.number (lent s.hart memory_base memory table) p r.0 s.have r.1 (partial-most p s.have r.1))

-- between the steps: so much of the part is taken, and what is there is what that much of it gives
pub record Running (s : Replay) (m t p part : List ℕ) (b : Buffer ℕ) (replay : Replay) (taken : ℕ) (m' t' p' : List ℕ) (b' : Buffer ℕ) : Type 0 where
  pub within : taken ≤ length part
  pub state : state_of replay m' t' p' ≡ (fed (state_of s m t p) (take taken part)).state
  pub lines : Put b (fed (state_of s m t p) (take taken part)).lines b'
  pub room : b'.at ≤ length b'.out.now
  pub ready : ready replay p' ≡ true

module _ {s : Replay} {m t p part : List ℕ} {b : Buffer ℕ} where
  pub running-first : ready s p ≡ true → b.at ≡ 0 → Running s m t p part b s 0 m t p b
  running-first e start =
      let f = fed-nothing s m t p e in
      record {
        within = omega arith;
        state = sym (ap (λ (f : Fed). f.state) f);
        lines = rw f (put-nothing b);
        room = omega (arith, start);
        ready = e;
      }

  module _ {replay : Replay} {taken : ℕ} {m' t' p' : List ℕ} {b' : Buffer ℕ} (k : Running s m t p part b replay taken m' t' p' b') where
    -- more of the part
    more : (q : List ℕ) → fed (state_of s m t p) (take taken part ++ q)
        ≡ record { state = (fed (state_of replay m' t' p') q).state; lines = (fed (state_of s m t p) (take taken part)).lines ++ (fed (state_of replay m' t' p') q).lines }
    more q = fed-parts (state_of s m t p) (take taken part) q ∙ rw (sym k.state)

    -- a step
    pub running-next : {r : Replay} {count : ℕ} {m'' t'' p'' : List ℕ} {b'' : Buffer ℕ} → Stepped replay m' t' p' (drop taken part) b' r count m'' t'' p'' b''
        → longest_line ≤ length b'.out.now - b'.at → Running s m t p part b r (taken + count) m'' t'' p'' b''
    running-next {count = count} g most =
        let e = ap (fed (state_of s m t p)) (take-add taken count part) ∙ more (take count (drop taken part)) in
        record {
          within = omega (arith, k.within, rw (length-drop taken part) at g.within);
          state = g.told.state ∙ sym (ap (λ (f : Fed). f.state) e);
          lines = rw e (k.lines then g.told.lines);
          room = omega (arith, g.told.room, k.room, wrote-length g.told.lines.wrote);
          ready = g.told.ready;
        }

    -- a record straight from the part
    pub running-store : {count : ℕ} {m'' t'' : List ℕ} {b'' : Buffer ℕ} → store_ahead replay.have (take (length part - taken) (drop taken part)) ≡ true → replay.ended ≡ false
        → ((h : Hart) (pending : List ℕ) → longest ≤ length pending
        → Stepped (between h replay.number) m' t' pending (take (length part - taken) (drop taken part)) b' (between h (following replay.number)) count m'' t'' pending b'')
        → longest_line ≤ length b'.out.now - b'.at
        → (0 < count) × Running s m t p part b (record { hart = replay.hart; number = following replay.number; have = replay.have; ended = replay.ended }) (taken + count) m'' t'' p' b''
    running-store {count = count} {m'' = m''} {t'' = t''} {b'' = b''} a o g most =
        let first = (store-parts replay.have (take (length part - taken) (drop taken part)) a).first in
        let step : Stepped replay m' t' p' (drop taken part) b' (between replay.hart (following replay.number)) count m'' t'' p' b'' =
        rw (← part-rest taken part) (rw (same first) at (g replay.hart p' (ready-parts replay p' k.ready).0)) in
        (step.some, rw (first, o) (running-next step most))
      where
        same : replay.have ≡ 0 → between replay.hart replay.number ≡ replay
        same f =
            sym (ap₂ (λ (h : ℕ) (e : Bool). record { hart = replay.hart; number = replay.number; have = h; ended = e }) f o)

    module _ {out : List ℕ} (lent-out : b.out.now ≡ out) (start : b.at ≡ 0) where
      -- the end, where a bad header has ended the replay: the rest of the part is taken unread
      pub running-over : replay.ended ≡ true
          → FedOn s m t p part out (record { replay = replay; taken = length part; written = b'.at }) m' t' p' b'.out.now
      running-over o =
          record {
            within = omega arith;
            state = k.state ∙ sym (ap (λ (f : Fed). f.state) e);
            lines = rw e (put-at lent-out start k.lines);
            room = rw (← lent-out, ← wrote-length k.lines.wrote) k.room;
            all = λ l. absurd (omega arith);
            ready = k.ready;
          }
        where
          -- the rest gives nothing
          e : fed (state_of s m t p) (take (length part) part) ≡ fed (state_of s m t p) (take taken part)
          e =
              ap (fed (state_of s m t p)) (take-length part ∙ sym (take-append-drop taken part)) ∙ more (drop taken part)
              ∙ rw (fed-ended (state_of replay m' t' p') (drop taken part) o, append-nil (fed (state_of s m t p) (take taken part)).lines) (ap (λ (v : State). record { state = v; lines = (fed (state_of s m t p) (take taken part)).lines }) k.state)

      -- the end, where all is taken or there is no room for a line
      pub running-last : (taken < length part → length b'.out.now - b'.at < longest_line)
          → FedOn s m t p part out (record { replay = replay; taken = taken; written = b'.at }) m' t' p' b'.out.now
      running-last a =
          let long : length b'.out.now ≡ length out = wrote-length k.lines.wrote ∙ ap length lent-out in
          record {
            within = k.within;
            state = k.state;
            lines = put-at lent-out start k.lines;
            room = omega (arith, long, k.room);
            all = λ l. omega (arith, a l, long);
            ready = k.ready;
          }
