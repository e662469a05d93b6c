-- A piece of a recording fed in parts, as often as the buffer for the lines is full: what holds between the parts. And how long the last line is.
use Rattle.std.proofs.Common.{◌≡◌, refl, sym, ap, ◌∙◌, ℕ, ◌+◌, ◌≤◌, ◌<◌, ◌==◌, Bool, true, false, ◌||◌, List, length, take, drop, take_all, arith}
use Rattle.std.proofs.lemmas.List.{length-take, length-drop, take-append-drop}
use Prim.Native.Nat.{zero, suc}
use Rattle.recording.specs.Format.{longest}
use Rattle.recording.specs.Gathering.{partial}
use Rattle.replay.specs.declared.Replay.{Replay}
use Rattle.replay.specs.declared.Taken.{Taken}
use Rattle.replay.specs.Replay.{Fed, fed, ending_of}
use Rattle.replay.specs.Code.{state_of, begun, ready, longest_line, FedOn}
use Rattle.replay.proofs.Cuts.{fed-parts}
use Rattle.replay.proofs.Steps.{ready_with}
use Rattle.replay.proofs.Feeding.{fed-nothing}
use Rattle.replay.proofs.Lengths.{length_cut}

-- at the beginning a buffer for the longest record is ready
pub ready-begun : (s : Replay) (p : List ℕ) → s ≡ begun → longest ≤ length p → ready s p ≡ true
unfolding partial
ready-begun s p e l = rw e (ready_with begun p l refl)

-- what is printed when the recording ends is no longer than the longest line
pub ending-fits : (n have : ℕ) (ended : Bool) → length (ending_of n have ended) ≤ longest_line
unfolding ending_of
ending-fits n have ended = split (ended || have == 0) refl
  where
    split : (t : Bool) → ended || have == 0 ≡ t → length (ending_of n have ended) ≤ longest_line
    split true e = rw e (omega arith)
    split false e = rw e (length_cut n)

module _ {s : Replay} {m t p part out : List ℕ} {r : Taken} {m' t' p' out' : List ℕ} where
  -- no bytes give no lines
  none : ready s p ≡ true → FedOn s m t p part out r m' t' p' out' → r.taken ≡ 0 → r.written ≡ 0
  none e f z =
      f.lines.place ∙ ap (λ (n : ℕ). 0 + length (fed (state_of s m t p) (take n part)).lines) z
      ∙ ap (λ (f : Fed). 0 + length f.lines) (fed-nothing s m t p e)

  -- where there is room for a line, some of a part is taken
  pub some : ready s p ≡ true → FedOn s m t p part out r m' t' p' out' → longest_line ≤ length out → 0 < length part → 0 < r.taken
  some e f l b = split r.taken refl
    where
      split : (n : ℕ) → r.taken ≡ n → 0 < r.taken
      split zero z = absurd (omega (arith, none e f z, f.all (omega arith)))
      split (suc n) z = omega arith

-- between the parts: the rest of the piece gives, to what is there, what the whole piece gives at the start
pub record Going (s : Replay) (m t p piece : List ℕ) (replay : Replay) (m' t' p' rest : List ℕ) : Type 0 where
  pub state : (fed (state_of replay m' t' p') rest).state ≡ (fed (state_of s m t p) piece).state
  pub ready : ready replay p' ≡ true

module _ {s : Replay} {m t p piece : List ℕ} where
  pub going-first : ready s p ≡ true → Going s m t p piece s m t p piece
  going-first e = record { state = refl; ready = e }

  module _ {replay : Replay} {m' t' p' rest : List ℕ} (g : Going s m t p piece replay m' t' p' rest) where
    pub going_next : {out : List ℕ} {r : Taken} {m'' t'' p'' out' rest' : List ℕ} → FedOn replay m' t' p' rest out r m'' t'' p'' out' → rest' ≡ drop r.taken rest
        → Going s m t p piece r.replay m'' t'' p'' rest'
    going_next {r = r} f e =
        record {
          state = rw e (ap (λ v. (fed v (drop r.taken rest)).state) f.state
              ∙ sym (ap (λ (f : Fed). f.state) (ap (fed (state_of replay m' t' p')) (sym (take-append-drop r.taken rest)) ∙ fed-parts (state_of replay m' t' p') (take r.taken rest) (drop r.taken rest)))
              ∙ g.state);
          ready = f.ready;
        }

    -- all of it is fed
    pub going-all : length rest ≤ 0 → state_of replay m' t' p' ≡ (fed (state_of s m t p) piece).state
    going-all l =
        sym (ap (λ (f : Fed). f.state) (fed-nothing replay m' t' p' g.ready))
        ∙ ap (λ q. (fed (state_of replay m' t' p') q).state) (take_all 0 rest l) ∙ g.state

-- what is left of a piece is shorter, where some of it is taken
pub rest_shorter : (n k : ℕ) (q : List ℕ) → 0 < k → 0 < length q → length (take n (drop k q)) < length q
rest_shorter n k q a b = simp (length-take, length-drop) (omega (arith, a, b))
