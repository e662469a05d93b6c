-- A part of the input gathered towards what is wanted: how much of it, what the buffer then holds, and what it gives.
use Rattle.std.proofs.Common.{◌≡◌, ℕ, ◌+◌, ◌-◌, ◌<◌, ◌≤◌, Bool, true, false, ltb, leb, List, ◌++◌, length, get_or, take, sym, refl, ap, ◌∙◌, arith, length-take-le, get_or-take, ltb-false, ltb-true, le-ltb, lt-ltb, leb-true}
use mathlib.Core.Bool.{and-eq-true_iff}
use lib.ListN.{get_or-append}
use Rattle.world.specs.World.{lent}
use Rattle.recording.specs.Format.{header_length, longest, good_header, record_length}
use Rattle.recording.specs.Gathering.{partial, goal_of, count_of}
use Rattle.recording.proofs.Good.{partial-good, partial-short, partial-long}
use Rattle.apply.specs.Effects.{memory_base}
use Rattle.replay.specs.declared.Replay.{Replay}
use Rattle.text.specs.declared.Buffer.{Buffer}
use Rattle.replay.specs.Replay.{through, fed}
use Rattle.replay.specs.Code.{state_of, ready}
use Rattle.replay.specs.Inner.{Told, Stepped}
use Rattle.replay.proofs.Headers.{SameHeader, same-header, same_good, same_end}

-- what a ready buffer is
pub ready-parts : (s : Replay) (p : List ℕ) → ready s p ≡ true → (longest ≤ length p) × (partial p s.have ≡ true)
unfolding ready
ready-parts s p e = let f = (and-eq-true_iff (leb longest (length p)) (partial p s.have)).0 e in (leb-true longest (length p) f.0, f.1)

-- what is known of a buffer p that became p' as n bytes of a part were gathered towards the goal g
pub record Gathered (s : Replay) (p p' part : List ℕ) (g n : ℕ) : Type 0 where
  pub ready : ready s p ≡ true
  pub size : length p' ≡ length p
  pub goal : g ≡ goal_of p s.have
  pub less : s.have < g
  pub most : g ≤ longest
  pub count : n ≡ count_of s.have g (length part)
  pub bytes : take (s.have + n) p' ≡ take s.have p ++ take n part
  pub some : 0 < length part

module _ {s : Replay} {p p' part : List ℕ} {g n : ℕ} (k : Gathered s p p' part g n) where
  -- how much was gathered
  pub counted : (0 < n) × (n ≤ length part) × (s.have + n ≤ g)
  unfolding count_of
  counted = split (ltb (length part) (g - s.have)) refl
    where
      split : (t : Bool) → ltb (length part) (g - s.have) ≡ t → (0 < n) × (n ≤ length part) × (s.have + n ≤ g)
      split true e =
          let h = ltb-true (length part) (g - s.have) e in
          let c : n ≡ length part = k.count ∙ rw e in
          (omega (arith, k.some), omega arith, omega (arith, k.less))
      split false e =
          let h = ltb-false (length part) (g - s.have) e in
          let c : n ≡ g - s.have = k.count ∙ rw e in
          (omega (arith, k.less), omega arith, omega (arith, k.less))

  -- there is still room
  pub room : longest ≤ length p'
  room = rw k.size (ready-parts s p k.ready).0

  -- a header that was there stays
  stays : header_length ≤ s.have → SameHeader p' p
  stays l =
      same-header p' p
      (λ j b. sym (get_or-take (s.have + n) p' j 0 (omega arith)) ∙ ap (λ (q : List ℕ). get_or q j 0) k.bytes
      ∙ get_or-append (take s.have p) (take n part) 0 j (rw (length-take-le s.have p (omega (arith, (ready-parts s p k.ready).0, k.less, k.most))) (omega arith))
      ∙ get_or-take s.have p j 0 (omega arith))

  -- with the header there the goal is the record's end
  wanted : header_length ≤ s.have → (good_header p' ≡ true) × (g ≡ record_length p')
  unfolding goal_of
  wanted l =
      let h = partial-good p s.have l (ready-parts s p k.ready).1 in
      (same_good (stays l) ∙ h.0, k.goal ∙ rw (le-ltb s.have header_length l) (sym (same_end (stays l))))

  -- without it the goal is the header
  unwanted : s.have < header_length → g ≡ header_length
  unfolding goal_of
  unwanted l = k.goal ∙ rw (lt-ltb s.have header_length l)

  -- short of the goal the buffer holds the beginning of a record
  pub short : s.have + n < g → partial p' (s.have + n) ≡ true
  short b = split (ltb s.have header_length) refl
    where
      split : (t : Bool) → ltb s.have header_length ≡ t → partial p' (s.have + n) ≡ true
      split true e = partial-short p' (s.have + n) (omega (arith, unwanted (ltb-true s.have header_length e)))
      split false e =
          let l = ltb-false s.have header_length e in
          partial-long p' (s.have + n) (omega arith) (wanted l).0 ∙ lt-ltb (s.have + n) (record_length p') (omega (arith, (wanted l).1))

  -- at another goal than the header's end the buffer holds a whole record
  pub whole : (g ≡ header_length → ⊥) → (good_header p' ≡ true) × (g ≡ record_length p')
  whole other = split (ltb s.have header_length) refl
    where
      split : (t : Bool) → ltb s.have header_length ≡ t → (good_header p' ≡ true) × (g ≡ record_length p')
      split true e = absurd (other (unwanted (ltb-true s.have header_length e)))
      split false e = wanted (ltb-false s.have header_length e)

  -- what the buffer gives is what the part gives
  given : (memory table : List ℕ) → s.ended ≡ false
      → through s.number (lent s.hart memory_base memory table) (take (s.have + n) p') ≡ fed (state_of s memory table p) (take n part)
  unfolding fed
  given memory table e = rw (e, k.bytes)

  pub stepped : {memory table : List ℕ} {b : Buffer ℕ} {r : Replay} {memory' table' : List ℕ} {b' : Buffer ℕ} → s.ended ≡ false
      → Told (through s.number (lent s.hart memory_base memory table) (take (s.have + n) p')) b r memory' table' p' b'
      → Stepped s memory table p part b r n memory' table' p' b'
  stepped {memory = memory} {table = table} e t = record { some = counted.0; within = counted.1; told = rw (sym (given memory table e)) t }
