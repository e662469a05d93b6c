-- Stops one after the other, and the end of a list of them.
use mathlib.Core.Path.{◌≡◌, refl, ap, ◌∙◌}
use mathlib.Core.Bool.{false}
use mathlib.Core.List.{List, [], ◌∷◌, ◌++◌}
use Prim.Native.Nat.{ℕ, ◌+◌, ◌<◌, ◌≤◌}
use native.Mathlib.Numerals.{add-one}
use lib.ListN.{length, take, get_or}
use lib.Seq.{take-suc, take_all}
use Rattle.world.specs.World.{World}
use Rattle.checks.specs.Checks.{sync_answer}
use Rattle.checks.specs.Codes.{accepted}
use Rattle.stops.specs.Sync.{stoppable}
use Rattle.stops.specs.Stops.{after_stops}
use Rattle.stops.proofs.Forms.{stop-refused}

module _ (eid fid a : ℕ) where
  -- no stop
  pub no_stop : (w : World) → w ≡ after_stops [] eid fid a w
  unfolding after_stops
  no_stop w = refl

  -- one stop more
  pub after_more : (ms : List ℕ) (n : ℕ) (w : World) → after_stops (ms ++ (n ∷ [])) eid fid a w ≡ stoppable n eid fid a (after_stops ms eid fid a w)
  unfolding after_stops
  after_more [] n w = refl
  after_more (m ∷ ms) n w = after_more ms n (stoppable m eid fid a w)

  -- the stop at place i of a list
  pub after_next : (ns : List ℕ) (i : ℕ) (w : World) → i < length ns
      → after_stops (take (i + 1) ns) eid fid a w ≡ stoppable (get_or ns i 0) eid fid a (after_stops (take i ns) eid fid a w)
  after_next ns i w h = rw (add-one, take-suc ns i 0) (after_more (take i ns) (get_or ns i 0) w)

  -- from the end of a list on there is no further stop
  pub all-stops : (ns : List ℕ) (i : ℕ) (w : World) {v : World} → length ns ≤ i → v ≡ after_stops (take i ns) eid fid a w → v ≡ after_stops ns eid fid a w
  all-stops ns i w h e = e ∙ ap (λ (ms : List ℕ). after_stops ms eid fid a w) (take_all i ns h)

  -- stops of a refused call change nothing
  pub refused-stops : (ns : List ℕ) (w : World) → accepted (sync_answer eid fid a w) ≡ false → after_stops ns eid fid a w ≡ w
  unfolding after_stops
  refused-stops [] w r = refl
  refused-stops (n ∷ ns) w r = ap (after_stops ns eid fid a) (stop-refused n eid fid a w r) ∙ refused-stops ns w r
