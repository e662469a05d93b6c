-- FID 3 for every entry leaves each slot as it was that no Pending entry names.
use mathlib.Core.Path.{◌≡◌, refl, subst}
use mathlib.Core.Bool.{Bool, true, false, ◌&&◌}
use mathlib.Core.List.{List, [], ◌∷◌, map}
use Prim.Native.Nat.{ℕ, ◌<◌}
use Rattle.layout.specs.declared.xlen.Xlen.{Xlen}
use Rattle.layout.specs.Width.{bytes}
use Rattle.layout.specs.Geometry.{entry_count}
use Rattle.hart.specs.Bits.{all_ones}
use Rattle.fence.specs.Slots.{slot_count}
use Rattle.fence.specs.Table.{names_slot}
use Rattle.page.specs.Entries.{every_entry, is_pending, fence_at}
use Rattle.world.specs.World.{World, width}
use Rattle.world.specs.State.{State, state_of}
use Rattle.turns.specs.Marks.{Pending}
use Rattle.turns.proofs.Numbers.{mem, mem-first, mem-more, every-below}
use Rattle.checks.specs.Fids.{fid_fence}
use Rattle.stops.proofs.Singly.{ones-ask}
use Rattle.nacl.specs.Calls.{call_left}
use Rattle.claims.specs.Events.{Call, page_in}
use Rattle.claims.specs.Claims.{any_names, Kept}
use Rattle.claims.proofs.Slots.{only-named-slots-change}

-- where none of these entries that is Pending names a slot, none of their marks does
none-names : (x : Xlen) (es : List ℕ) (s : State) (i : ℕ)
    → ((e : ℕ) → mem e es ≡ true → is_pending x s.page e ≡ true → names_slot (fence_at x s.page e) s.table i ≡ false)
    → any_names x (map Pending es) s i ≡ false
unfolding any_names
none-names x [] s i n = refl
none-names x (e ∷ es) s i n =
    rw (this (is_pending x s.page e) refl) (none-names x es s i (λ d m. n d (mem-more d e es m)))
  where
    this : (b : Bool) → is_pending x s.page e ≡ b → (b && names_slot (fence_at x s.page e) s.table i) ≡ false
    this true t = n e (mem-first e es) t
    this false t = refl

-- no entry that is Pending at the width x names slot i
abbrev Unnamed : Xlen → World → ℕ → Type 0
Unnamed x w i = (e : ℕ) → e < entry_count (bytes x) → is_pending x (page_in w w) e ≡ true → names_slot (fence_at x (page_in w w) e) w.table i ≡ false

at_width : (eid : ℕ) (w : World) (i : ℕ) → i < slot_count w.table → Unnamed (width w) w i → Kept w.table (call_left eid fid_fence (all_ones (width w)) 0 0 w).table i
at_width eid w i h n =
    (only-named-slots-change (Call eid fid_fence (all_ones (width w)) 0 0) w).others i h
    (rw (ones-ask (width w)).1 (none-names (width w) (every_entry (width w)) (state_of w) i (λ e m. n e (every-below (width w) e m))))

-- the same for a width that is the world's
pub others-kept : (eid : ℕ) (w : World) (x : Xlen) → width w ≡ x → (i : ℕ) → i < slot_count w.table → Unnamed x w i
    → Kept w.table (call_left eid fid_fence (all_ones x) 0 0 w).table i
others-kept eid w x q i h =
    subst (λ (x : Xlen). Unnamed x w i → Kept w.table (call_left eid fid_fence (all_ones x) 0 0 w).table i) q (at_width eid w i h)
