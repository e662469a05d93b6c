-- Which calls blank a page: an accepted set that is no drop.
use mathlib.Core.Bool.{Bool, true, false, not, ◌&&◌}
use mathlib.Core.Path.{◌≡◌, refl, sym, ap, ◌∙◌}
use Prim.Native.Nat.{ℕ}
use lib.Dec.{eqb}
use borrow.Author.Tests.{eqb-true}
use Rattle.world.specs.World.{World}
use Rattle.checks.specs.Fids.{fid_set}
use Rattle.checks.specs.Codes.{accepted}
use Rattle.checks.specs.Checks.{call_answer, is_drop}
use Rattle.checks.proofs.Truth.{both}
use Rattle.nacl.specs.Calls.{page_set, done, call_left}
use Rattle.nacl.proofs.CallLaws.{left}
use Rattle.nacl.proofs.Outcomes.{set-done}
use Rattle.claims.specs.Events.{Call, blanks}

-- not b is false exactly if b is true
not-false : (b : Bool) → not b ≡ false → b ≡ true
not-false true n = refl
not-false false n = sym n

not-true : (b : Bool) → not b ≡ true → b ≡ false
not-true true n = sym n
not-true false n = refl

-- an accepted set that blanks no page is a drop
pub is-drop : (eid a0 a1 a2 : ℕ) (w : World) → blanks (Call eid fid_set a0 a1 a2) w ≡ false → accepted (call_answer eid fid_set a0 a1 a2 w) ≡ true
    → is_drop w.hart.xlen a0 a1 ≡ true
is-drop eid a0 a1 a2 w b t = not-false (is_drop w.hart.xlen a0 a1) (rw t at b)

module _ (eid fid a0 a1 a2 : ℕ) (w : World) (b : blanks (Call eid fid a0 a1 a2) w ≡ true) where
  -- a call that blanks a page is a set, accepted, and no drop
  pub set-parts : (fid ≡ fid_set) × (accepted (call_answer eid fid a0 a1 a2 w) ≡ true) × (is_drop w.hart.xlen a0 a1 ≡ false)
  set-parts =
      let (f, r) = both (eqb fid fid_set) _ b in
      let (t, d) = both (accepted (call_answer eid fid a0 a1 a2 w)) _ r in
      (eqb-true fid fid_set f, t, not-true (is_drop w.hart.xlen a0 a1) d)

  -- it leaves what set gives
  pub set-left : call_left eid fid a0 a1 a2 w ≡ page_set a0 a1 w
  set-left = left eid fid a0 a1 a2 w set-parts.1 ∙ ap (λ (f : ℕ). done f a0 a1 w) set-parts.0 ∙ set-done a0 a1 w

  -- so not the table
  pub set-table : (call_left eid fid a0 a1 a2 w).table ≡ w.table
  unfolding page_set
  set-table = ap (λ (v : World). v.table) set-left
