-- What an accepted synchronization says of its checks.
use mathlib.Core.Path.{◌≡◌, refl, sym, ap, subst}
use mathlib.Core.Bool.{Bool, true, false, cond, ◌||◌}
use mathlib.Core.Logic.{◌⊎◌, inl, inr, ⊎_elim}
use Prim.Native.Nat.{ℕ}
use lib.Dec.{eqb, ltb}
use borrow.Author.Tests.{eqb-true}
use Rattle.layout.specs.declared.xlen.Xlen.{Xlen}
use Rattle.layout.specs.Width.{bytes}
use Rattle.layout.specs.Geometry.{page_size}
use Rattle.hart.specs.Features.{has_feature}
use Rattle.world.specs.World.{World, offset}
use Rattle.world.proofs.MemoryLaws.{Room}
use Rattle.world.proofs.WorldLaws.{room}
use Rattle.std.specs.Prelude.{Ok}
use Rattle.checks.specs.declared.answer.Success.{Success}
use Rattle.checks.specs.declared.answer.Success.TheVariants.{Value}
use Rattle.checks.specs.declared.answer.Refusal.TheVariants.{Failed, NotSupported, InvalidParam, InvalidAddress, NoShmem}
use Rattle.checks.specs.Fids.{eid_nacl, fid_csr, fid_fence}
use Rattle.checks.specs.Checks.{check1, check2, check5, check6, check7, is_sync, feature_of, feature_there, good_csr, good_entry, success, decide, answer_by, sync_answer}
use Rattle.checks.specs.Codes.{accepted, AnswerIs}
use Rattle.checks.proofs.Truth.{both}
use Rattle.checks.proofs.Judged.{guard}

-- the parameter of a call that synchronizes is good
abbrev pub good_parameter : Xlen → ℕ → ℕ → Bool
good_parameter x fid a = cond (eqb fid fid_csr) (good_csr x a) (good_entry x a)

-- the checks that were passed
pub record Passed (eid fid a : ℕ) (w : World) : Type 0 where
  pub one : check1 w ≡ true
  pub two : check2 w ≡ true
  pub three : is_sync eid fid ≡ true
  pub four : has_feature w.hart.features (feature_of fid) ≡ true
  pub five : good_parameter w.hart.xlen fid a ≡ true
  pub seven : check7 w ≡ true

-- the call is FID 2 or FID 3
pub which : (eid fid : ℕ) → is_sync eid fid ≡ true → (eqb fid fid_csr ≡ true) ⊎ ((eqb fid fid_csr ≡ false) × (eqb fid fid_fence ≡ true))
which eid fid t = go (eqb fid fid_csr) (eqb fid fid_fence) (both (eqb eid eid_nacl) (eqb fid fid_csr || eqb fid fid_fence) t).1
  where
    go : (x y : Bool) → (x || y) ≡ true → (x ≡ true) ⊎ ((x ≡ false) × (y ≡ true))
    go true y t = inl refl
    go false y t = inr (refl, t)

-- what is so for FID 2 and for FID 3 is so for a call that passes check 3
pub by-fid : (P : ℕ → Type 0) (eid fid : ℕ) → is_sync eid fid ≡ true → P fid_csr → P fid_fence → P fid
by-fid P eid fid t x y =
    ⊎_elim (λ e. subst P (sym (eqb-true fid fid_csr e)) x) (λ e. subst P (sym (eqb-true fid fid_fence e.1)) y) (which eid fid t)

-- an accepted call has passed its checks
pub passed : (eid fid a : ℕ) (w : World) → accepted (sync_answer eid fid a w) ≡ true → Passed eid fid a w
unfolding sync_answer answer_by
passed eid fid a w t =
    let features = w.hart.features in
    let (one, t₁) = guard (check1 w) Failed _ t in
    let (two, t₂) = guard (check2 w) NotSupported _ t₁ in
    let (three, t₃) = guard (is_sync eid fid) NotSupported _ t₂ in
    let (four, t₄) = guard (feature_there features fid) NotSupported _ t₃ in
    let (five, t₅) = guard (check5 w.hart.xlen fid a 0 0) InvalidParam _ t₄ in
    let (six, t₆) = guard (check6 w.hart.xlen w.base w.memory fid a 0) InvalidAddress _ t₅ in
    let (seven, t₇) = guard (ltb fid fid_csr || check7 w) NoShmem (success features fid a) t₆ in
    record {
      one = one;
      two = two;
      three = three;
      four = by-fid (λ (f : ℕ). feature_there features f ≡ true → has_feature features (feature_of f) ≡ true) eid fid three (λ e. e) (λ e. e) four;
      five = by-fid (λ (f : ℕ). check5 w.hart.xlen f a 0 0 ≡ true → good_parameter w.hart.xlen f a ≡ true) eid fid three (λ e. e) (λ e. e) five;
      seven = by-fid (λ (f : ℕ). (ltb f fid_csr || check7 w) ≡ true → check7 w ≡ true) eid fid three (λ e. e) (λ e. e) seven;
    }

-- a call whose answer is no refusal has
pub passed-by : {eid fid a : ℕ} {w : World} {s : Success} → AnswerIs (Ok s) (sync_answer eid fid a w) → Passed eid fid a w
passed-by {eid} {fid} {a} {w} e = passed eid fid a w (sym (ap accepted e.same))

-- a call that passes them is answered success
pub answered : (eid fid a : ℕ) (w : World) → Passed eid fid a w → sync_answer eid fid a w ≡ Ok (Value 0)
unfolding sync_answer answer_by
answered eid fid a w q =
    let features = w.hart.features in
    rw (q.one, q.two, q.three)
    (by-fid (λ (f : ℕ). has_feature features (feature_of f) ≡ true → good_parameter w.hart.xlen f a ≡ true → check7 w ≡ true
    → decide true true true (feature_there features f) (check5 w.hart.xlen f a 0 0) (check6 w.hart.xlen w.base w.memory f a 0) (ltb f fid_csr || check7 w)
    (success features f a) ≡ Ok (Value 0))
    eid fid q.three (λ x y z. rw (x, y, z)) (λ x y z. rw (x, y, z)) q.four q.five q.seven)

-- there is room for the page
pub room_of : (eid fid a : ℕ) (w : World) → Passed eid fid a w → Room (page_size (bytes w.hart.xlen)) (offset w) w.memory
unfolding check7
room_of eid fid a w q = room w.hart.xlen w.base w.memory w.hart.shmem q.seven
