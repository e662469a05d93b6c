-- Demand 2: synchronizing everything, and each singly in the stated order.
use mathlib.Core.Path.{◌≡◌, refl, sym, ap, ap₂, ◌∙◌, subst}
use mathlib.Core.Bool.{Bool, true, ◌&&◌, ◌||◌}
use mathlib.Core.List.{List, [], ◌∷◌, map}
use mathlib.Core.Logic.{⊎_elim}
use Prim.Native.Nat.{ℕ}
use native.Mathlib.Omega.{arith}
use lib.Dec.{eqb}
use Rattle.layout.specs.declared.xlen.Xlen.{Xlen}
use Rattle.layout.specs.declared.xlen.Xlen.TheVariants.{X32, X64}
use Rattle.hart.specs.declared.record.Hart.{Hart}
use Rattle.nacl.specs.Calls.{call_left}
use Rattle.csr.specs.Csrs.{turn_order, number}
use Rattle.hart.specs.Bits.{all_ones}
use Rattle.page.specs.Entries.{every_entry}
use Rattle.world.specs.World.{World}
use Rattle.turns.specs.Marks.{Mark, Dirty, Pending}
use Rattle.checks.specs.Codes.{Answer}
use Rattle.checks.specs.Fids.{fid_csr, fid_fence}
use Rattle.checks.specs.Checks.{answer_by, sync_answer}
use Rattle.checks.proofs.Accepted.{good_parameter}
use Rattle.checks.proofs.Truth.{both}
use Rattle.stops.specs.Sync.{whole}
use Rattle.stops.specs.Stops.{after_stops}
use Rattle.stops.proofs.Reports.{enough}
use Rattle.stops.proofs.Restart.{restartable}
use Rattle.stops.proofs.Singly.{each, ones-good, csrs-singly, entries-singly}
use Rattle.nacl.proofs.CallLaws.{which, sync-call}
use Rattle.claims.proofs.Fields.{other-fields-stay}
use Rattle.claims.specs.Claims.{calls_left, calls_answers, Singly, EverythingIsEachSingly}

-- check 5 passes for each of these parameters
abbrev pub all_good : Xlen → ℕ → List ℕ → Bool
all_good x fid [] = true
all_good x fid (b ∷ bs) = good_parameter x fid b && all_good x fid bs

-- a synchronization is answered alike after itself
answer-kept : (eid fid b : ℕ) (w : World) → sync_answer eid fid b (whole eid fid b w) ≡ sync_answer eid fid b w
unfolding after_stops
answer-kept eid fid b w = ap (sync_answer eid fid b) (sym (enough 376 eid fid b w (omega arith))) ∙ (restartable (376 ∷ []) eid fid b w).same_answer.same

-- FID 2 or FID 3
module _ (eid fid : ℕ) (sync : (eqb fid fid_csr || eqb fid fid_fence) ≡ true) where
  -- two good parameters are answered alike
  pub same_answer : (a b : ℕ) (w : World) → good_parameter w.hart.xlen fid a ≡ true → good_parameter w.hart.xlen fid b ≡ true
      → sync_answer eid fid a w ≡ sync_answer eid fid b w
  unfolding sync_answer answer_by
  same_answer a b w = ⊎_elim (λ e. subst P (sym e) (λ g h. rw (g, h))) (λ e. subst P (sym e) (λ g h. rw (g, h))) (which fid sync)
    where
      P : ℕ → Type 0
      P f = good_parameter w.hart.xlen f a ≡ true → good_parameter w.hart.xlen f b ≡ true → sync_answer eid f a w ≡ sync_answer eid f b w

  -- it leaves the width
  whole-width : (b : ℕ) (w : World) → (whole eid fid b w).hart.xlen ≡ w.hart.xlen
  whole-width b w = ap (λ (v : World). v.hart.xlen) (sym (sync-call eid fid b 0 0 w sync).1) ∙ ⊎_elim (λ e. rw e csr) (λ e. rw e fence) (which fid sync)
    where
      csr : (call_left eid fid_csr b 0 0 w).hart.xlen ≡ w.hart.xlen
      csr = ap (λ (h : Hart). h.xlen) ((other-fields-stay w).csr eid b 0 0)

      fence : (call_left eid fid_fence b 0 0 w).hart.xlen ≡ w.hart.xlen
      fence = ap (λ (h : Hart). h.xlen) ((other-fields-stay w).fence eid b 0 0)

  -- good parameters, one after the other, are answered as all-ones is
  answers : (x : Xlen) (bs : List ℕ) (w : World) (r : Answer) → w.hart.xlen ≡ x → all_good x fid bs ≡ true → good_parameter x fid (all_ones x) ≡ true
      → sync_answer eid fid (all_ones x) w ≡ r → calls_answers fid bs eid w ≡ map (λ (a : ℕ). r) bs
  unfolding calls_answers
  answers x [] w r d g ones e = refl
  answers x (b ∷ bs) w r d g ones e =
      let (good, rest) = both (good_parameter x fid b) (all_good x fid bs) g in
      let (answer, left) = sync-call eid fid b 0 0 w sync in
      let next = whole eid fid b w in
      let alike : (v : World) → v.hart.xlen ≡ x → sync_answer eid fid b v ≡ sync_answer eid fid (all_ones x) v
      = λ v q. same_answer b (all_ones x) v (rw q good) (rw q ones) in
      let one = alike w d ∙ e in
      ap₂ ◌∷◌ (answer ∙ one)
      (ap (calls_answers fid bs eid) left
      ∙ answers x bs next r (whole-width b w ∙ d) rest ones (sym (alike next (whole-width b w ∙ d)) ∙ answer-kept eid fid b w ∙ one))

  module _ {A : Type 0} (mark : A → Mark) (arg : A → ℕ) where
    -- each call is the whole form
    each_left_lem : (x : Xlen) (xs : List A) (w : World) → calls_left fid (map arg xs) eid w ≡ each x fid mark arg xs eid w
    unfolding calls_left each
    each_left_lem x [] w = refl
    each_left_lem x (y ∷ ys) w = ap (calls_left fid (map arg ys) eid) (sync-call eid fid (arg y) 0 0 w sync).1 ∙ each_left_lem x ys (whole eid fid (arg y) w)

    singly : (xs : List A) (a1 a2 : ℕ) (w : World) → let x = w.hart.xlen in all_good x fid (map arg xs) ≡ true → good_parameter x fid (all_ones x) ≡ true
        → whole eid fid (all_ones x) w ≡ each x fid mark arg xs eid w → Singly eid fid a1 a2 (map arg xs) w
    singly xs a1 a2 w g ones e =
        let x = w.hart.xlen in
        let (answer, left) = sync-call eid fid (all_ones x) a1 a2 w sync in
        record {
          left = left ∙ e ∙ sym (each_left_lem x xs w);
          answers = answers x (map arg xs) w _ refl g ones (sym answer);
        }

-- the parameters of every register and of every entry are good
pub csrs-good : (x : Xlen) → all_good x fid_csr (map number (turn_order x)) ≡ true
csrs-good X32 = refl
csrs-good X64 = refl

pub entries-good : (x : Xlen) → all_good x fid_fence (map (λ e. e) (every_entry x)) ≡ true
entries-good X32 = refl
entries-good X64 = refl

pub same-list : (es : List ℕ) → map (λ e. e) es ≡ es
same-list [] = refl
same-list (e ∷ es) = ap (λ (l : List ℕ). e ∷ l) (same-list es)

pub each-singly : EverythingIsEachSingly
each-singly eid a1 a2 w =
    let x = w.hart.xlen in (
      singly eid fid_csr refl Dirty number (turn_order x) a1 a2 w (csrs-good x) (ones-good x).0 (csrs-singly eid w),
      subst (λ (bs : List ℕ). Singly eid fid_fence a1 a2 bs w) (same-list (every_entry x))
          (singly eid fid_fence refl Pending (λ e. e) (every_entry x) a1 a2 w (entries-good x) (ones-good x).1 (entries-singly eid w)),
    )
