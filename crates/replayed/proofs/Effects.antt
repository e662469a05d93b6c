-- What a record's effect is where it is refused, and what it counts.
use mathlib.Core.Bool.{Bool, true, false, cond, ◌||◌, true≢false, and-eq-true_iff}
use mathlib.Core.Path.{◌≡◌, refl, ap, ◌∙◌}
use mathlib.Core.List.{List, [], ◌∷◌, map}
use Prim.Native.Nat.{ℕ, ◌+◌}
use native.Mathlib.Omega.{arith}
use lib.Dec.{eqb, leb, ltb}
use lib.ListN.{length, drop}
use Rattle.layout.specs.declared.xlen.Xlen.{Xlen}
use Rattle.csr.specs.Csrs.{Csr}
use Rattle.hart.specs.declared.trap.Trap.{Trap}
use Rattle.hart.specs.Dropped.{Report, more_dropped}
use Rattle.fence.specs.Slots.{slot_count}
use Rattle.world.specs.World.{World, width}
use Rattle.world.specs.State.{State, state_of}
use Rattle.turns.specs.Marks.{Dirty, Pending}
use Rattle.checks.specs.Fids.{fid_csr, fid_fence, fid_sret}
use Rattle.checks.specs.Codes.{accepted}
use Rattle.checks.specs.Checks.{cut, call_answer}
use Rattle.stops.specs.Sync.{csrs_asked, entries_asked, sync_total}
use Rattle.nacl.specs.Calls.{call_steps, call_reports, tallied}
use Rattle.nacl.specs.Traps.{cut_trap, trap_answer, trap_reports}
use Rattle.claims.specs.Events.{Call, Lines, TrapBack, left_by, marks_asked}
use Rattle.claims.specs.Claims.{any_names}
use Rattle.claims.proofs.Refusals as Refused
use Rattle.claims.proofs.Slots.{only-named-slots-change}
use Rattle.recording.specs.Format.{body_word}
use Rattle.apply.specs.Effects.{Effect, call_of, call_effect, write_effect, lines_effect, slot_effect, slot_of, trap_of, trap_effect, effect}
use Rattle.replayed.specs.Claims.{Unchanged, RefusalsChangeNothing, OnlyTheseCount, RemovedAreGone, fid_in, gone_among}
use Rattle.replayed.proofs.Gone.{used-gone, none-gone}

-- what holds of both holds of either
pub either : (P : Effect → Type 0) (t : Bool) (a b : Effect) → P a → P b → P (cond t a b)
either P true a b p q = p
either P false a b p q = q

-- and of all kinds, if it does of a call where the kind is a call's
pub each-kind : (P : Effect → Type 0) (kind : ℕ) (b : List ℕ) (w : World) → (eqb kind 1 ≡ true → P (call_of b w)) → P (write_effect (body_word b 0) (drop 8 b) w)
    → P (lines_effect (body_word b 0) w) → P (slot_of b w) → P (trap_effect (trap_of b) w) → P (effect kind b w)
unfolding effect
each-kind P kind b w call write lines slot trap = split (eqb kind 1) call
  where
    others : Effect
    others =
        cond (eqb kind 2) (write_effect (body_word b 0) (drop 8 b) w)
        (cond (eqb kind 3) (lines_effect (body_word b 0) w) (cond (eqb kind 4) (slot_of b w) (trap_effect (trap_of b) w)))

    split : (t : Bool) → (t ≡ true → P (call_of b w)) → P (cond t (call_of b w) others)
    split true f = f refl
    split false f = either P (eqb kind 2) _ _ write (either P (eqb kind 3) _ _ lines (either P (eqb kind 4) _ _ slot trap))

-- 0 either way
nothing : (t : Bool) → ◌≡◌ {A = ℕ} (cond t 0 0) 0
nothing true = refl
nothing false = refl

-- neither
or-false : (a b : Bool) → a || b ≡ false → (a ≡ false) × (b ≡ false)
or-false false false e = (refl, refl)
or-false false true e = absurd (true≢false e)
or-false true b e = absurd (true≢false e)

-- marks of registers name no slot
registers-name-none : (x : Xlen) (cs : List Csr) (s : State) (i : ℕ) → any_names x (map Dirty cs) s i ≡ false
unfolding any_names
registers-name-none x [] s i = refl
registers-name-none x (c ∷ cs) s i = registers-name-none x cs s i

-- a call
module _ (eid fid a0 a1 a2 : ℕ) (w : World) where
  call-removed : (call_effect eid fid a0 a1 a2 w).removed
      ≡ gone_among (slot_count w.table) w.table (call_effect eid fid a0 a1 a2 w).world.table
  call-removed =
      let l = only-named-slots-change (Call eid fid a0 a1 a2) w in
      let t = (left_by (Call eid fid a0 a1 a2) w).table in
      rw l.size (omega (arith, used-gone (slot_count w.table) w.table t l.whole))

  -- FID 2 and 3 alone have steps
  call-steps : (eqb fid fid_csr || eqb fid fid_fence) ≡ false → (call_effect eid fid a0 a1 a2 w).steps ≡ 0
  unfolding call_steps
  call-steps e = rw e (nothing (accepted (call_answer eid fid a0 a1 a2 w)))

  call-total : (eqb fid fid_csr || eqb fid fid_fence) ≡ true → accepted (call_answer eid fid a0 a1 a2 w) ≡ true
      → (call_effect eid fid a0 a1 a2 w).steps ≡ sync_total fid a0 w
  unfolding call_steps
  call-total e t = rw (t, e)

  -- FID 3 and 4 alone ask for entries
  no-entry : (eqb fid fid_fence || eqb fid fid_sret) ≡ false → (i : ℕ) → any_names (width w) (marks_asked (Call eid fid a0 a1 a2) w) (state_of w) i ≡ false
  unfolding any_names
  no-entry e i =
      let f = or-false (eqb fid fid_fence) (eqb fid fid_sret) e in
      rw (f.0, f.1) (split (eqb fid fid_csr))
    where
      split : (t : Bool) → any_names (width w) (cond (t || false) (cond t (map Dirty (csrs_asked (width w) a0)) (map Pending (entries_asked (width w) a0))) []) (state_of w) i ≡ false
      split true = registers-name-none (width w) (csrs_asked (width w) a0) (state_of w) i
      split false = refl

  call_none : (eqb fid fid_fence || eqb fid fid_sret) ≡ false → (call_effect eid fid a0 a1 a2 w).removed ≡ 0
  call_none e =
      call-removed
      ∙ none-gone (slot_count w.table) w.table (left_by (Call eid fid a0 a1 a2) w).table
      (λ i b. (only-named-slots-change (Call eid fid a0 a1 a2) w).others i b (no-entry e i))

-- the numbers of a call's body
module _ (b : List ℕ) (w : World) where
  body-steps : (eqb (fid_in b w) fid_csr || eqb (fid_in b w) fid_fence) ≡ false → (call_of b w).steps ≡ 0
  body-steps =
      let x = width w in
      call-steps (cut x (body_word b 0)) (cut x (body_word b 1)) (cut x (body_word b 2)) (cut x (body_word b 3)) (cut x (body_word b 4)) w

  body-total : (eqb (fid_in b w) fid_csr || eqb (fid_in b w) fid_fence) ≡ true → accepted (call_of b w).answer ≡ true
      → (call_of b w).steps ≡ sync_total (fid_in b w) (cut (width w) (body_word b 2)) w
  body-total =
      let x = width w in
      call-total (cut x (body_word b 0)) (cut x (body_word b 1)) (cut x (body_word b 2)) (cut x (body_word b 3)) (cut x (body_word b 4)) w

  body-none : (eqb (fid_in b w) fid_fence || eqb (fid_in b w) fid_sret) ≡ false → (call_of b w).removed ≡ 0
  body-none =
      let x = width w in
      call_none (cut x (body_word b 0)) (cut x (body_word b 1)) (cut x (body_word b 2)) (cut x (body_word b 3)) (cut x (body_word b 4)) w

  -- a write and a slot have one answer or the other
  fits : Bool
  fits = leb (body_word b 0 + length (drop 8 b)) (length w.memory)

  there : Bool
  there = ltb (body_word b 0) (slot_count w.table)

-- a call's effect
is_call : (kind : ℕ) (b : List ℕ) (w : World) → eqb kind 1 ≡ true → effect kind b w ≡ call_of b w
unfolding effect
is_call kind b w e = rw e

pub only-these-count : OnlyTheseCount
unfolding write_effect slot_effect fits there
only-these-count kind b w =
    record {
      total =
          λ e t.
          let f = (and-eq-true_iff (eqb kind 1) (eqb (fid_in b w) fid_csr || eqb (fid_in b w) fid_fence)).0 e in
          let c = is_call kind b w f.0 in
          ap (λ (v : Effect). v.steps) c ∙ body-total b w f.1 (rw c at t);
      steps =
          λ e. each-kind (λ (v : Effect). v.steps ≡ 0) kind b w (λ k. body-steps b w (rw k at e)) (either (λ (v : Effect). v.steps ≡ 0) (fits b w) _ _ refl refl) refl
          (either (λ (v : Effect). v.steps ≡ 0) (there b w) _ _ refl refl) refl;
      removed =
          λ e. each-kind (λ (v : Effect). v.removed ≡ 0) kind b w (λ k. body-none b w (rw k at e))
          (either (λ (v : Effect). v.removed ≡ 0) (fits b w) _ _ refl refl) refl (either (λ (v : Effect). v.removed ≡ 0) (there b w) _ _ refl refl) refl;
    }

pub removed-are-gone : RemovedAreGone
unfolding effect
removed-are-gone b w =
    let x = width w in
    call-removed (cut x (body_word b 0)) (cut x (body_word b 1)) (cut x (body_word b 2)) (cut x (body_word b 3)) (cut x (body_word b 4)) w

-- where it is refused
refuses : World → Effect → Type 0
refuses w e = accepted e.answer ≡ false → Unchanged w e

-- a refused call and a refused trap say nothing
call-quiet : (eid fid a0 a1 a2 : ℕ) (w : World) → accepted (call_answer eid fid a0 a1 a2 w) ≡ false → call_reports eid fid a0 a1 a2 w ≡ []
unfolding call_reports
call-quiet eid fid a0 a1 a2 w n = rw n

trap-quiet : (t : Trap) (w : World) → accepted (trap_answer w) ≡ false → trap_reports t w ≡ []
unfolding trap_reports
trap-quiet t w n = rw n

-- with nothing said the count stays
none-tallied : {rs : List Report} {v w : World} → rs ≡ [] → v ≡ w → tallied rs v ≡ w
unfolding more_dropped
none-tallied {w = w} n e = rw (n, e)

pub refusals-change-nothing : RefusalsChangeNothing
unfolding refuses write_effect slot_effect
refusals-change-nothing kind b w =
    each-kind (refuses w) kind b w (λ _. call)
    (either (refuses w) (leb (body_word b 0 + length (drop 8 b)) (length w.memory)) _ _ (λ e. absurd (true≢false e))
    (λ e. record { world = refl; steps = refl; removed = refl; reports = refl }))
    (λ e. record { world = (Refused.refusals-change-nothing (Lines (body_word b 0)) w e).same; steps = refl; removed = refl; reports = refl })
    (either (refuses w) (ltb (body_word b 0) (slot_count w.table)) _ _ (λ e. absurd (true≢false e))
    (λ e. record { world = refl; steps = refl; removed = refl; reports = refl }))
    trap
  where
    call : accepted (call_of b w).answer ≡ false → Unchanged w (call_of b w)
    call e =
        let x = width w in
        let f : (i : ℕ) → ℕ = λ i. cut x (body_word b i) in
        let r = Refused.refusals-change-nothing (Call (f 0) (f 1) (f 2) (f 3) (f 4)) w e in
        let q = call-quiet (f 0) (f 1) (f 2) (f 3) (f 4) w e in
        record { world = none-tallied q r.same; steps = r.steps; removed = rw r.same (omega arith); reports = q }

    trap : accepted (trap_effect (trap_of b) w).answer ≡ false → Unchanged w (trap_effect (trap_of b) w)
    trap e =
        let t = cut_trap (width w) (trap_of b) in
        let q = trap-quiet t w e in
        record { world = none-tallied q (Refused.refusals-change-nothing (TrapBack t) w e).same; steps = refl; removed = refl; reports = q }
