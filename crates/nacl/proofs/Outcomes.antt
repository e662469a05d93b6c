-- The dispatcher's outcome in each of its cases.
use Rattle.std.specs.Prelude.{Option, Some, None}
use mathlib.Core.Path.{◌≡◌, refl, sym, ap, ◌∙◌}
use mathlib.Core.Bool.{true, false, ◌||◌}
use mathlib.Core.List.{List, ◌++◌}
use mathlib.Core.Logic.{◌≢◌}
use Prim.Native.Nat.{ℕ, ◌-◌, ◌%◌, ◌≤◌}
use native.Mathlib.Omega.{arith}
use lib.Dec.{eqb, leb}
use lib.ListN.{length, take, drop}
use borrow.Author.Tests.{eqb-false, leb-true}
use Rattle.layout.specs.declared.xlen.Xlen.{Xlen}
use Rattle.layout.specs.Width.{bytes}
use Rattle.layout.specs.Geometry.{page_size}
use Rattle.hart.specs.declared.record.Hart.{Hart}
use Rattle.hart.specs.Record.{with_shmem}
use Rattle.world.specs.Memory.{part_at, with_part}
use Rattle.world.specs.World.{World, lent, in_memory, page_there, offset}
use Rattle.world.specs.State.{State, state_from, state_of, with_state}
use Rattle.turns.specs.Blank.{blank}
use Rattle.turns.proofs.Truth.{neither}
use Rattle.checks.specs.declared.answer.Outcome.{Outcome}
use Rattle.checks.specs.Codes.{Answer, accepted, AnswerIs}
use Rattle.checks.proofs.Codes.{answer-is}
use Rattle.checks.specs.Fids.{fid_probe, fid_set, fid_csr, fid_fence, fid_sret}
use Rattle.checks.specs.Checks.{is_drop, check7, call_answer}
use Rattle.checks.proofs.Truth.{both}
use Rattle.checks.proofs.Judged.{tables}
use Rattle.sret.specs.Sret.{sret}
use Rattle.stops.specs.Sync.{whole_steps}
use Rattle.stops.specs.Outcome.{WholeIs}
use Rattle.nacl.specs.Calls.{blanked, page_set, done, call_steps}
use Rattle.nacl.specs.Inner.{OnPage, Servable, CallServed}
use Rattle.nacl.proofs.CallLaws.{refusal, left, at_most, sync-call, set-passed, sret-passed}

-- what is done on the page alone, in memory
pub on-page : (xlen : Xlen) (f : State → State) (o k : ℕ) (h : Hart) (m t : List ℕ) {h' : Hart} {p u : List ℕ} → k ≡ page_size (bytes xlen)
    → state_from h' p u ≡ f (state_from h (take k (drop o m)) t) → OnPage xlen f o h m t h' (take o m ++ (p ++ drop k (drop o m))) u
unfolding part_at with_part
on-page xlen f o k h m t {p = p} e q = record { page = p; memory = rw e; state = rw e at q }

-- what the calls leave, one by one
pub set-done : (a0 a1 : ℕ) (w : World) → done fid_set a0 a1 w ≡ page_set a0 a1 w
unfolding done
set-done a0 a1 w = refl

pub sret-done : (a0 a1 : ℕ) (w : World) → done fid_sret a0 a1 w ≡ with_state w (sret w.hart.xlen (state_of w))
unfolding done
sret-done a0 a1 w = refl

pub probe-done : (a0 a1 : ℕ) (w : World) → done fid_probe a0 a1 w ≡ w
unfolding done
probe-done a0 a1 w = refl

-- what set leaves: a drop, and a page that is named
module _ (lo hi base : ℕ) (h : Hart) (m t : List ℕ) where
  pub set-dropped : is_drop h.xlen lo hi ≡ true → lent (with_shmem h None) base m t ≡ page_set lo hi (lent h base m t)
  unfolding page_set
  set-dropped d = rw d

  pub set-named : is_drop h.xlen lo hi ≡ false → (o k : ℕ) {p : List ℕ} → o ≡ lo - base → k ≡ page_size (bytes h.xlen) → p ≡ blank h.xlen h
      → lent (with_shmem h (Some lo)) base (take o m ++ (p ++ drop k (drop o m))) t ≡ page_set lo hi (lent h base m t)
  unfolding page_set blanked with_part
  set-named d o k a b q = rw (d, a, b, q)

-- what the record, memory and table are after a call that is served here
module _ (fid a0 a1 : ℕ) (w : World) where
  -- set
  pub served-set : fid ≡ fid_set → {h : Hart} {s : Option ℕ} {m : List ℕ} → h ≡ with_shmem w.hart s
      → lent (with_shmem w.hart s) w.base m w.table ≡ page_set a0 a1 w → lent h w.base m w.table ≡ done fid a0 a1 w
  served-set f {h} {s} {m} q e = ap (λ (x : Hart). lent x w.base m w.table) q ∙ e ∙ sym (rw f (set-done a0 a1 w))

  -- SRET
  pub served-sret : fid ≡ fid_sret → {h : Hart} {m t : List ℕ} → OnPage w.hart.xlen (sret w.hart.xlen) (offset w) w.hart w.memory w.table h m t
      → lent h w.base m t ≡ done fid a0 a1 w
  served-sret f {h} {m} {t} s =
      ap (λ (x : List ℕ). lent h w.base x t) s.memory ∙ ap (with_state w) s.state ∙ sym (rw f (sret-done a0 a1 w))

  -- probe, the only one that is left
  pub served-probe : Servable fid a0 a1 w → fid ≢ fid_sret → fid ≢ fid_set → w ≡ done fid a0 a1 w
  served-probe q f₄ f₁ = sym (rw zero_is (probe-done a0 a1 w))
    where
      zero_is : fid ≡ fid_probe
      zero_is =
          let (n₂, n₃) = neither (eqb fid fid_csr) (eqb fid fid_fence) q.other in
          omega (arith, q.call, eqb-false fid fid_csr n₂, eqb-false fid fid_fence n₃, f₄, f₁)

module _ (eid fid a0 a1 a2 : ℕ) (w : World) where
  -- a refusal
  pub call-refused : {r : Answer} → AnswerIs r (call_answer eid fid a0 a1 a2 w) → accepted (call_answer eid fid a0 a1 a2 w) ≡ false
      → CallServed eid fid a0 a1 a2 w (record { answer = r; hart = w.hart; steps = 0; finished = false; told = 0 }) w.memory w.table
  unfolding call_steps
  call-refused e n = record { answer = e; steps = rw n; done = sym n; world = sym (refusal eid fid a0 a1 a2 w n).1 }

  -- an accepted call that is not a synchronization
  module _ (a : accepted (call_answer eid fid a0 a1 a2 w) ≡ true) (n : (eqb fid fid_csr || eqb fid fid_fence) ≡ false) where
    -- it can be served
    pub servable : Servable fid a0 a1 w
    unfolding check7
    servable = record { call = at_most eid fid a0 a1 a2 w a; other = n; named = named; there = there }
      where
        named : fid ≡ fid_set → is_drop w.hart.xlen a0 a1 ≡ false → in_memory w.hart.xlen w.base w.memory a0 ≡ true
        named f d = set-passed eid a0 a1 a2 w (rw f at a) d

        there : fid ≡ fid_sret → (page_there w.hart.xlen w.base w.memory w.hart.shmem ≡ true) × (length w.table ≤ 1024)
        there f =
            let (one, seven) = sret-passed eid a0 a1 a2 w (rw f at a) in
            let (t, h) = tables w one in
            (seven, leb-true (length w.table) 1024 (both (eqb (length w.table % 4) 0) (leb (length w.table) 1024) t).1)

    -- and leaves what its definition gives
    pub call-served : {r : Answer} → AnswerIs r (call_answer eid fid a0 a1 a2 w) → {h : Hart} {m t : List ℕ} {k : ℕ} → lent h w.base m t ≡ done fid a0 a1 w
        → CallServed eid fid a0 a1 a2 w (record { answer = r; hart = h; steps = 0; finished = true; told = k }) m t
    unfolding call_steps
    call-served e d = record { answer = e; steps = rw (a, n); done = sym a; world = d ∙ sym (left eid fid a0 a1 a2 w a) }

-- FID 2 and 3 are the whole form
pub call-whole : (eid fid a0 a1 a2 : ℕ) (w : World) {r : Outcome} {m t : List ℕ} → (eqb fid fid_csr || eqb fid fid_fence) ≡ true
    → WholeIs eid fid a0 w r m t → CallServed eid fid a0 a1 a2 w r m t
unfolding call_steps whole_steps
call-whole eid fid a0 a1 a2 w f s =
    let (q, l) = sync-call eid fid a0 a1 a2 w f in
    record { answer = answer-is (s.answer.same ∙ sym q); steps = s.steps ∙ sym same; done = s.done ∙ sym (ap accepted q); world = s.world ∙ sym l }
  where
    same : call_steps eid fid a0 a1 a2 w ≡ whole_steps eid fid a0 w
    same = rw (f, (sync-call eid fid a0 a1 a2 w f).0)
