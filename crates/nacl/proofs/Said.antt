-- What the register writes of a call and of a trap say, and how it is counted.
use mathlib.Core.Path.{◌≡◌, refl, sym, ap, ◌∙◌, subst}
use mathlib.Core.Bool.{true, false, ◌||◌}
use mathlib.Core.List.{List, []}
use mathlib.Core.Logic.{⊎_elim}
use mathlib.Core.Logic.{◌≢◌}
use Prim.Native.Nat.{ℕ, ◌/◌}
use native.Mathlib.Omega.{arith}
use borrow.Author.Tests.{ne_eqb}
use lib.Dec.{eqb}
use lib.ListN.{length, take, drop}
use Rattle.text.specs.Buffer.{Wrote, Put}
use Rattle.text.specs.declared.Buffer.{Buffer}
use Rattle.text.proofs.Writing.{wrote_nothing}
use Rattle.layout.specs.declared.xlen.Xlen.{Xlen}
use Rattle.layout.specs.Width.{bytes}
use Rattle.layout.specs.Geometry.{page_size}
use Rattle.hart.specs.declared.record.Hart.{Hart}
use Rattle.hart.specs.declared.trap.Trap.{Trap}
use Rattle.hart.specs.Dropped.{Report, report_words, more_dropped, counted}
use Rattle.hart.specs.Trap.{trapped}
use Rattle.world.specs.Memory.{part_at}
use Rattle.world.specs.World.{World, lent, page_there, page_offset}
use Rattle.world.specs.State.{State, state_from, state_of}
use Rattle.checks.specs.declared.answer.Outcome.{Outcome}
use Rattle.checks.specs.Fids.{fid_csr, fid_fence, fid_sret}
use Rattle.checks.specs.Codes.{accepted}
use Rattle.checks.specs.Checks.{call_answer, check1, check7}
use Rattle.stops.specs.Sync.{stoppable, whole_reports, stop_reports}
use Rattle.stops.specs.Outcome.{StoppedIs}
use Rattle.sync.proofs.Spoken.{words-length}
use Rattle.sret.specs.Sret.{sret_reports, swap_reports}
use Rattle.nacl.specs.Calls.{done_reports, call_reports, call_left, tallied, CallIs, StopIs}
use Rattle.nacl.specs.Traps.{trap_answer, trap_left, trap_reports, TrapIs}
use Rattle.nacl.specs.Inner.{Servable, CallServed}
use Rattle.nacl.proofs.TrapOutcomes.{TrapServed}
use Rattle.nacl.proofs.CallLaws.{which, answer-csr, answer-fence}

-- ---- on the page

-- what is said on the page alone is said in memory
pub said-there : (f : State → List Report) (xlen : Xlen) (o k : ℕ) (h : Hart) (m t : List ℕ) {d e : Buffer ℕ} → k ≡ page_size (bytes xlen)
    → Put d (report_words (f (state_from h (take k (drop o m)) t))) e → Put d (report_words (f (state_from h (part_at (page_size (bytes xlen)) o m) t))) e
unfolding part_at
said-there f xlen o k h m t e w = rw e at w

-- ---- a call

module _ (eid fid a0 a1 a2 : ℕ) (w : World) where
  -- a refusal says nothing
  pub call-silent : accepted (call_answer eid fid a0 a1 a2 w) ≡ false → (d : List ℕ) → Wrote d 0 (report_words (call_reports eid fid a0 a1 a2 w)) d 0
  unfolding call_reports
  call-silent n d = rw n (wrote_nothing d 0)

  -- an accepted call says what its definition gives
  pub call-said : accepted (call_answer eid fid a0 a1 a2 w) ≡ true → {d e : List ℕ} {r : ℕ} → Wrote d 0 (report_words (done_reports fid a0 w)) e r
      → Wrote d 0 (report_words (call_reports eid fid a0 a1 a2 w)) e r
  unfolding call_reports
  call-said a v = rw a v

  -- FID 2 and 3 say what the whole form does
  pub whole-said : (eqb fid fid_csr || eqb fid fid_fence) ≡ true → call_reports eid fid a0 a1 a2 w ≡ whole_reports eid fid a0 w
  unfolding call_reports done_reports whole_reports
  whole-said t = ⊎_elim (λ e. subst P (sym e) (rw (answer-csr eid a0 a1 a2 w))) (λ e. subst P (sym e) (rw (answer-fence eid a0 a1 a2 w))) (which fid t)
    where
      P : ℕ → Type 0
      P f = call_reports eid f a0 a1 a2 w ≡ whole_reports eid f a0 w

-- SRET
pub sret-said : (fid a0 : ℕ) (w : World) → fid ≡ fid_sret → done_reports fid a0 w ≡ sret_reports w.hart.xlen (state_of w)
unfolding done_reports
sret-said fid a0 w e = rw e

-- probe and set
pub none_said : (fid a0 a1 : ℕ) (w : World) → Servable fid a0 a1 w → fid ≢ fid_sret → done_reports fid a0 w ≡ []
unfolding done_reports
none_said fid a0 a1 w q n = rw (ne_eqb fid fid_sret n, q.other)

-- ---- the count

-- no report leaves the count
pub none-counted : (h : Hart) → h ≡ counted 0 h
unfolding more_dropped
none-counted h = refl

-- half of the words
pub half-told : (rs : List Report) {d e : List ℕ} {k : ℕ} → Wrote d 0 (report_words rs) e k → k / 2 ≡ length rs
half-told rs w = omega (arith, w.place, words-length rs)

-- the reports of what is left, counted
tally : (rs : List Report) (v : World) {b k : ℕ} {h g : Hart} {m t : List ℕ} → lent h b m t ≡ v → k ≡ length rs → g ≡ counted k h → lent g b m t ≡ tallied rs v
tally rs v {b} {k} {h} {g} {m} {t} e n c = ap (λ (x : Hart). lent x b m t) (c ∙ ap (λ (j : ℕ). counted j h) n) ∙ ap (tallied rs) e

-- r is o with its reports, two words of each, counted
abbrev Counted : Outcome → Outcome → Type 0
Counted o r = (r.answer ≡ o.answer) × (r.hart ≡ counted (o.told / 2) o.hart) × (r.steps ≡ o.steps) × (r.finished ≡ o.finished) × (r.told ≡ o.told)

module _ {o r : Outcome} {m d e : List ℕ} (q : Counted o r) where
  pub call-tallied : (eid fid a0 a1 a2 : ℕ) (w : World) {t : List ℕ} → CallServed eid fid a0 a1 a2 w o m t → Wrote d 0 (report_words (call_reports eid fid a0 a1 a2 w)) e o.told
      → CallIs eid fid a0 a1 a2 w r m t d e
  call-tallied eid fid a0 a1 a2 w s v =
      record {
        answer = rw q.0 s.answer;
        steps = q.2 ∙ s.steps;
        done = q.3 ∙ s.done;
        world = tally (call_reports eid fid a0 a1 a2 w) (call_left eid fid a0 a1 a2 w) s.world (half-told (call_reports eid fid a0 a1 a2 w) v) q.1;
        told = rw q.4 v;
      }

  pub stop-tallied : (n eid fid a : ℕ) (w : World) {t : List ℕ} → StoppedIs n eid fid a w o m t → Wrote d 0 (report_words (stop_reports n eid fid a w)) e o.told
      → StopIs n eid fid a w r m t d e
  stop-tallied n eid fid a w s v =
      record {
        answer = rw q.0 s.answer;
        steps = q.2 ∙ s.steps;
        done = q.3 ∙ s.done;
        world = tally (stop_reports n eid fid a w) (stoppable n eid fid a w) s.world (half-told (stop_reports n eid fid a w) v) q.1;
        told = rw q.4 v;
      }

  pub trap-tallied : (t : Trap) (w : World) → TrapServed t w o m → Wrote d 0 (report_words (trap_reports t w)) e o.told → TrapIs t w r m d e
  trap-tallied t w s v =
      record {
        answer = rw q.0 s.answer;
        steps = q.2 ∙ s.steps;
        done = q.3 ∙ s.done;
        world = tally (trap_reports t w) (trap_left t w) s.world (half-told (trap_reports t w) v) q.1;
        told = rw q.4 v;
      }

-- ---- a trap

module _ (t : Trap) (w : World) where
  -- refused at check 1
  pub trap-silent-1 : check1 w ≡ false → (d : List ℕ) → Wrote d 0 (report_words (trap_reports t w)) d 0
  unfolding trap_reports trap_answer
  trap-silent-1 n d = rw n (wrote_nothing d 0)

  module _ (o : check1 w ≡ true) where
    -- refused with V off
    pub trap-silent-2 : w.hart.virt ≡ false → (d : List ℕ) → Wrote d 0 (report_words (trap_reports t w)) d 0
    unfolding trap_reports trap_answer
    trap-silent-2 n d = rw (o, n) (wrote_nothing d 0)

    -- accepted
    module _ (v : w.hart.virt ≡ true) {h : Hart} (e : h ≡ trapped t w.hart) where
      -- with no page in memory
      pub trap-silent-3 : page_there h.xlen w.base w.memory h.shmem ≡ false → (d : List ℕ) → Wrote d 0 (report_words (trap_reports t w)) d 0
      unfolding trap_reports trap_answer check7 trapped
      trap-silent-3 n d =
          rw (o, v, ap (λ (x : Hart). page_there x.xlen w.base w.memory x.shmem) (sym e) ∙ n) (wrote_nothing d 0)

      -- with it
      pub trap-said : page_there h.xlen w.base w.memory h.shmem ≡ true → {d f : List ℕ} {k : ℕ}
          → Wrote d 0 (report_words (swap_reports h.xlen (state_from h (part_at (page_size (bytes h.xlen)) (page_offset w.base h.shmem) w.memory) w.table))) f k
          → Wrote d 0 (report_words (trap_reports t w)) f k
      unfolding trap_reports trap_answer check7 trapped
      trap-said y {d} {f} {k} s =
          rw (o, v, ap (λ (x : Hart). page_there x.xlen w.base w.memory x.shmem) (sym e) ∙ y)
          (subst (λ (x : Hart). Wrote d 0 (report_words (swap_reports x.xlen (state_from x (part_at (page_size (bytes x.xlen)) (page_offset w.base x.shmem) w.memory) w.table))) f k) e s)
