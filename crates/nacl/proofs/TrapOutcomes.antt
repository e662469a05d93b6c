-- A trap's outcome in each of its cases.
use mathlib.Core.Path.{◌≡◌, refl, sym, ap, ◌∙◌, subst}
use mathlib.Core.Bool.{true, false}
use mathlib.Core.List.{List}
use Prim.Native.Nat.{ℕ}
use Rattle.std.specs.Prelude.{Ok, Err}
use Rattle.hart.specs.declared.record.Hart.{Hart}
use Rattle.hart.specs.declared.trap.Trap.{Trap}
use Rattle.hart.specs.Trap.{trapped}
use Rattle.world.specs.World.{World, lent, page_there, page_offset, offset}
use Rattle.world.specs.State.{State, state_from, state_of, with_state}
use Rattle.checks.specs.declared.answer.Success.TheVariants.{Value}
use Rattle.checks.specs.declared.answer.Refusal.TheVariants.{Failed, NotSupported}
use Rattle.checks.specs.declared.answer.Outcome.{Outcome}
use Rattle.checks.specs.Codes.{accepted, AnswerIs}
use Rattle.checks.specs.Checks.{check1, check7}
use Rattle.checks.proofs.Codes.{answer-is}
use Rattle.trap.specs.Trap.{trap_stored}
use Rattle.nacl.specs.Traps.{trap_taken, trap_answer, trap_done, trap_left}
use Rattle.nacl.specs.Inner.{OnPage}

-- a trap before its report is counted: its answer, its steps, that these were all, and the record and memory
pub record TrapServed (t : Trap) (w : World) (r : Outcome) (memory : List ℕ) : Type 0 where
  pub answer : AnswerIs r.answer (trap_answer w)
  pub steps : r.steps ≡ 0
  pub done : r.finished ≡ accepted (trap_answer w)
  pub world : lent r.hart w.base memory w.table ≡ trap_left t w

module _ (t : Trap) (w : World) where
  -- refused at check 1
  pub trap-failed : check1 w ≡ false → TrapServed t w (record { answer = Err Failed; hart = w.hart; steps = 0; finished = false; told = 0 }) w.memory
  unfolding trap_left trap_answer
  trap-failed n = record { answer = answer-is (rw n); steps = refl; done = rw n; world = rw n }

  module _ (o : check1 w ≡ true) where
    -- refused with V off
    pub trap-denied : w.hart.virt ≡ false
        → TrapServed t w (record { answer = Err NotSupported; hart = w.hart; steps = 0; finished = false; told = 0 }) w.memory
    unfolding trap_left trap_answer
    trap-denied n = record { answer = answer-is (rw (o, n)); steps = refl; done = rw (o, n); world = rw (o, n) }

    -- accepted
    module _ (v : w.hart.virt ≡ true) {h : Hart} (e : h ≡ trapped t w.hart) where
      -- it leaves what its definition gives
      made : {g : Hart} {m : List ℕ} {k : ℕ} → lent g w.base m w.table ≡ trap_done (trap_taken t w)
          → TrapServed t w (record { answer = Ok (Value 0); hart = g; steps = 0; finished = true; told = k }) m
      unfolding trap_left trap_answer trapped
      made d = record { answer = answer-is (rw (o, v)); steps = refl; done = rw (o, v); world = rw (o, v) d }

      -- with no page in memory only the record changes
      pub trap-alone : page_there h.xlen w.base w.memory h.shmem ≡ false
          → TrapServed t w (record { answer = Ok (Value 0); hart = h; steps = 0; finished = true; told = 0 }) w.memory
      unfolding trap_done check7
      trap-alone n =
          made
          (ap (λ (x : Hart). lent x w.base w.memory w.table) e
          ∙ sym (rw (ap (λ (x : Hart). page_there x.xlen w.base w.memory x.shmem) (sym e) ∙ n)))

      -- with it also the swap and the clean words
      pub trap-stored : {g : Hart} {m : List ℕ} {k : ℕ} → page_there h.xlen w.base w.memory h.shmem ≡ true
          → OnPage h.xlen (trap_stored h.xlen) (page_offset w.base h.shmem) h w.memory w.table g m w.table
          → TrapServed t w (record { answer = Ok (Value 0); hart = g; steps = 0; finished = true; told = k }) m
      unfolding trap_done check7 trapped
      trap-stored {g} {m} y s₀ =
          made
          (ap (λ (x : List ℕ). lent g w.base x w.table) s.memory ∙ ap put s.state ∙ ap (λ (x : Hart). put (after x)) e
          ∙ sym (rw (ap (λ (x : Hart). page_there x.xlen w.base w.memory x.shmem) (sym e) ∙ y)))
        where
          s : OnPage w.hart.xlen (trap_stored w.hart.xlen) (offset w) h w.memory w.table g m w.table
          s = subst (λ (x : Hart). OnPage x.xlen (trap_stored x.xlen) (page_offset w.base x.shmem) h w.memory w.table g m w.table) e s₀

          put : State → World
          put = with_state (trap_taken t w)

          after : Hart → State
          after x = trap_stored w.hart.xlen (state_from x (state_of w).page w.table)
