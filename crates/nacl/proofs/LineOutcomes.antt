-- A line change's outcome in each of its cases.
use mathlib.Core.Path.{◌≡◌, refl, sym, ap, ◌∙◌, subst}
use mathlib.Core.Bool.{true, false}
use mathlib.Core.List.{List, [], ◌∷◌}
use Prim.Native.Nat.{ℕ}
use Rattle.std.specs.Prelude.{Ok, Err}
use Rattle.csr.specs.Csrs.{Hgeip, Hip, Vsip}
use Rattle.hart.specs.declared.record.Hart.{Hart}
use Rattle.hart.specs.Record.{with_lines}
use Rattle.hart.specs.WellMade.{lines_well_made}
use Rattle.world.specs.World.{World, lent, page_there, page_offset, offset}
use Rattle.world.specs.State.{State, state_from, state_of, with_state}
use Rattle.turns.specs.Clean.{store_clean_words}
use Rattle.checks.specs.declared.answer.Success.TheVariants.{Value}
use Rattle.checks.specs.declared.answer.Refusal.TheVariants.{Failed, InvalidParam}
use Rattle.checks.specs.Checks.{check1, check7}
use Rattle.checks.proofs.Codes.{answer-is}
use Rattle.nacl.specs.Lines.{lines_stored, line_answer, line_done, line_left, LineIs}
use Rattle.nacl.specs.Inner.{OnPage}

module _ (lines : ℕ) (w : World) where
  -- refused at check 1
  pub line-failed : check1 w ≡ false → LineIs lines w (record { answer = Err Failed; hart = w.hart; steps = 0; finished = false; told = 0 }) w.memory
  unfolding line_left line_answer
  line-failed n = record { answer = answer-is (rw n); steps = refl; done = rw n; world = rw n; told = refl }

  module _ (o : check1 w ≡ true) where
    -- refused for a bit outside 7:1
    pub line-invalid : lines_well_made lines ≡ false
        → LineIs lines w (record { answer = Err InvalidParam; hart = w.hart; steps = 0; finished = false; told = 0 }) w.memory
    unfolding line_left line_answer
    line-invalid n = record { answer = answer-is (rw (o, n)); steps = refl; done = rw (o, n); world = rw (o, n); told = refl }

    -- accepted
    module _ (t : lines_well_made lines ≡ true) {h : Hart} (e : h ≡ with_lines w.hart lines) where
      -- it leaves what its definition gives
      taken : {m : List ℕ} → lent h w.base m w.table ≡ line_done (lines_stored lines w)
          → LineIs lines w (record { answer = Ok (Value 0); hart = h; steps = 0; finished = true; told = 0 }) m
      unfolding line_left line_answer
      taken d = record { answer = answer-is (rw (o, t)); steps = refl; done = rw (o, t); world = rw (o, t) d; told = refl }

      -- with no page in memory only the lines are stored
      pub line-alone : page_there h.xlen w.base w.memory h.shmem ≡ false
          → LineIs lines w (record { answer = Ok (Value 0); hart = h; steps = 0; finished = true; told = 0 }) w.memory
      unfolding line_done check7
      line-alone n =
          taken
          (ap (λ (x : Hart). lent x w.base w.memory w.table) e
          ∙ sym (rw (ap (λ (x : Hart). page_there x.xlen w.base w.memory x.shmem) (sym e) ∙ n)))

      -- with it also the clean words
      pub line-stored : {m : List ℕ} → page_there h.xlen w.base w.memory h.shmem ≡ true
          → OnPage h.xlen (store_clean_words h.xlen (Hgeip ∷ Hip ∷ Vsip ∷ [])) (page_offset w.base h.shmem) h w.memory w.table h m w.table
          → LineIs lines w (record { answer = Ok (Value 0); hart = h; steps = 0; finished = true; told = 0 }) m
      unfolding line_done check7
      line-stored {m} y s₀ =
          taken
          (ap (λ (x : List ℕ). lent h w.base x w.table) s.memory ∙ ap put s.state ∙ ap (λ (x : Hart). put (after x)) e
          ∙ sym (rw (ap (λ (x : Hart). page_there x.xlen w.base w.memory x.shmem) (sym e) ∙ y)))
        where
          stored : State → State
          stored = store_clean_words w.hart.xlen (Hgeip ∷ Hip ∷ Vsip ∷ [])

          s : OnPage w.hart.xlen stored (offset w) h w.memory w.table h m w.table
          s = subst (λ (x : Hart). OnPage x.xlen (store_clean_words x.xlen (Hgeip ∷ Hip ∷ Vsip ∷ [])) (page_offset w.base x.shmem) h w.memory w.table h m w.table) e s₀

          put : State → World
          put = with_state (lines_stored lines w)

          after : Hart → State
          after x = stored (state_from x (state_of w).page w.table)
