-- Turns of any marks, one after the other: the steps make the turns, and runs of some of them put together.
use mathlib.Core.Path.{◌≡◌, refl, sym, ap, ◌∙◌, subst}
use mathlib.Core.Bool.{Bool, true, false}
use mathlib.Core.List.{List, [], ◌∷◌, ◌++◌, append-nil}
use Prim.Native.Nat.{ℕ, ◌≤◌}
use lib.Seq.{take_all}
use Rattle.layout.specs.declared.xlen.Xlen.{Xlen}
use Rattle.page.specs.Registers.{IsPage}
use Rattle.world.specs.State.{State}
use Rattle.turns.specs.Marks.{Mark, Dirty, Pending}
use Rattle.turns.specs.Turn.{turn, turns}
use Rattle.turns.specs.Steps.{Step, run, turn_steps, steps, total, stopped, Made}
use Rattle.turns.proofs.Along.{run-append}
use Rattle.turns.proofs.Made.{all_made, halt, join, none, same-steps, steps-append}
use Rattle.turns.proofs.Holds.{laws}
use Rattle.turns.proofs.TurnSteps as Csrs
use Rattle.turns.proofs.FenceSteps.{entry-steps}
use Rattle.turns.proofs.Kept.{StateKept, state-same, run-kept}

-- the steps of a turn make the turn
pub turn-steps : (xlen : Xlen) (m : Mark) (s : State) → IsPage xlen s.page → run xlen (turn_steps xlen m s) s ≡ turn xlen m s
turn-steps xlen (Dirty c) s g = Csrs.turn-steps xlen (laws xlen) c s g
turn-steps xlen (Pending e) s g = entry-steps xlen e s

-- a turn keeps what every step keeps
pub turn-kept : (xlen : Xlen) (m : Mark) (s : State) → IsPage xlen s.page → StateKept xlen (turn xlen m s) s
turn-kept xlen m s g = subst (λ (t : State). StateKept xlen t s) (turn-steps xlen m s g) (run-kept xlen (turn_steps xlen m s) s s (state-same xlen s g))

pub turn-page : (xlen : Xlen) (m : Mark) (s : State) → IsPage xlen s.page → IsPage xlen (turn xlen m s).page
turn-page xlen m s g = (turn-kept xlen m s g).page

pub turns-page : (xlen : Xlen) (ms : List Mark) (s : State) → IsPage xlen s.page → IsPage xlen (turns xlen ms s).page
unfolding turns
turns-page xlen [] s g = g
turns-page xlen (m ∷ ms) s g = turns-page xlen ms (turn xlen m s) (turn-page xlen m s g)

-- all the steps make all the turns
pub all-steps : (xlen : Xlen) (ms : List Mark) (s : State) → IsPage xlen s.page → run xlen (steps xlen ms s) s ≡ turns xlen ms s
unfolding steps turns run
all-steps xlen [] s g = refl
all-steps xlen (m ∷ ms) s g =
    run-append xlen (turn_steps xlen m s) (steps xlen ms (turn xlen m s)) s ∙ ap (run xlen (steps xlen ms (turn xlen m s))) (turn-steps xlen m s g) ∙ all-steps xlen ms (turn xlen m s) (turn-page xlen m s g)

-- a run with enough steps is the whole
pub enough : (xlen : Xlen) (n : ℕ) (ms : List Mark) (s : State) → IsPage xlen s.page → total xlen ms s ≤ n → stopped xlen n ms s ≡ turns xlen ms s
unfolding total stopped
enough xlen n ms s g le = ap (λ (xs : List Step). run xlen xs s) (take_all n (steps xlen ms s) le) ∙ all-steps xlen ms s g

-- no turn
pub made_none : (xlen : Xlen) (s : State) (n : ℕ) → Made xlen (steps xlen [] s) s n s n false
unfolding steps
made_none xlen s n = none xlen s n

module _ (xlen : Xlen) (ms : List Mark) {s s' : State} {n l : ℕ} {b : Bool} (a : Made xlen (steps xlen ms s) s n s' l b) where
  -- turns that did not stop, and one turn more
  pub made-turn : (m : Mark) {s'' : State} {l' : ℕ} {b' : Bool} → IsPage xlen s.page → b ≡ false → Made xlen (turn_steps xlen m s') s' l s'' l' b'
      → Made xlen (steps xlen (ms ++ (m ∷ [])) s) s n s'' l' b'
  unfolding steps
  made-turn m g o a' = same-steps xlen (sym more) (join xlen a o a')
    where
      there : turns xlen ms s ≡ s'
      there = sym (all_made xlen a o ∙ all-steps xlen ms s g)

      more : steps xlen (ms ++ (m ∷ [])) s ≡ steps xlen ms s ++ turn_steps xlen m s'
      more =
          steps-append xlen ms (m ∷ []) s
          ∙ ap (λ (xs : List Step). steps xlen ms s ++ xs) (append-nil (turn_steps xlen m (turns xlen ms s)) ∙ ap (turn_steps xlen m) there)

  -- turns that stopped, before further ones
  pub made-halt : (ks : List Mark) → b ≡ true → Made xlen (steps xlen (ms ++ ks) s) s n s' l b
  made-halt ks o = same-steps xlen (sym (steps-append xlen ms ks s)) (halt xlen a (steps xlen ks (turns xlen ms s)) o)
