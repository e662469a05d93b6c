-- What holds before, between and after the steps of a run.
use mathlib.Core.Path.{◌≡◌, refl}
use mathlib.Core.List.{List, [], ◌∷◌, ◌++◌}
use Prim.Native.Nat.{ℕ, zero, suc}
use lib.ListN.{take}
use Rattle.layout.specs.declared.xlen.Xlen.{Xlen}
use Rattle.world.specs.State.{State}
use Rattle.turns.specs.Steps.{Step, after, run}

-- Q holds now and after each of the steps
unfoldable pub Along : (xlen : Xlen) → (State → Type 0) → List Step → State → Type 0
Along xlen Q [] s = Q s
Along xlen Q (x ∷ xs) s = Q s × Along xlen Q xs (after xlen x s)

pub along-here : (xlen : Xlen) (Q : State → Type 0) (xs : List Step) (s : State) → Along xlen Q xs s → Q s
unfolding Along
along-here xlen Q [] s a = a
along-here xlen Q (x ∷ xs) s a = a.0

-- so it holds after the first n of them, whatever n is
pub along-take : (xlen : Xlen) (Q : State → Type 0) (xs : List Step) (s : State) (n : ℕ) → Along xlen Q xs s → Q (run xlen (take n xs) s)
unfolding Along run
along-take xlen Q xs s zero a = along-here xlen Q xs s a
along-take xlen Q [] s (suc n) a = a
along-take xlen Q (x ∷ xs) s (suc n) a = along-take xlen Q xs (after xlen x s) n a.1

-- and after all
pub along-end : (xlen : Xlen) (Q : State → Type 0) (xs : List Step) (s : State) → Along xlen Q xs s → Q (run xlen xs s)
unfolding Along run
along-end xlen Q [] s a = a
along-end xlen Q (x ∷ xs) s a = along-end xlen Q xs (after xlen x s) a.1

pub along-map : (xlen : Xlen) (Q R : State → Type 0) (xs : List Step) (s : State) → ((t : State) → Q t → R t) → Along xlen Q xs s → Along xlen R xs s
unfolding Along
along-map xlen Q R [] s f a = f s a
along-map xlen Q R (x ∷ xs) s f a = (f s a.0, along-map xlen Q R xs (after xlen x s) f a.1)

pub along-append : (xlen : Xlen) (Q : State → Type 0) (xs ys : List Step) (s : State) → Along xlen Q xs s → Along xlen Q ys (run xlen xs s) → Along xlen Q (xs ++ ys) s
unfolding Along run
along-append xlen Q [] ys s a b = b
along-append xlen Q (x ∷ xs) ys s a b = (a.0, along-append xlen Q xs ys (after xlen x s) a.1 b)

pub run-append : (xlen : Xlen) (xs ys : List Step) (s : State) → run xlen (xs ++ ys) s ≡ run xlen ys (run xlen xs s)
unfolding run
run-append xlen [] ys s = refl
run-append xlen (x ∷ xs) ys s = run-append xlen xs ys (after xlen x s)
