-- For the contracts of inner functions only: the store for a follower.
use Rattle.std.specs.Prelude.{cond, List, [], ◌∷◌, ℕ, Option, Some, None}
use Rattle.csr.specs.Csrs.{at_turn}
use Rattle.page.specs.Registers.{is_dirty}
use Rattle.turns.specs.Steps.{Step, Store}

-- the store of D for a follower that was found: none if its bit is set
abbrev pub follower_steps : Option ℕ → List ℕ → List Step
follower_steps (Some t) p = cond (is_dirty p (at_turn t)) [] (Store (at_turn t) ∷ [])
follower_steps None p = []
