-- The steps of a fence entry's turn make the turn; and runs of them that are allowed some number of steps.
use mathlib.Core.Path.{◌≡◌, refl, sym, ap, ◌∙◌}
use mathlib.Core.Bool.{true, false, cond}
use mathlib.Core.List.{List, [], ◌∷◌, ◌++◌}
use mathlib.Core.Logic.{◌⊎◌, inl, inr}
use Prim.Native.Nat.{ℕ, zero, suc, ◌+◌, ◌-◌, ◌<◌, ◌≤◌}
use native.Mathlib.Omega.{arith}
use lib.ListN.{length, take, length-append}
use lib.Seq.{take_all, take-append-le}
use Rattle.layout.specs.declared.xlen.Xlen.{Xlen}
use Rattle.fence.specs.Table.{remove_slot, remove_slots, named}
use Rattle.page.specs.Entries.{is_pending, fence_at, clear_entry}
use Rattle.world.specs.State.{State}
use Rattle.turns.specs.Turn.{entry_turn}
use Rattle.turns.specs.Steps.{Step, Remove, Done, after, run, removals, entry_steps, Made}
use Rattle.turns.proofs.Truth.{either}
use Rattle.turns.proofs.Along.{run-append}
use Rattle.turns.proofs.Made.{whole, cut, none, same-steps, join}
use Rattle.turns.proofs.FenceTurns.{at, without}

-- ---- steps and turns

-- removals, one after the other
pub removals-are : (xlen : Xlen) (is : List ℕ) (s : State) → run xlen (removals is) s ≡ without is s
unfolding run removals after
removals-are xlen [] s = refl
removals-are xlen (i ∷ is) s = removals-are xlen is (at s (remove_slot s.table i) s.page)

-- the steps of an entry's turn make the turn
pub entry-steps : (xlen : Xlen) (e : ℕ) (s : State) → run xlen (entry_steps xlen e s) s ≡ entry_turn xlen e s
unfolding entry_steps entry_turn run after
entry-steps xlen e s = go (either (is_pending xlen s.page e))
  where
    is : List ℕ
    is = named (fence_at xlen s.page e) s.table

    go : (is_pending xlen s.page e ≡ true) ⊎ (is_pending xlen s.page e ≡ false)
        → run xlen (cond (is_pending xlen s.page e) (removals is ++ (Done e ∷ [])) []) s
        ≡ cond (is_pending xlen s.page e) (at s (remove_slots s.table is) (clear_entry xlen e s.page)) s
    go (inl t) = rw t (run-append xlen (removals is) (Done e ∷ []) s ∙ ap (run xlen (Done e ∷ [])) (removals-are xlen is s))
    go (inr n) = rw n

-- an entry that is not Pending has no step
pub steps-idle : (xlen : Xlen) (e : ℕ) (s : State) → is_pending xlen s.page e ≡ false → entry_steps xlen e s ≡ []
unfolding entry_steps
steps-idle xlen e s n = rw n

-- as many removals as slots
pub length-removals : (is : List ℕ) → length (removals is) ≡ length is
unfolding removals
length-removals [] = refl
length-removals (i ∷ is) = ap suc (length-removals is)

-- the first n removals are those of the first n slots
take-removals : (n : ℕ) (is : List ℕ) → take n (removals is) ≡ removals (take n is)
unfolding removals
take-removals zero is = refl
take-removals (suc n) [] = refl
take-removals (suc n) (i ∷ is) = ap (λ (l : List Step). Remove i ∷ l) (take-removals n is)

-- the state after them
removed : (xlen : Xlen) (is : List ℕ) (s : State) (n : ℕ) → without (take n is) s ≡ run xlen (take n (removals is)) s
removed xlen is s n = sym (ap (λ (l : List Step). run xlen l s) (take-removals n is) ∙ removals-are xlen (take n is) s)

-- ---- an entry's turn, allowed n steps

module _ (xlen : Xlen) (e : ℕ) (s : State) (n : ℕ) where
  -- not Pending: nothing to make
  pub turn-idle : is_pending xlen s.page e ≡ false → Made xlen (entry_steps xlen e s) s n s n false
  turn-idle h = same-steps xlen (sym (steps-idle xlen e s h)) (none xlen s n)

  -- no more than its removals allowed: it is left before its end
  pub turn-over : is_pending xlen s.page e ≡ true → n ≤ length (named (fence_at xlen s.page e) s.table)
      → Made xlen (entry_steps xlen e s) s n (without (take n (named (fence_at xlen s.page e) s.table)) s) 0 true
  unfolding entry_steps
  turn-over h le = rw h made
    where
      is : List ℕ
      is = named (fence_at xlen s.page e) s.table

      made : Made xlen (removals is ++ (Done e ∷ [])) s n (without (take n is) s) 0 true
      made =
          cut xlen (rw (length-append, length-removals) (omega arith))
          (removed xlen is s n ∙ ap (λ (l : List Step). run xlen l s) (sym (take-append-le n (removals is) (Done e ∷ []) (rw length-removals le)))) refl refl

  -- more allowed: it comes to its end
  pub turn-done : is_pending xlen s.page e ≡ true → length (named (fence_at xlen s.page e) s.table) < n
      → Made xlen (entry_steps xlen e s) s n (at s (remove_slots s.table (take n (named (fence_at xlen s.page e) s.table))) (clear_entry xlen e s.page))
      (n - length (named (fence_at xlen s.page e) s.table) - 1) false
  unfolding entry_steps run after
  turn-done h lt = rw h (join xlen first refl last)
    where
      is : List ℕ
      is = named (fence_at xlen s.page e) s.table

      size : length (removals is) ≤ n
      size = rw length-removals (omega arith)

      first : Made xlen (removals is) s n (without (take n is) s) (n - length is) false
      first =
          whole xlen size (removed xlen is s n ∙ ap (λ (l : List Step). run xlen l s) (take_all n (removals is) size)) (rw length-removals) refl

      last : Made xlen (Done e ∷ []) (without (take n is) s) (n - length is)
          (at s (remove_slots s.table (take n is)) (clear_entry xlen e s.page)) (n - length is - 1) false
      last = whole xlen (omega arith) refl refl refl
