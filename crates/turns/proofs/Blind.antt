-- Turns and steps do not go by the count of writes that dropped bits, and leave it as it is.
use mathlib.Core.Path.{◌≡◌, refl, sym, ap, ap₂, ◌∙◌}
use mathlib.Core.Bool.{Bool, true, false, cond}
use mathlib.Core.List.{List, [], ◌∷◌, ◌++◌}
use Prim.Native.Nat.{ℕ}
use Rattle.layout.specs.declared.xlen.Xlen.{Xlen}
use Rattle.csr.specs.Csrs.{Csr, followers}
use Rattle.hart.specs.Record.{with_dropped}
use Rattle.hart.specs.Dropped.{Report, report_of}
use Rattle.fence.specs.Table.{remove_named}
use Rattle.page.specs.Registers.{is_dirty}
use Rattle.page.specs.Entries.{is_pending, fence_at, clear_entry}
use Rattle.world.specs.State.{State, state_from}
use Rattle.turns.specs.Marks.{Mark, Dirty, Pending}
use Rattle.turns.specs.Turn.{write_from_word, clear_its_bit, store_reading, served, store_clean, csr_turn, entry_turn, turn, turns}
use Rattle.turns.specs.Steps.{Step, Write, Clear, Store, Remove, Done, after, run, csr_steps, entry_steps, turn_steps, steps}
use Rattle.turns.specs.Reports.{said, reports}

-- the state with another count
abbrev pub state_with : ℕ → State → State
state_with n s = state_from (with_dropped s.hart n) s.page s.table

module _ (x : Xlen) (n : ℕ) where
  -- the stores of (D)
  store-blind : (fs : List Csr) (s : State) → store_clean x fs (state_with n s) ≡ state_with n (store_clean x fs s)
  unfolding store_clean store_reading
  store-blind [] s = refl
  store-blind (f ∷ fs) s = go (is_dirty s.page f) (store-blind fs s) (store-blind fs (store_reading x f s))
    where
      go : (b : Bool) → store_clean x fs (state_with n s) ≡ state_with n (store_clean x fs s)
          → store_clean x fs (state_with n (store_reading x f s)) ≡ state_with n (store_clean x fs (store_reading x f s))
          → store_clean x fs (cond b (state_with n s) (store_reading x f (state_with n s))) ≡ state_with n (store_clean x fs (cond b s (store_reading x f s)))
      go true p q = p
      go false p q = q

  -- (A) and (B)
  served-blind : (c : Csr) (s : State) → served x c (state_with n s) ≡ state_with n (served x c s)
  unfolding served clear_its_bit write_from_word
  served-blind c s = go (is_dirty s.page c)
    where
      go : (b : Bool) → cond b (clear_its_bit c (write_from_word x c (state_with n s))) (state_with n s) ≡ state_with n (cond b (clear_its_bit c (write_from_word x c s)) s)
      go true = refl
      go false = refl

  -- an entry's turn
  entry-blind : (e : ℕ) (s : State) → entry_turn x e (state_with n s) ≡ state_with n (entry_turn x e s)
  unfolding entry_turn
  entry-blind e s = go (is_pending x s.page e)
    where
      left : State → State
      left s = record { hart = s.hart; page = clear_entry x e s.page; table = remove_named (fence_at x s.page e) s.table }

      go : (b : Bool) → cond b (left (state_with n s)) (state_with n s) ≡ state_with n (cond b (left s) s)
      go true = refl
      go false = refl

  pub turn-blind : (m : Mark) (s : State) → turn x m (state_with n s) ≡ state_with n (turn x m s)
  unfolding csr_turn store_reading
  turn-blind (Dirty c) s =
      ap (λ (t : State). store_clean x (followers c) (store_reading x c t)) (served-blind c s) ∙ store-blind (followers c) (store_reading x c (served x c s))
  turn-blind (Pending e) s = entry-blind e s

  pub turns-blind : (ms : List Mark) (s : State) → turns x ms (state_with n s) ≡ state_with n (turns x ms s)
  unfolding turns
  turns-blind [] s = refl
  turns-blind (m ∷ ms) s = ap (turns x ms) (turn-blind m s) ∙ turns-blind ms (turn x m s)

  -- one step
  after-blind : (y : Step) (s : State) → after x y (state_with n s) ≡ state_with n (after x y s)
  unfolding after write_from_word clear_its_bit store_reading
  after-blind (Write c) s = refl
  after-blind (Clear c) s = refl
  after-blind (Store c) s = refl
  after-blind (Remove i) s = refl
  after-blind (Done e) s = refl

  pub run-blind : (ys : List Step) (s : State) → run x ys (state_with n s) ≡ state_with n (run x ys s)
  unfolding run
  run-blind [] s = refl
  run-blind (y ∷ ys) s = ap (run x ys) (after-blind y s) ∙ run-blind ys (after x y s)

  -- which steps there are
  turn-steps-blind : (m : Mark) (s : State) → turn_steps x m (state_with n s) ≡ turn_steps x m s
  unfolding entry_steps
  turn-steps-blind (Dirty c) s = refl
  turn-steps-blind (Pending e) s = refl

  pub steps-blind : (ms : List Mark) (s : State) → steps x ms (state_with n s) ≡ steps x ms s
  unfolding steps
  steps-blind [] s = refl
  steps-blind (m ∷ ms) s =
      ap₂ (λ (xs ys : List Step). xs ++ ys) (turn-steps-blind m s) (ap (steps x ms) (turn-blind m s) ∙ steps-blind ms (turn x m s))

  -- and what they say
  said-blind : (y : Step) (s : State) → said x y (state_with n s) ≡ said x y s
  unfolding after write_from_word report_of
  said-blind (Write c) s = refl
  said-blind (Clear c) s = refl
  said-blind (Store c) s = refl
  said-blind (Remove i) s = refl
  said-blind (Done e) s = refl

  pub reports-blind : (ys : List Step) (s : State) → reports x ys (state_with n s) ≡ reports x ys s
  unfolding reports
  reports-blind [] s = refl
  reports-blind (y ∷ ys) s = ap₂ (λ (rs qs : List Report). rs ++ qs) (said-blind y s) (ap (reports x ys) (after-blind y s) ∙ reports-blind ys (after x y s))
