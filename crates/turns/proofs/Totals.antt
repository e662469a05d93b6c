-- How many steps register turns have at most.
use mathlib.Core.Bool.{Bool, true, false, cond}
use mathlib.Core.List.{List, [], ◌∷◌, ◌++◌, map}
use Prim.Native.Nat.{ℕ, suc, ◌+◌, ◌≤◌}
use native.Mathlib.Omega.{arith}
use lib.ListN.{length, length-append}
use Rattle.layout.specs.declared.xlen.Xlen.{Xlen}
use Rattle.layout.specs.declared.xlen.Xlen.TheVariants.{X32, X64}
use Rattle.csr.specs.Csrs.{Csr, turn_order, followers}
use Rattle.csr.proofs.Turns.{followers-short}
use Rattle.page.specs.Registers.{is_dirty}
use Rattle.world.specs.State.{State}
use Rattle.turns.specs.Turn.{csr_turn}
use Rattle.turns.specs.Marks.{Dirty}
use Rattle.turns.specs.Steps.{Write, Clear, Store, clean_stores, csr_steps, steps, total}

-- no more stores of D than followers
pub stores-le : (fs : List Csr) (p : List ℕ) → length (clean_stores fs p) ≤ length fs
unfolding clean_stores
stores-le [] p = omega arith
stores-le (f ∷ fs) p = go (is_dirty p f) (stores-le fs p)
  where
    go : (b : Bool) → length (clean_stores fs p) ≤ length fs → length (cond b (clean_stores fs p) (Store f ∷ clean_stores fs p)) ≤ suc (length fs)
    go true ih = omega arith
    go false ih = omega arith

-- no more steps of a turn than A, B, C and one for each follower
pub turn-le : (c : Csr) (p : List ℕ) → length (csr_steps c p) ≤ 3 + length (followers c)
unfolding csr_steps
turn-le c p = go (is_dirty p c) (stores-le (followers c) p)
  where
    go : (b : Bool) → length (clean_stores (followers c) p) ≤ length (followers c)
        → length (cond b (Write c ∷ Clear c ∷ []) [] ++ (Store c ∷ clean_stores (followers c) p)) ≤ 3 + length (followers c)
    go true ih = omega arith
    go false ih = omega arith

-- the most steps that the turns of these registers have
abbrev pub most : List Csr → ℕ
most [] = 0
most (c ∷ cs) = 3 + length (followers c) + most cs

pub total-le : (xlen : Xlen) (cs : List Csr) (s : State) → total xlen (map Dirty cs) s ≤ most cs
unfolding total steps
total-le xlen [] s = omega arith
total-le xlen (c ∷ cs) s =
    omega (arith, turn-le c s.page, total-le xlen cs (csr_turn xlen c s), length-append (csr_steps c s.page) (steps xlen (map Dirty cs) (csr_turn xlen c s)))

-- the most steps of a whole synchronization: 82, at XLEN 32 88
abbrev pub most_of : Xlen → ℕ
most_of X32 = 88
most_of X64 = 82

-- it has no more
pub all-le : (xlen : Xlen) (s : State) → total xlen (map Dirty (turn_order xlen)) s ≤ most_of xlen
all-le X32 s = total-le X32 (turn_order X32) s
all-le X64 s = total-le X64 (turn_order X64) s

-- one register's has at most 5
pub one-le : (xlen : Xlen) (c : Csr) (s : State) → total xlen (map Dirty (c ∷ [])) s ≤ 5
one-le xlen c s = omega (arith, total-le xlen (c ∷ []) s, followers-short c)
