-- Turns, registers and numbers: each leads to the others.
use Rattle.std.specs.Prelude.{Option, Some, None}
use mathlib.Core.Path.{◌≡◌, refl, sym, ap, ◌∙◌}
use mathlib.Core.Bool.{Bool, true, false, cond}
use mathlib.Core.List.{List, [], ◌∷◌, ◌++◌}
use Prim.Native.Nat.{ℕ, ◌≤◌, ◌<◌}
use native.Mathlib.Decide.{dec_lt}
use native.Mathlib.Omega.{arith}
use borrow.Author.Tests.{eqb-true, lt-ltb, ltb-true, leb-true}
use lib.Dec.{eqb, leb, ltb}
use lib.Bits.{bit_and}
use lib.ListN.{length}
use Rattle.layout.specs.declared.xlen.Xlen.{Xlen}
use Rattle.layout.specs.declared.xlen.Xlen.TheVariants.{X32, X64}
use Rattle.csr.specs.Csrs.{Csr, Vsip, csr_count, every_csr, number, turn_of, followers, is_upper_half, has, those, at_turn, find_number, lookup}
use Rattle.csr.proofs.Table.{at_turn-last, same, same_at}
pub use Rattle.csr.proofs.Table.{turn_of-lt, at_turn-turn_of, turn_of-at_turn}

-- the lookup of the number of a turn's register finds that turn where the width has the register
lookup-at : (x : Xlen) (t : ℕ) → t < csr_count → lookup x (number (at_turn t)) ≡ cond (has x (at_turn t)) (Some t) None
lookup-at X32 = same_at (λ (t : ℕ) (c : Csr). lookup X32 (number c)) (λ (t : ℕ) (c : Csr). cond (has X32 c) (Some t) None) refl
lookup-at X64 = same_at (λ (t : ℕ) (c : Csr). lookup X64 (number c)) (λ (t : ℕ) (c : Csr). cond (has X64 c) (Some t) None) refl

-- the lookup of the number of a register that the width has finds its turn
pub lookup-number : (x : Xlen) (c : Csr) → has x c ≡ true → lookup x (number c) ≡ Some (turn_of c)
lookup-number x c h = rw (at_turn-turn_of c, h) at (lookup-at x (turn_of c) (turn_of-lt c))

-- either width has a register that is no upper half
pub has-lower : (x : Xlen) (c : Csr) → is_upper_half c ≡ false → has x c ≡ true
has-lower X32 c e = refl
has-lower X64 c e = rw e

-- different registers have different numbers
pub number-injective : (a b : Csr) → number a ≡ number b → a ≡ b
number-injective a b e =
    let p : Some (turn_of a) ≡ Some (turn_of b) = sym (lookup-number X32 a refl) ∙ ap (lookup X32) e ∙ lookup-number X32 b refl in
    let q : turn_of a ≡ turn_of b = cc in
    sym (at_turn-turn_of a) ∙ ap at_turn q ∙ at_turn-turn_of b

-- a register that the width has, with number n and turn t
abbrev Found_at : Xlen → ℕ → ℕ → Type 0
Found_at x n t = (c : Csr) × (number c ≡ n) × (turn_of c ≡ t) × (has x c ≡ true)

-- what a search of those of a list that the width has finds is the turn of such a register
find_number-found : (x : Xlen) (cs : List Csr) (n t : ℕ) → find_number (those x cs) n ≡ Some t → Found_at x n t
find_number-found x [] n t e = absurd (let z : ◌≡◌ {A = ℕ} 0 1 = cc in omega arith)
find_number-found x (c ∷ cs) n t e = had (has x c) refl e (find_number-found x cs n t)
  where
    this : (b : Bool) → eqb n (number c) ≡ b → has x c ≡ true → cond b (Some (turn_of c)) (find_number (those x cs) n) ≡ Some t
        → (find_number (those x cs) n ≡ Some t → Found_at x n t) → Found_at x n t
    this true q h e rest = (c, sym (eqb-true n (number c) q), cc, h)
    this false q h e rest = rest e

    had : (b : Bool) → has x c ≡ b → find_number (cond b (c ∷ []) [] ++ those x cs) n ≡ Some t → (find_number (those x cs) n ≡ Some t → Found_at x n t) → Found_at x n t
    had true h e rest = this (eqb n (number c)) refl h e rest
    had false h e rest = rest e

-- a number that the lookup finds is that of the turn's register
pub lookup-found : (x : Xlen) (n t : ℕ) → lookup x n ≡ Some t → (t < csr_count) × (number (at_turn t) ≡ n)
lookup-found x n t e =
    let (c, p, q, h) = find_number-found x every_csr n t e in
    (rw (← q) (turn_of-lt c), rw (← q, at_turn-turn_of c) p)

-- the width has the register of a turn that the lookup finds
pub lookup-had : (x : Xlen) (n t : ℕ) → lookup x n ≡ Some t → has x (at_turn t) ≡ true
lookup-had x n t e =
    let (c, p, q, h) = find_number-found x every_csr n t e in
    rw (← q, at_turn-turn_of c) h

-- a number that is no register's is not found
pub lookup_absent : (x : Xlen) (n : ℕ) → ((t : ℕ) → t < csr_count → number (at_turn t) ≡ n → ⊥) → lookup x n ≡ None
lookup_absent x n h = go (lookup x n) refl
  where
    go : (f : Option ℕ) → lookup x n ≡ f → f ≡ None
    go (Some t) e = absurd (h t (lookup-found x n t e).0 (lookup-found x n t e).1)
    go None e = refl

-- bits 9:8 of every number are 2
pub number-window : (c : Csr) → bit_and (number c) 0x300 ≡ 0x200
number-window = same (λ (c : Csr). bit_and (number c) 0x300) (λ (c : Csr). 0x200) refl

-- every number has 12 bits
pub number_lt : (c : Csr) → number c < 0x1000
number_lt c = ltb-true _ _ (same (λ (c : Csr). ltb (number c) 0x1000) (λ (c : Csr). true) refl c)

-- no register has a third follower
pub followers-short : (c : Csr) → length (followers c) ≤ 2
followers-short c = leb-true _ _ (same (λ (c : Csr). leb (length (followers c)) 2) (λ (c : Csr). true) refl c)

-- no register after vsip has a follower
pub no-followers : (t : ℕ) → turn_of Vsip < t → followers (at_turn t) ≡ []
no-followers t h = go (dec_lt t csr_count)
  where
    go : Dec (t < csr_count) → followers (at_turn t) ≡ []
    go (yes l) = rw (lt-ltb (turn_of Vsip) t h) at (same_at (λ (k : ℕ) (c : Csr). cond (ltb (turn_of Vsip) k) (followers c) []) (λ (k : ℕ) (c : Csr). []) refl t l)
    go (no n) = rw (at_turn-last t (omega arith))
