-- The lookup's table: each place by one computed test of all 1,024, and the place of a number.
use Rattle.std.specs.Prelude.{Option, Some, None}
use mathlib.Core.Bool.{Bool, true, false, cond, ◌&&◌, and-eq-true_iff}
use mathlib.Core.List.{List, [], ◌∷◌}
use mathlib.Core.Path.{◌≡◌, refl, sym, ap, ◌∙◌}
use Prim.Native.Nat.{ℕ, zero, suc, ◌+◌, ◌*◌, ◌/◌, ◌%◌, ◌^◌, ◌<◌}
use native.Mathlib.Omega.{arith}
use borrow.Author.Tests.{eq-eqb, ne_eqb, eqb-true, eqb-false}
use lib.Bits.{bit_and}
use lib.Dec.{eqb, lit<}
use lib.ListN.{get_or}
use Rattle.layout.specs.declared.xlen.Xlen.{Xlen}
use Rattle.layout.specs.declared.xlen.Xlen.TheVariants.{X32, X64}
use Rattle.layout.specs.Geometry.{index_of}
use Rattle.layout.proofs.IndexLaws.{index-parts, index-inj}
use Rattle.csr.specs.declared.places.TheConstants.{TURN_AT}
use Rattle.csr.specs.Csrs.{Csr, every_csr, number, turn_of, has, turn_order, find_number, lookup}
use Rattle.csr.specs.Inner.{find_index, at_index, or_none, place}
use Rattle.csr.proofs.Turns.{turn_of-lt, lookup-number, number-window, number_lt}

-- `find_index` with the index by its two parts, which antt computes at once
abbrev quick : List Csr → ℕ → Option ℕ
quick [] i = None
quick (c ∷ cs) i = cond (eqb i (number c / 1024 % 4 * 256 + number c % 256)) (Some (turn_of c)) (quick cs i)

find-quick : (cs : List Csr) (i : ℕ) → quick cs i ≡ find_index cs i
find-quick [] i = refl
find-quick (c ∷ cs) i = rw (index-parts (number c), find-quick cs i)

-- f and g agree at every number below n
abbrev agree : (ℕ → ℕ) → (ℕ → ℕ) → ℕ → Bool
agree f g zero = true
agree f g (suc n) = eqb (f n) (g n) && agree f g n

agree_at : (f g : ℕ → ℕ) (n : ℕ) → agree f g n ≡ true → (i : ℕ) → i < n → f i ≡ g i
agree_at f g zero e i h = absurd (omega arith)
agree_at f g (suc n) e i h = go (eqb i n) refl (agree_at f g n two.1 i)
  where
    two : (eqb (f n) (g n) ≡ true) × (agree f g n ≡ true)
    two = (and-eq-true_iff _ (agree f g n)).0 e

    go : (b : Bool) → eqb i n ≡ b → (i < n → f i ≡ g i) → f i ≡ g i
    go true q rest = rw (eqb-true i n q) (eqb-true _ _ two.0)
    go false q rest = rest (omega (arith, eqb-false i n q))

-- place i of a table of rows of sixteen
abbrev pub in_row : List (List ℕ) → ℕ → ℕ
in_row rows i = get_or (get_or rows (i / 16) []) (i % 16) 0

-- each of the 1,024 places of the code's table is the definition's
pub table-place : (i : ℕ) → i < 1024 → in_row TURN_AT i ≡ place i
table-place i h = rw (find-quick every_csr i) at (agree_at (in_row TURN_AT) (λ i. or_none (quick every_csr i)) 1024 refl i h)

-- a place holds a turn or 25, so that a word has a bit for it
find-lt : (cs : List Csr) (i : ℕ) → or_none (find_index cs i) < 64
find-lt [] i = lit< tt
find-lt (c ∷ cs) i = go (eqb i (index_of (number c))) (find-lt cs i)
  where
    go : (b : Bool) → or_none (find_index cs i) < 64 → or_none (cond b (Some (turn_of c)) (find_index cs i)) < 64
    go true h = omega (arith, turn_of-lt c)
    go false h = h

pub place-lt : (i : ℕ) → place i < 64
place-lt = find-lt every_csr

-- the turn in a place, if its bit is set
abbrev pub among : ℕ → ℕ → Option ℕ
among turns t = cond (eqb (turns / 2 ^ t % 2) 1) (Some t) None

-- what is found, as a number
abbrev code : Option ℕ → ℕ
code (Some t) = suc t
code None = 0

code-injective : (f g : Option ℕ) → code f ≡ code g → f ≡ g
code-injective (Some t) (Some u) e = ap Some (omega arith)
code-injective (Some t) None e = absurd (omega arith)
code-injective None (Some u) e = absurd (omega arith)
code-injective None None e = refl

-- each of the 1,024 places holds the turn of the register with that index that the width has, or none
place_at : (x : Xlen) (turns : ℕ) → agree (λ i. code (among turns (or_none (quick every_csr i)))) (λ i. code (quick (turn_order x) i)) 1024 ≡ true
    → (i : ℕ) → i < 1024 → among turns (place i) ≡ at_index x i
place_at x turns e i h =
    rw (find-quick every_csr i, find-quick (turn_order x) i) at
    (code-injective (among turns (or_none (quick every_csr i))) (quick (turn_order x) i)
    (agree_at (λ i. code (among turns (or_none (quick every_csr i)))) (λ i. code (quick (turn_order x) i)) 1024 e i h))

pub place-32 : (i : ℕ) → i < 1024 → among 0x1FFFFFF (place i) ≡ at_index X32 i
place-32 = place_at X32 0x1FFFFFF refl

pub place-64 : (i : ℕ) → i < 1024 → among 0x1FFB7FF (place i) ≡ at_index X64 i
place-64 = place_at X64 0x1FFB7FF refl

-- a number with 12 bits, of which 9:8 are 2, is a register's exactly if the indexes are one
same_test : (n : ℕ) → n < 0x1000 → bit_and n 0x300 ≡ 0x200 → (c : Csr) → eqb n (number c) ≡ eqb (index_of n) (index_of (number c))
same_test n h w c = go (eqb (index_of n) (index_of (number c))) refl
  where
    go : (b : Bool) → eqb (index_of n) (index_of (number c)) ≡ b → eqb n (number c) ≡ b
    go true e = eq-eqb n (number c) (index-inj n (number c) h (number_lt c) w (number-window c) (eqb-true (index_of n) (index_of (number c)) e))
    go false e = ne_eqb n (number c) (λ q. eqb-false (index_of n) (index_of (number c)) e (ap index_of q))

-- the lookup of such a number is that of its index
pub lookup-index : (x : Xlen) (n : ℕ) → n < 0x1000 → bit_and n 0x300 ≡ 0x200 → lookup x n ≡ at_index x (index_of n)
lookup-index x n h w = find (turn_order x)
  where
    find : (cs : List Csr) → find_number cs n ≡ find_index cs (index_of n)
    find [] = refl
    find (c ∷ cs) = rw (same_test n h w c, find cs)

-- no register is hidden by another with its index: the place of each that the width has holds its turn
pub place_of : (x : Xlen) (c : Csr) → has x c ≡ true → at_index x (index_of (number c)) ≡ Some (turn_of c)
place_of x c h = sym (lookup-index x (number c) (number_lt c) (number-window c)) ∙ lookup-number x c h
