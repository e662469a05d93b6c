-- Which entries are unreadable, and what they mean.
use Prim.Native.Nat.{ℕ, zero, suc, ◌/◌, ◌%◌, ◌^◌, ◌<◌}
use mathlib.Core.Bool.{Bool, true, false, cond, ◌&&◌, ◌||◌, and-false, and-true, and-eq-true_iff}
use mathlib.Core.Logic.{◌≢◌}
use mathlib.Core.Path.{◌≡◌, refl}
use native.Mathlib.Nat.{zero-div}
use native.Mathlib.Omega.{arith}
use borrow.Author.Tests.{ne_eqb, eqb-true, eqb-false, lt-leb}
use lib.Bits.{bit_and, and_shr, and_mod}
use lib.Dec.{eqb, leb}
use Rattle.fence.specs.declared.entry.Fence.{Fence}
use Rattle.fence.specs.Entry.{type_of, reserved, readable, everything, decoded}
use Rattle.layout.specs.declared.xlen.Xlen.{Xlen}
use Rattle.layout.specs.declared.xlen.Xlen.TheVariants.{X32, X64}
use Rattle.layout.specs.Width.{bits}
use Rattle.layout.specs.Bits.{field}
use Rattle.fence.specs.Slots.{used}
use Rattle.fence.specs.Names.{aimed_at, covers, names}

-- an unreadable entry means every used slot
pub unreadable : (x : Xlen) (config number word2 count : ℕ) → readable x config word2 ≡ false → decoded x config number word2 count ≡ everything
unreadable x config number word2 count e = rw e

-- bit k of a mask's result is set where both have it
both-set : (a b k : ℕ) → field a k 1 ≡ 1 → field b k 1 ≡ 1 → field (bit_and a b) k 1 ≡ 1
both-set a b k p q = rw (and_shr, and_mod (a / 2 ^ k) (b / 2 ^ k) 1, p, q)

-- a bit of the reserved mask makes an entry unreadable
pub reserved-bit : (x : Xlen) (config word2 k : ℕ) → field (reserved x) k 1 ≡ 1 → field config k 1 ≡ 1 → readable x config word2 ≡ false
reserved-bit x config word2 k r s = rw (ne_eqb (bit_and config (reserved x)) 0 clash)
  where
    clash : bit_and config (reserved x) ≢ 0
    clash z =
        let one : 0 / 2 ^ k % 2 ≡ 1 = rw z at (both-set config (reserved x) k s r) in
        omega (arith, zero-div (2 ^ k))

-- the reserved bits: 30:28 and 23 at XLEN 32; 62:60, 55 and 47:30 at XLEN 64
abbrev pub is_reserved : Xlen → ℕ → Bool
is_reserved X32 k = leb 28 k && leb k 30 || eqb k 23
is_reserved X64 k = leb 60 k && leb k 62 || eqb k 55 || leb 30 k && leb k 47

-- p holds of each number below n
abbrev all_below : (ℕ → Bool) → ℕ → Bool
all_below p zero = true
all_below p (suc n) = p n && all_below p n

-- what is computed for each number below n holds for each
below : (p : ℕ → Bool) (n k : ℕ) → all_below p n ≡ true → k < n → p k ≡ true
below p zero k e h = absurd (omega arith)
below p (suc n) k e h = go (eqb k n) refl (λ l. below p n k two.1 l)
  where
    two : (p n ≡ true) × (all_below p n ≡ true)
    two = (and-eq-true_iff (p n) (all_below p n)).0 e

    go : (b : Bool) → eqb k n ≡ b → (k < n → p k ≡ true) → p k ≡ true
    go true q l = rw (eqb-true k n q) two.0
    go false q l = let away : k ≢ n = eqb-false k n q in l (omega arith)

-- the mask has those bits and no other
pub reserved-mask : (x : Xlen) (k : ℕ) → k < bits x → field (reserved x) k 1 ≡ cond (is_reserved x k) 1 0
reserved-mask X32 k h = eqb-true _ _ (below (λ n. eqb (field (reserved X32) n 1) (cond (is_reserved X32 n) 1 0)) 32 k refl h)
reserved-mask X64 k h = eqb-true _ _ (below (λ n. eqb (field (reserved X64) n 1) (cond (is_reserved X64 n) 1 0)) 64 k refl h)

-- a word 2 that is not zero makes an entry unreadable
pub word2-set : (x : Xlen) (config word2 : ℕ) → word2 ≢ 0 → readable x config word2 ≡ false
word2-set x config word2 h = rw (ne_eqb word2 0 h, and-false)

-- a Type above 7 makes an entry unreadable
pub type-above : (x : Xlen) (config word2 : ℕ) → 7 < type_of x config → readable x config word2 ≡ false
type-above x config word2 h = rw (lt-leb (type_of x config) 7 h, and-false)

-- an unreadable entry names exactly the used slots
pub everything-names : (word0 word1 word2 : ℕ) → names everything word0 word1 word2 ≡ used word0
everything-names word0 word1 word2 = simp and-true

-- of three that hold, the first holds
first : (a b c : Bool) → a && b && c ≡ true → a ≡ true
first true b c e = refl
first false b c e = e

-- no entry names a slot that is not used
pub names-used : (f : Fence) (word0 word1 word2 : ℕ) → names f word0 word1 word2 ≡ true → used word0 ≡ true
names-used f word0 word1 word2 e = first (used word0) (aimed_at f.target word0) (covers f.pages word1 word2) e
