-- Laws of single bits: clearing or setting bit k changes bit k alone, and a number is known by its bits.
-- Each is proved once, for bit k put at b by `put_bit`, and holds of `clear_bit` and of `set_bit`, which are `put_bit 0` and `put_bit 1`.
use mathlib.Core.Path.{◌≡◌, refl, sym, ap, ◌∙◌}
use mathlib.Core.Logic.{◌≢◌}
use mathlib.Core.Bool.{Bool, true, false}
use Prim.Native.Nat.{ℕ, zero, suc, ◌+◌, ◌*◌, ◌/◌, ◌%◌, ◌^◌, ◌≤◌, ◌<◌}
use native.Mathlib.Nat.{le_trans, lt_of_lt_of_le, div-one, div-div-eq-div-mul, div-mul-le_self, mul-le-mul_right, mod-le, pow-suc, pow-succ', mul_assoc, zero-mul, one-mul, add-zero}
use native.Mathlib.Omega.{arith}
use native.Mathlib.Decide.{ℕ_discrete}
use borrow.Author.Tests.{eqb-true, eqb-false}
use lib.Dec.{eqb}
use lib.Pow.{pow_mono}
use Rattle.layout.specs.Bits.{bit_of, clear_bit, set_bit}

-- ---- one bit

-- a bit is 0 or 1
pub bit-lt : (x k : ℕ) → bit_of x k < 2
bit-lt x k = omega arith

-- bit 0 is the remainder by 2
pub bit-zero : (x : ℕ) → bit_of x 0 ≡ x % 2
bit-zero x = simp div-one

-- bit k + 1 of x is bit k of its half
pub bit-suc : (x k : ℕ) → bit_of x (suc k) ≡ bit_of (x / 2) k
bit-suc x k = simp (pow-succ', div-div-eq-div-mul)

-- what bit k counts is part of the number
pub bit_le : (x k : ℕ) → bit_of x k * 2 ^ k ≤ x
bit_le x k = le_trans (mul-le-mul_right (2 ^ k) (mod-le (x / 2 ^ k) 2)) (div-mul-le_self x (2 ^ k))

-- a bit by its test
pub bit_test : (x y k j : ℕ) → eqb (bit_of x k) 1 ≡ eqb (bit_of y j) 1 → bit_of x k ≡ bit_of y j
bit_test x y k j e = at (eqb (bit_of x k) 1) refl
  where
    at : (t : Bool) → eqb (bit_of x k) 1 ≡ t → bit_of x k ≡ bit_of y j
    at true s = eqb-true (bit_of x k) 1 s ∙ sym (eqb-true (bit_of y j) 1 (sym e ∙ s))
    at false s =
        let nx : bit_of x k ≢ 1 = eqb-false (bit_of x k) 1 s in
        let ny : bit_of y j ≢ 1 = eqb-false (bit_of y j) 1 (sym e ∙ s) in
        omega arith

-- ---- a number is known by its bits

-- a number of n bits by these
pub bits-ext : (n x y : ℕ) → x < 2 ^ n → y < 2 ^ n → ((k : ℕ) → k < n → bit_of x k ≡ bit_of y k) → x ≡ y
bits-ext zero x y hx hy h = omega arith
bits-ext (suc n) x y hx hy h =
    let low : x % 2 ≡ y % 2 = sym (bit-zero x) ∙ h 0 (omega arith) ∙ bit-zero y in
    let rest : x / 2 ≡ y / 2 =
    bits-ext n (x / 2) (y / 2) (omega arith) (omega arith) (λ k l. sym (bit-suc x k) ∙ h (suc k) (omega arith) ∙ bit-suc y k) in
    omega (arith, low, rest)

-- a byte by its eight
pub byte-ext : (x y : ℕ) → x < 256 → y < 256 → ((k : ℕ) → k < 8 → bit_of x k ≡ bit_of y k) → x ≡ y
byte-ext = bits-ext 8

-- n has at most n bits
below-pow : (n : ℕ) → n < 2 ^ n
below-pow zero = omega arith
below-pow (suc n) = omega (arith, below-pow n)

-- any number by all of them
pub all-bits-ext : (x y : ℕ) → ((k : ℕ) → bit_of x k ≡ bit_of y k) → x ≡ y
all-bits-ext x y h =
    bits-ext (x + y) x y (lt_of_lt_of_le (below-pow x) (pow_mono (omega arith))) (lt_of_lt_of_le (below-pow y) (pow_mono (omega arith)))
    (λ k l. h k)

-- ---- bit k put at b, by halves

-- x with bit k put at b
abbrev put_bit : ℕ → ℕ → ℕ → ℕ
put_bit b x k = clear_bit x k + b * 2 ^ k

-- to clear a bit is to put it at 0
clear-is-put : (x k : ℕ) → clear_bit x k ≡ put_bit 0 x k
clear-is-put x k = simp (zero-mul, add-zero)

-- to set it is to put it at 1
set-is-put : (x k : ℕ) → set_bit x k ≡ put_bit 1 x k
set-is-put x k = simp one-mul

-- a shift by one more
double : (b k : ℕ) → b * 2 ^ suc k ≡ b * 2 ^ k * 2
double b k = rw pow-suc (sym (mul_assoc b (2 ^ k) 2))

-- the half of a number that is put together from a half and a lowest bit,
half : (a r : ℕ) → r < 2 → (a * 2 + r) / 2 ≡ a
half a r h = omega arith

-- and its lowest bit
lowest : (a r : ℕ) → r < 2 → (a * 2 + r) % 2 ≡ r
lowest a r h = omega arith

-- bit 0 put at b is the lowest bit
put-zero : (b x : ℕ) → put_bit b x 0 ≡ x / 2 * 2 + b
put-zero b x = omega (arith, bit-zero x)

-- bit k + 1 is bit k of the half
put-suc : (b x k : ℕ) → put_bit b x (suc k) ≡ put_bit b (x / 2) k * 2 + x % 2
put-suc b x k =
    let bits : bit_of x (suc k) * 2 ^ suc k ≡ bit_of (x / 2) k * 2 ^ k * 2 = rw bit-suc (double (bit_of (x / 2) k) k) in
    omega (arith, bits, double b k, bit_le (x / 2) k)

-- and that half is all that changes
put-suc-half : (b x k : ℕ) → put_bit b x (suc k) / 2 ≡ put_bit b (x / 2) k
put-suc-half b x k = rw put-suc (half (put_bit b (x / 2) k) (x % 2) (omega arith))

-- bit k is b
bit-put-same : (b x k : ℕ) → b < 2 → bit_of (put_bit b x k) k ≡ b
bit-put-same b x zero h = bit-zero (put_bit b x 0) ∙ rw put-zero (lowest (x / 2) b h)
bit-put-same b x (suc k) h = bit-suc (put_bit b x (suc k)) k ∙ ap (λ (y : ℕ). bit_of y k) (put-suc-half b x k) ∙ bit-put-same b (x / 2) k h

-- the other bits stay
bit-put-other : (b x k j : ℕ) → b < 2 → j ≢ k → bit_of (put_bit b x k) j ≡ bit_of x j
bit-put-other b x zero zero h n = absurd (n refl)
bit-put-other b x zero (suc j) h n =
    let halves : put_bit b x 0 / 2 ≡ x / 2 = rw put-zero (half (x / 2) b h) in
    bit-suc (put_bit b x 0) j ∙ ap (λ (y : ℕ). bit_of y j) halves ∙ sym (bit-suc x j)
bit-put-other b x (suc k) zero h n =
    bit-zero (put_bit b x (suc k)) ∙ rw put-suc (lowest (put_bit b (x / 2) k) (x % 2) (omega arith)) ∙ sym (bit-zero x)
bit-put-other b x (suc k) (suc j) h n =
    bit-suc (put_bit b x (suc k)) j ∙ ap (λ (y : ℕ). bit_of y j) (put-suc-half b x k)
    ∙ bit-put-other b (x / 2) k j h (λ e. n (ap suc e)) ∙ sym (bit-suc x j)

-- a number of n bits keeps to n bits
put-bit-lt : (b n x k : ℕ) → b < 2 → k < n → x < 2 ^ n → put_bit b x k < 2 ^ n
put-bit-lt b zero x k hb hk hx = absurd (omega arith)
put-bit-lt b (suc n) x zero hb hk hx = rw put-zero (omega arith)
put-bit-lt b (suc n) x (suc k) hb hk hx = rw put-suc (omega (arith, put-bit-lt b n (x / 2) k hb (omega arith) (omega arith)))

-- ---- an operation that puts a bit at b

-- f x k is x with bit k at b
pub record BitOp (b : ℕ) (f : ℕ → ℕ → ℕ) : Type 0 where
  pub same : (x k : ℕ) → bit_of (f x k) k ≡ b
  pub other : (x k j : ℕ) → j ≢ k → bit_of (f x k) j ≡ bit_of x j
  pub bound : (n x k : ℕ) → k < n → x < 2 ^ n → f x k < 2 ^ n

-- an operation that is `put_bit b` is one
put-op : (b : ℕ) (f : ℕ → ℕ → ℕ) → b < 2 → ((x k : ℕ) → f x k ≡ put_bit b x k) → BitOp b f
put-op b f h e =
    record {
      same = λ x k. rw (e x k) (bit-put-same b x k h);
      other = λ x k j n. rw (e x k) (bit-put-other b x k j h n);
      bound = λ n x k hk hx. rw (e x k) (put-bit-lt b n x k h hk hx);
    }

-- clearing is one
pub clear-op : BitOp 0 clear_bit
clear-op = put-op 0 clear_bit (omega arith) clear-is-put

-- setting is one
pub set-op : BitOp 1 set_bit
set-op = put-op 1 set_bit (omega arith) set-is-put

-- a cleared bit is 0
pub bit-clear-same : (x k : ℕ) → bit_of (clear_bit x k) k ≡ 0
bit-clear-same = clear-op.same

-- the others stay
pub bit-clear-other : (x k j : ℕ) → j ≢ k → bit_of (clear_bit x k) j ≡ bit_of x j
bit-clear-other = clear-op.other

-- a set bit is 1
pub bit-set-same : (x k : ℕ) → bit_of (set_bit x k) k ≡ 1
bit-set-same = set-op.same

-- the others stay
pub bit-set-other : (x k j : ℕ) → j ≢ k → bit_of (set_bit x k) j ≡ bit_of x j
bit-set-other = set-op.other

-- a bit that is b already
pub op_self : (b : ℕ) (f : ℕ → ℕ → ℕ) → BitOp b f → (x k : ℕ) → bit_of x k ≡ b → f x k ≡ x
op_self b f op x k e = all-bits-ext (f x k) x (λ m. at m (ℕ_discrete m k))
  where
    at : (m : ℕ) → Dec (m ≡ k) → bit_of (f x k) m ≡ bit_of x m
    at m (yes s) = rw s (op.same x k ∙ sym e)
    at m (no n) = op.other x k m n

module _ (b c : ℕ) (f g : ℕ → ℕ → ℕ) (of : BitOp b f) (og : BitOp c g) where
  -- of two changes of one bit the second stays
  pub op-twice : (x k : ℕ) → g (f x k) k ≡ g x k
  op-twice x k = all-bits-ext (g (f x k) k) (g x k) (λ m. at m (ℕ_discrete m k))
    where
      at : (m : ℕ) → Dec (m ≡ k) → bit_of (g (f x k) k) m ≡ bit_of (g x k) m
      at m (yes s) = rw s (og.same (f x k) k ∙ sym (og.same x k))
      at m (no n) = og.other (f x k) k m n ∙ of.other x k m n ∙ sym (og.other x k m n)

  -- two bits, in either order
  pub op_comm : (x k j : ℕ) → k ≢ j → g (f x k) j ≡ f (g x j) k
  op_comm x k j n = all-bits-ext (g (f x k) j) (f (g x j) k) (λ m. at m (ℕ_discrete m k) (ℕ_discrete m j))
    where
      at : (m : ℕ) → Dec (m ≡ k) → Dec (m ≡ j) → bit_of (g (f x k) j) m ≡ bit_of (f (g x j) k) m
      at m (yes s) (yes t) = absurd (n (sym s ∙ t))
      at m (yes s) (no t) = og.other (f x k) j m t ∙ rw s (of.same x k ∙ sym (of.same (g x j) k))
      at m (no s) (yes t) = rw t (og.same (f x k) j ∙ sym (og.same x j)) ∙ sym (of.other (g x j) k m s)
      at m (no s) (no t) = og.other (f x k) j m t ∙ of.other x k m s ∙ sym (og.other x j m t) ∙ sym (of.other (g x j) k m s)
