-- Laws of the parts of a word: digits, masks, `take_bits`, fields, and a field added into an empty place.
use mathlib.Core.Path.{◌≡◌, sym, ap, ap₂, ◌∙◌}
use Prim.Native.Nat.{ℕ, zero, suc, ◌+◌, ◌-◌, ◌*◌, ◌/◌, ◌%◌, ◌^◌, ◌≤◌, ◌<◌, min, max}
use native.Mathlib.Nat.{div-one, zero-div, zero-sub, mod-lt, mod-eq_of_lt, div-eq_of_lt, lt_of_le_of_lt, lt_of_lt_of_le, add-zero, pow-suc, add-mul-div_right, add-mul-mod_self_right}
use native.Mathlib.Omega.{arith}
use lib.Arith.{half_le, le-zero, digits_div, digits_mod}
use lib.Pow as Pow
use lib.Pow.{pow_pos, pow_mono, shr-shr, split, mod-mod-pow}
use lib.Bits.{bit_and, bit_or, and_step, or_step, and_shr, or_shr, and_mod, and_mask, and_zero_r, and_le_l, and_le_r, and_self, or_lt}
use Rattle.layout.specs.declared.xlen.Xlen.{Xlen}
use Rattle.layout.specs.declared.xlen.Xlen.TheVariants.{X32, X64}
use Rattle.layout.specs.Width.{bits}
use Rattle.layout.specs.Bits.{field}
use Rattle.hart.specs.Bits.{all_ones, take_bits}

-- ---- digits

-- the digit of x at place k
abbrev pub bit : ℕ → ℕ → ℕ
bit x k = field x k 1

-- two numbers with the same k low digits and the same rest are the same
same_parts : (k : ℕ) {a b : ℕ} → a / 2 ^ k ≡ b / 2 ^ k → a % 2 ^ k ≡ b % 2 ^ k → a ≡ b
same_parts k {a} {b} p q = sym (split a k) ∙ ap₂ (λ (x y : ℕ). x * 2 ^ k + y) p q ∙ split b k

-- two numbers with the same digits are the same
pub bit-ext : (a b : ℕ) → ((k : ℕ) → bit a k ≡ bit b k) → a ≡ b
bit-ext a b = go (a + b) a b (omega arith) (omega arith)
  where
    half : (a k : ℕ) → bit (a / 2) k ≡ bit a (1 + k)
    half a k = ap (λ (x : ℕ). x % 2) (shr-shr a 1 k)

    go : (f a b : ℕ) → a ≤ f → b ≤ f → ((k : ℕ) → bit a k ≡ bit b k) → a ≡ b
    go zero a b ha hb same = le-zero ha ∙ sym (le-zero hb)
    go (suc f) a b ha hb same =
        same_parts 1 (go f (a / 2) (b / 2) (half_le ha) (half_le hb) (λ k. half a k ∙ same (1 + k) ∙ sym (half b k))) (simp div-one at (same 0))

-- a digit of a bitwise and is the lesser of the two digits
pub bit-and : (a b k : ℕ) → bit (bit_and a b) k ≡ min (bit a k) (bit b k)
bit-and a b k = ap (λ (x : ℕ). x % 2) (and_shr a b k) ∙ omega (arith, and_step (a / 2 ^ k) (b / 2 ^ k))

-- a digit of a bitwise or is the greater of the two digits
pub bit-or : (a b k : ℕ) → bit (bit_or a b) k ≡ max (bit a k) (bit b k)
bit-or a b k = ap (λ (x : ℕ). x % 2) (or_shr a b k) ∙ omega (arith, or_step (a / 2 ^ k) (b / 2 ^ k))

-- a word has no digit from 64 on
pub high_bit : (x k : ℕ) → x < 2 ^ 64 → 64 ≤ k → bit x k ≡ 0
high_bit x k b h = ap (λ (y : ℕ). y % 2) (div-eq_of_lt (lt_of_lt_of_le b (pow_mono h)))

-- what fits the narrower word fits a word of either width
pub in-word : (x : Xlen) {n : ℕ} → n < 2 ^ 32 → n < 2 ^ bits x
in-word X32 h = h
in-word X64 h = omega arith

-- ---- masks

-- `and` is associative
pub and_assoc : (a b c : ℕ) → bit_and (bit_and a b) c ≡ bit_and a (bit_and b c)
and_assoc a b c = bit-ext _ _ (λ k. simp bit-and (omega arith))

-- `and` distributes over `or`
pub and-or : (a b c : ℕ) → bit_and (bit_or a b) c ≡ bit_or (bit_and a c) (bit_and b c)
and-or a b c = bit-ext _ _ (λ k. simp (bit-and, bit-or) (omega arith))

-- a mask a second time changes nothing
pub and-twice : (v m : ℕ) → bit_and (bit_and v m) m ≡ bit_and v m
and-twice v m = and_assoc v m m ∙ ap (bit_and v) (and_self m)

-- masked by a number of k digits, a number of k digits
pub and-lt-mask : (k v m : ℕ) → m < 2 ^ k → bit_and v m < 2 ^ k
and-lt-mask k v m h = lt_of_le_of_lt (and_le_r v m) h

-- k ones leave a number of k digits as it is
pub and-ones : (k x : ℕ) → x < 2 ^ k → bit_and x (2 ^ k - 1) ≡ x
and-ones k x h = and_mask x k ∙ mod-eq_of_lt h

-- a mask and its complement in n digits have no digit in common
pub and-not : (n m : ℕ) → bit_and m (2 ^ n - 1 - m) ≡ 0
and-not zero m = ap (bit_and m) (zero-sub m) ∙ and_zero_r m
and-not (suc n) m =
    let e : 2 ^ suc n ≡ 2 ^ n * 2 = pow-suc 2 n in
    let half : (2 ^ suc n - 1 - m) / 2 ≡ 2 ^ n - 1 - m / 2 = omega (arith, pow_pos n) in
    and_step m (2 ^ suc n - 1 - m) ∙ omega (arith, pow_pos n, ap (bit_and (m / 2)) half ∙ and-not n (m / 2))

-- ---- take_bits

-- no digit is both in the mask and in its complement
outside : (m k : ℕ) → min (bit m k) (bit (all_ones X64 - m) k) ≡ 0
outside m k = sym (bit-and m (all_ones X64 - m) k) ∙ ap (λ (x : ℕ). bit x k) (and-not 64 m) ∙ ap (λ (x : ℕ). x % 2) (zero-div (2 ^ k))

-- the same bits taken a second time change nothing
pub take_twice : (m v old : ℕ) → take_bits m v (take_bits m v old) ≡ take_bits m v old
take_twice m v old = bit-ext _ _ (λ k. simp (bit-and, bit-or) (omega (arith, outside m k)))

-- what is taken fits where old and the mask do
pub take-lt : (k m v old : ℕ) → old < 2 ^ k → m < 2 ^ k → take_bits m v old < 2 ^ k
take-lt k m v old h h' = or_lt k _ _ (lt_of_le_of_lt (and_le_l old (all_ones X64 - m)) h) (and-lt-mask k v m h')

-- where old and the mask lie within k, so does what is taken
pub take_within : (m v old k : ℕ) → bit_and old k ≡ old → bit_and m k ≡ m → bit_and (take_bits m v old) k ≡ take_bits m v old
take_within m v old k ho hm =
    bit-ext _ _ (λ j. simp (bit-and, bit-or) (omega (arith, simp bit-and at (ap (λ (x : ℕ). bit x j) ho), simp bit-and at (ap (λ (x : ℕ). bit x j) hm))))

-- the bits of the mask come from v
pub take_in : (m v old : ℕ) → bit_and (take_bits m v old) m ≡ bit_and v m
take_in m v old = bit-ext _ _ (λ k. simp (bit-and, bit-or) (omega (arith, outside m k)))

-- the other bits come from old
pub take_out : (m v old : ℕ) → bit_and (take_bits m v old) (all_ones X64 - m) ≡ bit_and old (all_ones X64 - m)
take_out m v old = bit-ext _ _ (λ k. simp (bit-and, bit-or) (omega (arith, outside m k)))

-- ---- fields

-- a field of n bits is below 2 ^ n
pub field_lt : (x lo n : ℕ) → field x lo n < 2 ^ n
field_lt x lo n = mod-lt (x / 2 ^ lo) (pow_pos n)

-- a field of a bitwise and is the and of the fields
pub field-and : (a b lo n : ℕ) → field (bit_and a b) lo n ≡ bit_and (field a lo n) (field b lo n)
field-and a b lo n = ap (λ (x : ℕ). x % 2 ^ n) (and_shr a b lo) ∙ and_mod (a / 2 ^ lo) (b / 2 ^ lo) n

-- a field outside a mask is empty
pub field-masked : (v m lo n : ℕ) → field m lo n ≡ 0 → field (bit_and v m) lo n ≡ 0
field-masked v m lo n e = field-and v m lo n ∙ ap (bit_and (field v lo n)) e ∙ and_zero_r (field v lo n)

-- a field inside a mask is kept
pub field-kept : (v m lo n : ℕ) → field m lo n ≡ 2 ^ n - 1 → field (bit_and v m) lo n ≡ field v lo n
field-kept v m lo n e = field-and v m lo n ∙ ap (bit_and (field v lo n)) e ∙ and-ones n (field v lo n) (field_lt v lo n)

-- a field below bit s is one of the s low digits
field-low : (x s k j : ℕ) → k + j ≤ s → field x k j ≡ field (x % 2 ^ s) k j
field-low x s k j h =
    let d : ℕ = s - (j + k) in
    sym (Pow.field x j k)
    ∙ ap (λ (y : ℕ). y / 2 ^ k) (sym (mod-mod-pow x d (j + k)))
    ∙ Pow.field (x % 2 ^ (d + (j + k))) j k
    ∙ ap (λ (y : ℕ). field (x % 2 ^ y) k j) (omega arith)

-- a field from bit s up is one of the rest
field-high : (x s k j : ℕ) → s ≤ k → field x k j ≡ field (x / 2 ^ s) (k - s) j
field-high x s k j h = ap (λ (y : ℕ). field x y j) (omega arith) ∙ ap (λ (y : ℕ). y % 2 ^ j) (sym (shr-shr x s (k - s)))

-- f added into the n bits of a from bit lo up, which are empty
module _ (a lo n f : ℕ) (empty : field a lo n ≡ 0) (fits : f < 2 ^ n) where
  -- the digits from lo up
  high-put : (a + f * 2 ^ lo) / 2 ^ lo ≡ a / 2 ^ lo / 2 ^ n * 2 ^ n + f
  high-put =
      add-mul-div_right a f (pow_pos lo)
      ∙ ap (λ (x : ℕ). x + f) (sym (split (a / 2 ^ lo) n) ∙ ap (λ (x : ℕ). a / 2 ^ lo / 2 ^ n * 2 ^ n + x) empty ∙ add-zero (a / 2 ^ lo / 2 ^ n * 2 ^ n))

  -- the digits below lo
  low-put : (a + f * 2 ^ lo) % 2 ^ lo ≡ a % 2 ^ lo
  low-put = add-mul-mod_self_right a f (2 ^ lo)

  -- the digits above the place
  above-put : (a + f * 2 ^ lo) / 2 ^ (lo + n) ≡ a / 2 ^ (lo + n)
  above-put =
      sym (shr-shr (a + f * 2 ^ lo) lo n) ∙ ap (λ (x : ℕ). x / 2 ^ n) high-put ∙ digits_div (a / 2 ^ lo / 2 ^ n) fits ∙ shr-shr a lo n

  -- the place holds f
  pub put-field : field (a + f * 2 ^ lo) lo n ≡ f
  put-field = ap (λ (x : ℕ). x % 2 ^ n) high-put ∙ digits_mod (a / 2 ^ lo / 2 ^ n) fits

  -- a field below stays
  pub put-below : (k j : ℕ) → k + j ≤ lo → field (a + f * 2 ^ lo) k j ≡ field a k j
  put-below k j h = field-low (a + f * 2 ^ lo) lo k j h ∙ ap (λ (x : ℕ). field x k j) low-put ∙ sym (field-low a lo k j h)

  -- a field above stays
  pub put-above : (k j : ℕ) → lo + n ≤ k → field (a + f * 2 ^ lo) k j ≡ field a k j
  put-above k j h =
      field-high (a + f * 2 ^ lo) (lo + n) k j h ∙ ap (λ (x : ℕ). field x (k - (lo + n)) j) above-put ∙ sym (field-high a (lo + n) k j h)

  -- a mask that leaves the place out does not see it
  pub put-and : (m : ℕ) → field m lo n ≡ 0 → bit_and (a + f * 2 ^ lo) m ≡ bit_and a m
  put-and m e =
      same_parts lo
      (same_parts n
      (above (a + f * 2 ^ lo) ∙ ap (λ (x : ℕ). bit_and x (m / 2 ^ (lo + n))) above-put ∙ sym (above a))
      (field-masked (a + f * 2 ^ lo) m lo n e ∙ sym (field-masked a m lo n e)))
      (and_mod (a + f * 2 ^ lo) m lo ∙ ap (λ (x : ℕ). bit_and x (m % 2 ^ lo)) low-put ∙ sym (and_mod a m lo))
    where
      above : (x : ℕ) → bit_and x m / 2 ^ lo / 2 ^ n ≡ bit_and (x / 2 ^ (lo + n)) (m / 2 ^ (lo + n))
      above x = shr-shr (bit_and x m) lo n ∙ and_shr x m (lo + n)
