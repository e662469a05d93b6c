-- Laws of the dirty bits: clearing or setting one changes that bit alone, and words of the page and dirty bits are apart.
-- Each law is proved once, for an operation f that puts a bit at b, and cited at clear_bit and at set_bit.
use mathlib.Core.Path.{◌≡◌, refl, sym, ap, ◌∙◌}
use mathlib.Core.Logic.{◌≢◌, ◌⊎◌, inl, inr, ⊎_elim}
use mathlib.Core.Bool.{true, false}
use mathlib.Core.List.{List, [], ◌∷◌}
use Prim.Native.Nat.{ℕ, zero, suc, ◌+◌, ◌%◌, ◌^◌, ◌≤◌, ◌<◌}
use native.Mathlib.Nat.{zero-div}
use native.Mathlib.Omega.{arith}
use native.Mathlib.Decide.{ℕ_discrete}
use borrow.Author.Tests.{eqb-true, eqb-false}
use lib.Dec.{eqb}
use lib.ListN.{length, get_or, set, length-set}
use lib.Seq.{get_or-set_same, get_or-set_other, set-get_or, set_comm}
use Rattle.layout.specs.Bits.{bit_of, clear_bit, set_bit}
use Rattle.layout.specs.Geometry.{dirty_at}
use Rattle.layout.specs.Words.{word_at, put_word}
use Rattle.layout.specs.Dirty.{dirty_byte, dirty, clear_dirty, set_dirty}
use Rattle.layout.proofs.BitLaws.{BitOp, clear-op, set-op, op_self, op-twice, op_comm}
use Rattle.layout.proofs.WordLaws.{Bytes, bytes-set, byte-put-other, word-set-other, set-put-comm}

-- w bytes at offset o are apart from the dirty bitmap
abbrev pub OffBitmap : ℕ → ℕ → Type 0
OffBitmap w o = (o + w ≤ 0xF80) ⊎ (0x1000 ≤ o)

-- the bit of index i changed by f
abbrev mark : (ℕ → ℕ → ℕ) → List ℕ → ℕ → List ℕ
mark f p i = set p (dirty_at i) (f (dirty_byte p i) (i % 8))

-- ---- one byte of a list changed

-- changed twice
change-twice : (f g : ℕ → ℕ) (p : List ℕ) (a : ℕ)
    → set (set p a (f (get_or p a 0))) a (g (get_or (set p a (f (get_or p a 0))) a 0)) ≡ set p a (g (f (get_or p a 0)))
change-twice f g [] a = refl
change-twice f g (x ∷ xs) zero = refl
change-twice f g (x ∷ xs) (suc a) = ap (λ (l : List ℕ). x ∷ l) (change-twice f g xs a)

-- what a change keeps of a byte is kept
change-kept : (f g : ℕ → ℕ) → ((x : ℕ) → g (f x) ≡ g x) → (p : List ℕ) (a : ℕ) → g (get_or (set p a (f (get_or p a 0))) a 0) ≡ g (get_or p a 0)
change-kept f g h [] a = refl
change-kept f g h (x ∷ xs) zero = h x
change-kept f g h (x ∷ xs) (suc a) = change-kept f g h xs a

-- what holds of 0 and of every changed byte holds after the change
change-all : (P : ℕ → Type 0) (f : ℕ → ℕ) → P 0 → ((x : ℕ) → P (f x)) → (p : List ℕ) (a : ℕ) → P (get_or (set p a (f (get_or p a 0))) a 0)
change-all P f z h [] a = z
change-all P f z h (x ∷ xs) zero = h x
change-all P f z h (x ∷ xs) (suc a) = change-all P f z h xs a

-- ---- any operation on a bit

-- index i's byte lies before or after such bytes
beside : (w o i : ℕ) → i < 1024 → OffBitmap w o → (dirty_at i < o) ⊎ (o + w ≤ dirty_at i)
beside w o i hi h = ⊎_elim (λ l. inr (omega arith)) (λ l. inl (omega arith)) h

-- a store apart from the bitmap leaves every dirty bit
pub dirty-put : (w : ℕ) (p : List ℕ) (o v i : ℕ) → i < 1024 → OffBitmap w o → dirty (put_word w p o v) i ≡ dirty p i
dirty-put w p o v i hi h = ap (λ (x : ℕ). eqb (bit_of x (i % 8)) 1) (byte-put-other w p o v (dirty_at i) (beside w o i hi h))

-- an operation leaves every other byte,
byte-mark-other : (f : ℕ → ℕ → ℕ) (p : List ℕ) (i j : ℕ) → j ≢ dirty_at i → get_or (mark f p i) j 0 ≡ get_or p j 0
byte-mark-other f p i j n = get_or-set_other p (dirty_at i) j (f (dirty_byte p i) (i % 8)) 0 n

-- every word apart from the bitmap,
word-mark : (f : ℕ → ℕ → ℕ) (w : ℕ) (p : List ℕ) (i o : ℕ) → i < 1024 → OffBitmap w o → word_at w (mark f p i) o ≡ word_at w p o
word-mark f w p i o hi h = word-set-other w p (dirty_at i) (f (dirty_byte p i) (i % 8)) o (beside w o i hi h)

-- and goes before or after a store there
put-mark : (f : ℕ → ℕ → ℕ) (w : ℕ) (p : List ℕ) (o v i : ℕ) → i < 1024 → OffBitmap w o
    → put_word w (mark f p i) o v ≡ mark f (put_word w p o v) i
put-mark f w p o v i hi h =
    sym (set-put-comm w p o v (dirty_at i) (f (dirty_byte p i) (i % 8)) (beside w o i hi h))
    ∙ ap (λ (x : ℕ). set (put_word w p o v) (dirty_at i) (f x (i % 8))) (sym (byte-put-other w p o v (dirty_at i) (beside w o i hi h)))

module _ (b : ℕ) (f : ℕ → ℕ → ℕ) (op : BitOp b f) where
  -- bytes stay bytes
  bytes-mark : (p : List ℕ) (i : ℕ) → Bytes p → Bytes (mark f p i)
  bytes-mark p i h =
      bytes-set p (dirty_at i) (f (dirty_byte p i) (i % 8)) h (op.bound 8 (dirty_byte p i) (i % 8) (omega arith) (h (dirty_at i)))

  -- the other indexes' bits stay
  dirty-mark-other : (p : List ℕ) (i j : ℕ) → i ≢ j → dirty (mark f p i) j ≡ dirty p j
  dirty-mark-other p i j n = ap (λ (x : ℕ). eqb x 1) (at (ℕ_discrete (dirty_at j) (dirty_at i)))
    where
      at : Dec (dirty_at j ≡ dirty_at i) → bit_of (dirty_byte (mark f p i) j) (j % 8) ≡ bit_of (dirty_byte p j) (j % 8)
      at (yes s) =
          rw s (change-kept (λ x. f x (i % 8)) (λ x. bit_of x (j % 8)) (λ x. op.other x (i % 8) (j % 8) (omega arith)) p (dirty_at i))
      at (no t) = ap (λ (x : ℕ). bit_of x (j % 8)) (byte-mark-other f p i (dirty_at j) t)

  -- a bit that is b already
  mark-self : (p : List ℕ) (i : ℕ) → bit_of (dirty_byte p i) (i % 8) ≡ b → mark f p i ≡ p
  mark-self p i e = ap (set p (dirty_at i)) (op_self b f op (dirty_byte p i) (i % 8) e) ∙ set-get_or p (dirty_at i) 0

  -- of two operations on one bit the second stays
  mark-twice : (c : ℕ) (g : ℕ → ℕ → ℕ) → BitOp c g → (p : List ℕ) (i : ℕ) → mark g (mark f p i) i ≡ mark g p i
  mark-twice c g og p i =
      change-twice (λ x. f x (i % 8)) (λ x. g x (i % 8)) p (dirty_at i)
      ∙ ap (set p (dirty_at i)) (op-twice b c f g op og (dirty_byte p i) (i % 8))

  -- operations on two bits, in either order
  mark-comm : (c : ℕ) (g : ℕ → ℕ → ℕ) → BitOp c g → (p : List ℕ) (i j : ℕ) → i ≢ j → mark g (mark f p i) j ≡ mark f (mark g p j) i
  mark-comm c g og p i j n = at (ℕ_discrete (dirty_at j) (dirty_at i))
    where
      at : Dec (dirty_at j ≡ dirty_at i) → mark g (mark f p i) j ≡ mark f (mark g p j) i
      at (yes s) =
          rw s
          (change-twice (λ x. f x (i % 8)) (λ x. g x (j % 8)) p (dirty_at i)
          ∙ ap (set p (dirty_at i)) (op_comm b c f g op og (dirty_byte p i) (i % 8) (j % 8) (omega arith))
          ∙ sym (change-twice (λ x. g x (j % 8)) (λ x. f x (i % 8)) p (dirty_at i)))
      at (no t) =
          ap (λ (x : ℕ). set (mark f p i) (dirty_at j) (g x (j % 8))) (byte-mark-other f p i (dirty_at j) t)
          ∙ set_comm p (dirty_at i) (dirty_at j) (f (dirty_byte p i) (i % 8)) (g (dirty_byte p j) (j % 8)) (λ e. t (sym e))
          ∙ ap (λ (x : ℕ). set (mark g p j) (dirty_at i) (f x (i % 8))) (sym (byte-mark-other g p j (dirty_at i) (λ e. t (sym e))))

-- ---- clearing

-- clearing keeps the length,
pub length-clear : (p : List ℕ) (i : ℕ) → length (clear_dirty p i) ≡ length p
length-clear p i = simp length-set

-- every byte but one,
pub byte-clear-other : (p : List ℕ) (i j : ℕ) → j ≢ dirty_at i → get_or (clear_dirty p i) j 0 ≡ get_or p j 0
byte-clear-other = byte-mark-other clear_bit

-- and bytes
pub bytes-clear : (p : List ℕ) (i : ℕ) → Bytes p → Bytes (clear_dirty p i)
bytes-clear = bytes-mark 0 clear_bit clear-op

-- a cleared bit is clear
pub dirty-clear-same : (p : List ℕ) (i : ℕ) → dirty (clear_dirty p i) i ≡ false
dirty-clear-same p i =
    ap (λ (x : ℕ). eqb x 1)
    (change-all (λ x. bit_of x (i % 8) ≡ 0) (λ x. clear_bit x (i % 8)) (ap (λ (x : ℕ). x % 2) (zero-div (2 ^ (i % 8))))
    (λ x. clear-op.same x (i % 8)) p (dirty_at i))

-- the others stay
pub dirty-clear-other : (p : List ℕ) (i j : ℕ) → i ≢ j → dirty (clear_dirty p i) j ≡ dirty p j
dirty-clear-other = dirty-mark-other 0 clear_bit clear-op

-- clearing a clear bit changes nothing
pub clear-clean : (p : List ℕ) (i : ℕ) → dirty p i ≡ false → clear_dirty p i ≡ p
clear-clean p i e =
    mark-self 0 clear_bit clear-op p i
    (let n : bit_of (dirty_byte p i) (i % 8) ≢ 1 = eqb-false (bit_of (dirty_byte p i) (i % 8)) 1 e in omega arith)

-- clearing twice is clearing once
pub clear-twice : (p : List ℕ) (i : ℕ) → clear_dirty (clear_dirty p i) i ≡ clear_dirty p i
clear-twice = mark-twice 0 clear_bit clear-op 0 clear_bit clear-op

-- two bits are cleared in either order
pub clear_comm : (p : List ℕ) (i j : ℕ) → clear_dirty (clear_dirty p i) j ≡ clear_dirty (clear_dirty p j) i
clear_comm p i j = at (ℕ_discrete i j)
  where
    at : Dec (i ≡ j) → clear_dirty (clear_dirty p i) j ≡ clear_dirty (clear_dirty p j) i
    at (yes e) = rw e
    at (no n) = mark-comm 0 clear_bit clear-op 0 clear_bit clear-op p i j n

-- words apart from the bitmap stay
pub word-clear : (w : ℕ) (p : List ℕ) (i o : ℕ) → i < 1024 → OffBitmap w o → word_at w (clear_dirty p i) o ≡ word_at w p o
word-clear = word-mark clear_bit

-- and are stored before or after
pub put-clear : (w : ℕ) (p : List ℕ) (o v i : ℕ) → i < 1024 → OffBitmap w o
    → put_word w (clear_dirty p i) o v ≡ clear_dirty (put_word w p o v) i
put-clear = put-mark clear_bit

-- ---- setting

-- setting keeps the length,
pub length-set-dirty : (p : List ℕ) (i : ℕ) → length (set_dirty p i) ≡ length p
length-set-dirty p i = simp length-set

-- every byte but one,
pub byte-set-dirty-other : (p : List ℕ) (i j : ℕ) → j ≢ dirty_at i → get_or (set_dirty p i) j 0 ≡ get_or p j 0
byte-set-dirty-other = byte-mark-other set_bit

-- and bytes
pub bytes-set-dirty : (p : List ℕ) (i : ℕ) → Bytes p → Bytes (set_dirty p i)
bytes-set-dirty = bytes-mark 1 set_bit set-op

-- a set bit is set
pub dirty-set-same : (p : List ℕ) (i : ℕ) → i < 1024 → 0x1000 ≤ length p → dirty (set_dirty p i) i ≡ true
dirty-set-same p i hi hp =
    ap (λ (x : ℕ). eqb (bit_of x (i % 8)) 1) (get_or-set_same p (dirty_at i) (set_bit (dirty_byte p i) (i % 8)) 0 (omega arith))
    ∙ ap (λ (x : ℕ). eqb x 1) (set-op.same (dirty_byte p i) (i % 8))

-- the others stay
pub dirty-set-other : (p : List ℕ) (i j : ℕ) → i ≢ j → dirty (set_dirty p i) j ≡ dirty p j
dirty-set-other = dirty-mark-other 1 set_bit set-op

-- setting a set bit changes nothing
pub set-marked : (p : List ℕ) (i : ℕ) → dirty p i ≡ true → set_dirty p i ≡ p
set-marked p i e = mark-self 1 set_bit set-op p i (eqb-true (bit_of (dirty_byte p i) (i % 8)) 1 e)

-- clearing a bit that was just set
pub clear-set : (p : List ℕ) (i : ℕ) → clear_dirty (set_dirty p i) i ≡ clear_dirty p i
clear-set = mark-twice 1 set_bit set-op 0 clear_bit clear-op

-- one bit is set and another cleared in either order
pub clear-set-comm : (p : List ℕ) (i j : ℕ) → i ≢ j → clear_dirty (set_dirty p i) j ≡ set_dirty (clear_dirty p j) i
clear-set-comm = mark-comm 1 set_bit set-op 0 clear_bit clear-op

-- words apart from the bitmap stay
pub word-set-dirty : (w : ℕ) (p : List ℕ) (i o : ℕ) → i < 1024 → OffBitmap w o → word_at w (set_dirty p i) o ≡ word_at w p o
word-set-dirty = word-mark set_bit

-- and are stored before or after
pub put-set-dirty : (w : ℕ) (p : List ℕ) (o v i : ℕ) → i < 1024 → OffBitmap w o
    → put_word w (set_dirty p i) o v ≡ set_dirty (put_word w p o v) i
put-set-dirty = put-mark set_bit
