-- Stores one after the other: they keep the page's length, and one changes no bit but its own. Which values fit a word.
use mathlib.Core.Path.{◌≡◌, refl, ap, ◌∙◌}
use mathlib.Core.Bool.{true, and-eq-true_iff}
use mathlib.Core.List.{List, [], ◌∷◌, ◌++◌}
use mathlib.Core.Logic.{◌≢◌}
use Prim.Native.Nat.{ℕ, zero, suc, ◌%◌, ◌^◌, ◌<◌}
use native.Mathlib.Decide.{ℕ_discrete, dec_lt}
use native.Mathlib.Omega.{arith}
use lib.ListN.{length, get_or}
use lib.Seq.{get_or-set_same, set_out}
use borrow.Author.Tests.{ltb-true}
use Rattle.layout.specs.declared.xlen.Xlen.{Xlen}
use Rattle.layout.specs.declared.xlen.Xlen.TheVariants.{X32, X64}
use Rattle.layout.specs.Width.{bytes}
use Rattle.layout.specs.Bits.{bit_of, set_bit}
use Rattle.layout.specs.Geometry.{dirty_at}
use Rattle.layout.specs.Dirty.{dirty_byte, set_dirty}
use Rattle.layout.proofs.BitLaws.{bit-set-other}
use Rattle.layout.proofs.WordLaws.{length-put}
use Rattle.layout.proofs.DirtyLaws.{length-set-dirty, byte-set-dirty-other}
use Rattle.hart.specs.WellMade.{fits_word, each_fits}
use Rattle.hypervisor.specs.Requests.{Store, Word, Mark, stored, stored_all}

-- one store keeps the length
length-stored : (x : Xlen) (s : Store) (p : List ℕ) → length (stored x s p) ≡ length p
length-stored x (Word o v) p = length-put (bytes x) p o v
length-stored x (Mark i) p = length-set-dirty p i

-- so do all
pub length-all : (x : Xlen) (ss : List Store) (p : List ℕ) → length (stored_all x ss p) ≡ length p
unfolding stored_all
length-all x [] p = refl
length-all x (s ∷ ss) p = length-all x ss (stored x s p) ∙ length-stored x s p

-- one more after them
pub stored-more : (x : Xlen) (ss : List Store) (s : Store) (p : List ℕ) → stored_all x (ss ++ s ∷ []) p ≡ stored x s (stored_all x ss p)
unfolding stored_all
stored-more x [] s p = refl
stored-more x (t ∷ ss) s p = stored-more x ss s (stored x t p)

-- a mark leaves every bit but its own
pub bit-marked : (p : List ℕ) (i j k : ℕ) → (j ≡ dirty_at i → k ≢ i % 8) → bit_of (get_or (set_dirty p i) j 0) k ≡ bit_of (get_or p j 0) k
bit-marked p i j k n = at (ℕ_discrete j (dirty_at i)) (dec_lt (dirty_at i) (length p))
  where
    v : ℕ
    v = set_bit (dirty_byte p i) (i % 8)

    at : Dec (j ≡ dirty_at i) → Dec (dirty_at i < length p) → bit_of (get_or (set_dirty p i) j 0) k ≡ bit_of (get_or p j 0) k
    at (yes q) (yes l) =
        rw q (ap (λ (b : ℕ). bit_of b k) (get_or-set_same p (dirty_at i) v 0 l) ∙ bit-set-other (dirty_byte p i) (i % 8) k (n q))
    at (yes q) (no l) = ap (λ (p : List ℕ). bit_of (get_or p j 0) k) (set_out p (dirty_at i) v (omega arith))
    at (no m) d = ap (λ (b : ℕ). bit_of b k) (byte-set-dirty-other p i j m)

-- a value of 64 bits that fits the width is a word
pub word_fits : (x : Xlen) (v : ℕ) → fits_word x v ≡ true → v < 2 ^ 64 → v < 256 ^ bytes x
word_fits X32 v t h = omega (arith, ltb-true v (2 ^ 32) t)
word_fits X64 v t h = omega arith

-- zero fits
pub zero-fits : (x : Xlen) → fits_word x 0 ≡ true
zero-fits X32 = refl
zero-fits X64 = refl

-- each of a list that fits
pub each_fits_lem : (x : Xlen) (vs : List ℕ) (k : ℕ) → each_fits x vs ≡ true → fits_word x (get_or vs k 0) ≡ true
each_fits_lem x [] k t = zero-fits x
each_fits_lem x (v ∷ vs) zero t = ((and-eq-true_iff (fits_word x v) (each_fits x vs)).0 t).0
each_fits_lem x (v ∷ vs) (suc k) t = each_fits_lem x vs k ((and-eq-true_iff (fits_word x v) (each_fits x vs)).0 t).1
