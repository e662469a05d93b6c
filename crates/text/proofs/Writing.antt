-- Text written piece by piece is the pieces joined.
use mathlib.Core.Path.{◌≡◌, refl, ap, ◌∙◌, subst}
use mathlib.Core.List.{List, [], ◌∷◌, ◌++◌}
use Prim.Native.Nat.{ℕ, ◌+◌, ◌≤◌, ◌<◌}
use native.Mathlib.Nat.{add-zero}
use native.Mathlib.Numerals.{add-one}
use native.Mathlib.Omega.{arith}
use lib.ListN.{length, get_or, take, set, length-append, length-set}
use lib.Seq.{take-nil, take-suc, set_out}
use Rattle.text.specs.Buffer.{over, filled, Wrote}

over-append : {A : Type 0} (s t d : List A) (at : ℕ) → over (over d at s) (at + length s) t ≡ over d at (s ++ t)
unfolding over
over-append {A} [] t d at = rw add-zero
over-append {A} (b ∷ s) t d at =
    let e : at + length (b ∷ s) ≡ at + 1 + length s = omega arith in
    rw e (over-append s t (set d at b) (at + 1))

-- nothing written
pub wrote_nothing : {A : Type 0} (d : List A) (at : ℕ) → Wrote d at [] d at
unfolding over
wrote_nothing d at = record { bytes = refl; place = omega arith }

infixl 60 ◌then◌
-- one text, and another after it
pub ◌then◌ : {A : Type 0} {d s e t f : List A} {at m n : ℕ} → Wrote d at s e m → Wrote e m t f n → Wrote d at (s ++ t) f n
◌then◌ {A} {d} {s} {e} {t} {f} {at} {m} {n} v w =
    record {
      bytes = w.bytes ∙ rw (v.bytes, v.place) (over-append s t d at);
      place = simp length-append (omega (arith, v.place, w.place));
    }

-- a write leaves the buffer as long as it was
pub length_over : {A : Type 0} (s d : List A) (at : ℕ) → length (over d at s) ≡ length d
unfolding over
length_over [] d at = refl
length_over (b ∷ s) d at = length_over s (set d at b) (at + 1) ∙ length-set d at b

over-empty : {A : Type 0} (s : List A) (at : ℕ) → over [] at s ≡ []
unfolding over
over-empty [] at = refl
over-empty (b ∷ s) at = over-empty s (at + 1)

over-behind : {A : Type 0} (s d : List A) (x : A) (at : ℕ) → over (x ∷ d) (at + 1) s ≡ x ∷ over d at s
unfolding over
over-behind [] d x at = refl
over-behind {A} (b ∷ s) d x at =
    let e : set (x ∷ d) (at + 1) b ≡ x ∷ set d at b = rw add-one in
    rw e (over-behind s (set d at b) x (at + 1))

-- a text written from the start on
pub over-start : {A : Type 0} (s d : List A) → over d 0 s ≡ filled d s
unfolding over
over-start [] d = rw take-nil
over-start (b ∷ s) [] = over-empty s 1
over-start {A} (b ∷ s) (x ∷ d) = over-behind s d b 0 ∙ ap (λ (l : List A). b ∷ l) (over-start s d)

-- one item, with room for it or without
pub wrote-one : {A : Type 0} (d : List A) (at : ℕ) (b : A) → Wrote d at (b ∷ []) (set d at b) (at + 1)
unfolding over
wrote-one d at b = record { bytes = refl; place = refl }

pub left_out : {A : Type 0} (d : List A) (at : ℕ) (b : A) → length d ≤ at → Wrote d at (b ∷ []) d (at + 1)
left_out {A} d at b h = subst (λ (e : List A). Wrote d at (b ∷ []) e (at + 1)) (set_out d at b h) (wrote-one d at b)

pub wrote-length : {A : Type 0} {d s e : List A} {at n : ℕ} → Wrote d at s e n → length e ≡ length d
wrote-length {A} {d} {s} {e} {at} w = ap length w.bytes ∙ length_over s d at

-- the first bytes of a text, and the next one
pub one_more : {d e f : List ℕ} {at m n : ℕ} (s : List ℕ) (i : ℕ) → i < length s → Wrote d at (take i s) e m → Wrote e m (get_or s i 0 ∷ []) f n
    → Wrote d at (take (i + 1) s) f n
one_more s i h v w = rw (add-one, take-suc s i 0) (v then w)
