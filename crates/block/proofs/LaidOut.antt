-- A block laid out in four parts.
use mathlib.Core.Path.{◌≡◌, refl, sym, ap, ◌∙◌}
use mathlib.Core.List.{List, [], ◌∷◌, ◌++◌, append_assoc, append-nil}
use Prim.Native.Nat.{ℕ, ◌-◌}
use native.Mathlib.Omega.{arith}
use lib.ListN.{length, take, drop, set, length-append, length-take, length-drop, drop_of_length-le}
use lib.Seq.{take_at, drop_at, set_at}
use borrow.Rule.Slice.PartMut.{put_mid}
use Rattle.hart.specs.declared.record.Hart.{Hart}
use Rattle.layout.specs.Width.{bits}
use Rattle.csr.specs.Csrs.{Htimedeltah}
use Rattle.hart.specs.Record.{with_dropped}
use Rattle.hart.specs.Stored.{stored_count, held}
use Rattle.block.specs.Block.{first_count, middle_count, general_at, general_count, width_at, last_count, block_length, count_at, middle, last, block_of}

-- words put after the first n
put : (p m b : List ℕ) (n k : ℕ) → length p ≡ n → put_mid n k (p ++ b) m ≡ p ++ (m ++ drop k b)
put p m b n k e = rw (take_at p b n e, drop_at p b n e)

-- three parts more put one after the other, in the place of all that stood there
module _ (c m x l b : List ℕ) (i : length c ≡ first_count) (j : length m ≡ middle_count) (k : length x ≡ general_count) (e : length b ≡ block_length - first_count) where
  two : length (c ++ m) ≡ general_at
  two = omega (arith, length-append c m)

  three : length ((c ++ m) ++ x) ≡ width_at
  three = omega (arith, length-append (c ++ m) x, two)

  first_two : put_mid first_count middle_count (c ++ b) m ≡ (c ++ m) ++ drop middle_count b
  first_two = rw append_assoc (put c m b first_count middle_count i)

  first_three : put_mid general_at general_count ((c ++ m) ++ drop middle_count b) x ≡ ((c ++ m) ++ x) ++ drop general_count (drop middle_count b)
  first_three = rw (append_assoc (c ++ m) x) (put (c ++ m) x (drop middle_count b) general_at general_count two)

  none_left : drop last_count (drop general_count (drop middle_count b)) ≡ []
  none_left =
      drop_of_length-le (drop general_count (drop middle_count b)) {i = last_count}
      (omega (arith, length-drop general_count (drop middle_count b), length-drop middle_count b))

  all-four : put_mid width_at last_count (put_mid general_at general_count (put_mid first_count middle_count (c ++ b) m) x) l ≡ c ++ (m ++ (x ++ l))
  all-four =
      ap (λ (v : List ℕ). put_mid width_at last_count (put_mid general_at general_count v x) l) first_two ∙ ap (λ (v : List ℕ). put_mid width_at last_count v l) first_three
      ∙ put ((c ++ m) ++ x) l (drop general_count (drop middle_count b)) width_at last_count three ∙ rw (none_left, append-nil l) (rw (append_assoc (c ++ m) x l) (append_assoc c m (x ++ l)))

-- the record's parts, in the place of what a block held
pub laid : (b : List ℕ) (h : Hart) {c m x l : List ℕ} → length b ≡ block_length → length h.csrs ≡ stored_count → length h.x ≡ general_count
    → c ≡ take first_count h.csrs → m ≡ middle h → x ≡ h.x → l ≡ last h
    → put_mid width_at last_count (put_mid general_at general_count (put_mid first_count middle_count (c ++ drop first_count b) m) x) l ≡ block_of h
unfolding block_of
laid b h n i j p q r t =
    rw (p, q, r, t)
    (all-four (take first_count h.csrs) (middle h) h.x (last h) (drop first_count b) (omega (arith, length-take first_count h.csrs)) refl j
    (omega (arith, length-drop first_count b)))

-- a block with 0 in the count's word is that of the record with the count 0
pub but-count : (h : Hart) → length h.csrs ≡ stored_count → length h.x ≡ general_count → set (block_of h) count_at 0 ≡ block_of (with_dropped h 0)
unfolding block_of
but-count h i j = ap (λ (b : List ℕ). set b count_at 0) (together h.dropped) ∙ set_at before h.dropped [] 0 count_at size ∙ sym (together 0)
  where
    c : List ℕ
    c = take first_count h.csrs

    five : List ℕ
    five = bits h.xlen ∷ held Htimedeltah h.csrs ∷ h.stvec ∷ h.scause ∷ h.stval ∷ []

    before : List ℕ
    before = ((c ++ middle h) ++ h.x) ++ five

    together : (d : ℕ) → c ++ (middle h ++ (h.x ++ (five ++ (d ∷ [])))) ≡ before ++ (d ∷ [])
    together d =
        sym (append_assoc c (middle h) (h.x ++ (five ++ (d ∷ [])))) ∙ sym (append_assoc (c ++ middle h) h.x (five ++ (d ∷ [])))
        ∙ sym (append_assoc ((c ++ middle h) ++ h.x) five (d ∷ []))

    size : length before ≡ count_at
    size =
        omega (arith, length-append ((c ++ middle h) ++ h.x) five, length-append (c ++ middle h) h.x, length-append c (middle h), length-take first_count h.csrs)
