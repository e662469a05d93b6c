-- A record and its block say the same.
use Rattle.std.specs.Prelude.{Option, Some, None}
use mathlib.Core.Path.{◌≡◌, refl, sym, ap, ◌∙◌, subst}
use mathlib.Core.Bool.{Bool, true, false, ◌&&◌, ◌||◌, and-eq-true_iff}
use mathlib.Core.Logic.{◌⊎◌, inl, inr, ⊎_elim}
use mathlib.Core.List.{List, [], ◌∷◌, ◌++◌, append_assoc}
use Prim.Native.Nat.{ℕ, zero, suc, ◌+◌, ◌^◌, ◌<◌}
use native.Mathlib.Omega.{arith}
use lib.Dec.{T, eqb, leb, ltb, ltb→lt}
use lib.ListN.{length, take, drop, get_or, length-append, length-take, take-append-drop, drop_of_length-le}
use lib.Seq.{take_at, drop_at, get_or_at, drop-cons, drop-drop, take-suc, take_all, get_or-append-add}
use borrow.Author.Tests.{eqb-true, leb-true, eq-eqb, le-leb}
use Rattle.layout.specs.declared.xlen.Xlen.{Xlen}
use Rattle.layout.specs.declared.xlen.Xlen.TheVariants.{X32, X64}
use Rattle.layout.specs.Width.{bits}
use Rattle.hart.specs.declared.record.Hart.{Hart}
use Rattle.hart.specs.declared.record.Mode.{Mode}
use Rattle.hart.specs.declared.record.Mode.TheVariants.{U, S}
use Rattle.hart.specs.Record.{mode_of}
use Rattle.hart.specs.Dropped.{most_dropped}
use Rattle.hart.proofs.Shape.{Sized}
use Rattle.block.specs.Block.{first_count, general_at, general_count, width_at, block_length, middle_word, last_word, width_word, high_word, count_word, count_of, flag_word, flag_of, is_flag, page_of, set_word, page_word, mode_word}
use Rattle.block.specs.Block.{xlen_of, is_width, middle, last, block_of, record_of, well_formed}

-- each field's word names it
pub flag-back : (t : Bool) → flag_of (flag_word t) ≡ t
flag-back true = refl
flag-back false = refl

page-back : (s : Option ℕ) → page_of (set_word s) (page_word s) ≡ s
page-back None = refl
page-back (Some a) = refl

mode-back : (m : Mode) → mode_of (flag_of (mode_word m)) ≡ m
mode-back U = refl
mode-back S = refl

xlen-back : (x : Xlen) → xlen_of (bits x) ≡ x
xlen-back X32 = refl
xlen-back X64 = refl

-- and is well formed
pub flag-fits : (t : Bool) → is_flag (flag_word t) ≡ true
flag-fits true = refl
flag-fits false = refl

set-fits : (s : Option ℕ) → is_flag (set_word s) ≡ true
set-fits None = refl
set-fits (Some a) = refl

page-fits : (s : Option ℕ) → (flag_of (set_word s) || eqb (page_word s) 0) ≡ true
page-fits None = refl
page-fits (Some a) = refl

mode-fits : (m : Mode) → is_flag (mode_word m) ≡ true
mode-fits U = refl
mode-fits S = refl

width_fits : (x : Xlen) → is_width (bits x) ≡ true
width_fits X32 = refl
width_fits X64 = refl

-- a flag's word is 0 or 1
one_of : (w : ℕ) → is_flag w ≡ true → (w ≡ 0) ⊎ (w ≡ 1)
one_of zero t = inl refl
one_of (suc zero) t = inr refl
one_of (suc (suc w)) t = absurd (omega (arith, leb-true (suc (suc w)) 1 t))

-- each word is that of the field that it names
flag_word_lem : (w : ℕ) → is_flag w ≡ true → flag_word (flag_of w) ≡ w
flag_word_lem w t = ⊎_elim (λ (e : w ≡ 0). rw e) (λ (e : w ≡ 1). rw e) (one_of w t)

mode-word : (w : ℕ) → is_flag w ≡ true → mode_word (mode_of (flag_of w)) ≡ w
mode-word w t = ⊎_elim (λ (e : w ≡ 0). rw e) (λ (e : w ≡ 1). rw e) (one_of w t)

set_word_lem : (w a : ℕ) → is_flag w ≡ true → set_word (page_of w a) ≡ w
set_word_lem w a t = ⊎_elim (λ (e : w ≡ 0). rw e) (λ (e : w ≡ 1). rw e) (one_of w t)

page-word : (w a : ℕ) → is_flag w ≡ true → (flag_of w || eqb a 0) ≡ true → page_word (page_of w a) ≡ a
page-word w a t o = ⊎_elim (λ (e : w ≡ 0). rw e (sym (eqb-true a 0 (rw e at o)))) (λ (e : w ≡ 1). rw e) (one_of w t)

width_word_lem : (w : ℕ) → is_width w ≡ true → bits (xlen_of w) ≡ w
width_word_lem w t = split (eqb w 32) refl
  where
    split : (b : Bool) → eqb w 32 ≡ b → bits (xlen_of w) ≡ w
    split true e = rw e (sym (eqb-true w 32 e))
    split false e = rw e (sym (eqb-true w 64 (rw e at t)))

-- all but the last of n + 1 words, and that
but_last : (l : List ℕ) (n : ℕ) → length l ≡ n + 1 → take n l ++ (get_or l n 0 ∷ []) ≡ l
but_last l n e = sym (take-suc l n 0 (omega arith)) ∙ take_all (suc n) l (omega arith)

-- a count of 32 bits
count-back : (n : ℕ) → n < 2 ^ 32 → count_of n ≡ n
count-back n lt = omega arith

-- a record with as many registers as a block has room for, and such a count
module _ (h : Hart) (z : Sized h) (small : h.dropped < 2 ^ 32) where
  abbrev firsts : List ℕ
  firsts = take first_count h.csrs

  abbrev rest : List ℕ
  rest = middle h ++ (h.x ++ last h)

  firsts-size : length firsts ≡ first_count
  firsts-size = omega (arith, length-take first_count h.csrs, z.csrs)

  -- the words after the first stored registers
  after : (k : ℕ) → middle_word (firsts ++ rest) k ≡ get_or rest k 0
  after k = subst (λ (j : ℕ). get_or (firsts ++ rest) (j + k) 0 ≡ get_or rest k 0) firsts-size (get_or-append-add firsts rest k 0)

  two_size : length (firsts ++ middle h) ≡ general_at
  two_size = omega (arith, length-append firsts (middle h), firsts-size)

  three-size : length ((firsts ++ middle h) ++ h.x) ≡ width_at
  three-size = omega (arith, length-append (firsts ++ middle h) h.x, two_size, z.x)

  general : take general_count (drop general_at (firsts ++ rest)) ≡ h.x
  general =
      rw (← append_assoc firsts (middle h) (h.x ++ last h), drop_at (firsts ++ middle h) (h.x ++ last h) general_at two_size)
      (take_at h.x (last h) general_count z.x)

  -- the words after the general ones
  ends : (k : ℕ) → last_word (firsts ++ rest) k ≡ get_or (last h) k 0
  ends k =
      rw (← append_assoc firsts (middle h) (h.x ++ last h), ← append_assoc (firsts ++ middle h) h.x (last h))
      (subst (λ (j : ℕ). get_or (((firsts ++ middle h) ++ h.x) ++ last h) (j + k) 0 ≡ get_or (last h) k 0) three-size
      (get_or-append-add ((firsts ++ middle h) ++ h.x) (last h) k 0))

  -- the block of a record holds that record
  pub record-of-block : record_of (block_of h) ≡ h
  unfolding record_of block_of
  record-of-block =
      rw (take_at firsts rest first_count firsts-size, after 0, after 1, after 2, after 3, after 4, after 5, after 6, after 7, after 8, after 9, after 10, general, ends 0, ends 1, ends 2, ends 3, ends 4, ends 5)
      (rw (but_last h.csrs first_count z.csrs, xlen-back h.xlen, page-back h.shmem, flag-back h.virt, mode-back h.mode, flag-back h.sie, flag-back h.spie, flag-back h.spp, count-back h.dropped small))

  -- and is well formed
  pub block-formed : well_formed (block_of h) ≡ true
  unfolding well_formed block_of
  block-formed =
      rw (eq-eqb (length (firsts ++ rest)) block_length (omega (arith, length-append firsts rest, length-append (middle h) (h.x ++ last h), length-append h.x (last h), firsts-size, z.x)))
      (rw (after 1, after 2, after 3, after 4, after 7, after 8, after 9, ends 0, ends 5)
      (rw (set-fits h.shmem, page-fits h.shmem, flag-fits h.virt, mode-fits h.mode, flag-fits h.sie, flag-fits h.spie, flag-fits h.spp, width_fits h.xlen, le-leb h.dropped most_dropped (omega arith))))

-- what a well-formed block is
pub record Formed (b : List ℕ) : Type 0 where
  pub size : length b ≡ block_length
  pub set : is_flag (middle_word b 1) ≡ true
  pub page : (flag_of (middle_word b 1) || eqb (middle_word b 2) 0) ≡ true
  pub virt : is_flag (middle_word b 3) ≡ true
  pub mode : is_flag (middle_word b 4) ≡ true
  pub sie : is_flag (middle_word b 7) ≡ true
  pub spie : is_flag (middle_word b 8) ≡ true
  pub spp : is_flag (middle_word b 9) ≡ true
  pub count : leb (count_word b) most_dropped ≡ true
  pub width : is_width (width_word b) ≡ true

pub formed : (b : List ℕ) → well_formed b ≡ true → Formed b
unfolding well_formed
formed b t =
    let n = eqb (length b) block_length in
    let s = is_flag (middle_word b 1) in
    let p = flag_of (middle_word b 1) || eqb (middle_word b 2) 0 in
    let v = is_flag (middle_word b 3) in
    let m = is_flag (middle_word b 4) in
    let e = is_flag (middle_word b 7) in
    let f = is_flag (middle_word b 8) in
    let g = is_flag (middle_word b 9) in
    let k = leb (count_word b) most_dropped in
    let (t₉, u₉) = (and-eq-true_iff (n && s && p && v && m && e && f && g && k) (is_width (width_word b))).0 t in
    let (t₈, u₈) = (and-eq-true_iff (n && s && p && v && m && e && f && g) k).0 t₉ in
    let (t₇, u₇) = (and-eq-true_iff (n && s && p && v && m && e && f) g).0 t₈ in
    let (t₆, u₆) = (and-eq-true_iff (n && s && p && v && m && e) f).0 t₇ in
    let (t₅, u₅) = (and-eq-true_iff (n && s && p && v && m) e).0 t₆ in
    let (t₄, u₄) = (and-eq-true_iff (n && s && p && v) m).0 t₅ in
    let (t₃, u₃) = (and-eq-true_iff (n && s && p) v).0 t₄ in
    let (t₂, u₂) = (and-eq-true_iff (n && s) p).0 t₃ in
    let (t₁, u₁) = (and-eq-true_iff n s).0 t₂ in
    record { size = eqb-true (length b) block_length t₁; set = u₁; page = u₂; virt = u₃; mode = u₄; sie = u₅; spie = u₆; spp = u₇; count = u₈; width = u₉ }

-- a count's word names it
count_word_lem : (w : ℕ) → leb w most_dropped ≡ true → count_of w ≡ w
count_word_lem w t = count-back w (omega (arith, leb-true w most_dropped t))

-- one more word of a block
more : (b : List ℕ) (j : ℕ) {w : ℕ} {r : List ℕ} → j < length b → w ≡ get_or b j 0 → r ≡ drop (suc j) b → w ∷ r ≡ drop j b
more b j {w} {r} l e f = rw (e, f, ← drop-cons b j 0 l)

-- a well-formed block is the block of the record that it holds
pub block-of-record : (b : List ℕ) → well_formed b ≡ true → block_of (record_of b) ≡ b
unfolding record_of block_of
block-of-record b t =
    ap (λ (r : List ℕ). r ++ (middle (record_of b) ++ ((record_of b).x ++ last (record_of b)))) firsts-back ∙
    ap (λ (r : List ℕ). take first_count b ++ r) (go 0 tt refl
    (go 1 tt (set_word_lem (middle_word b 1) (middle_word b 2) f.set) (go 2 tt (page-word (middle_word b 1) (middle_word b 2) f.set f.page)
    (go 3 tt (flag_word_lem (middle_word b 3) f.virt) (go 4 tt (mode-word (middle_word b 4) f.mode) (go 5 tt refl (go 6 tt refl
    (go 7 tt (flag_word_lem (middle_word b 7) f.sie) (go 8 tt (flag_word_lem (middle_word b 8) f.spie) (go 9 tt (flag_word_lem (middle_word b 9) f.spp)
    (go 10 tt refl ends-back)))))))))))
    ∙ take-append-drop first_count b
  where
    f : Formed b
    f = formed b t

    go : (k : ℕ) → T (ltb (first_count + k) block_length) → {w : ℕ} {r : List ℕ} → w ≡ middle_word b k → r ≡ drop (suc (first_count + k)) b
        → w ∷ r ≡ drop (first_count + k) b
    go k l e q = more b (first_count + k) (subst (λ (n : ℕ). first_count + k < n) (sym f.size) (ltb→lt (first_count + k) block_length l)) e q

    first-size : length (take first_count b) ≡ first_count
    first-size = let n : length b ≡ block_length = f.size in omega (arith, length-take first_count b)

    firsts-back : take first_count (take first_count b ++ (high_word b ∷ [])) ≡ take first_count b
    firsts-back = take_at (take first_count b) (high_word b ∷ []) first_count first-size

    -- the general registers, and the words after them
    ends-back : (record_of b).x ++ last (record_of b) ≡ drop general_at b
    ends-back =
        ap (λ (r : List ℕ). take general_count (drop general_at b) ++ r)
        (go 43 tt (width_word_lem (width_word b) f.width) (go 44 tt (get_or_at (take first_count b) (high_word b) [] 0 first_count first-size)
        (go 45 tt refl (go 46 tt refl (go 47 tt refl (go 48 tt (count_word_lem (count_word b) f.count) none)))))
        ∙ sym (drop-drop general_count general_at b)) ∙ take-append-drop general_count (drop general_at b)
      where
        none : [] ≡ drop block_length b
        none = sym (drop_of_length-le b {i = block_length} (let n : length b ≡ block_length = f.size in omega arith))
