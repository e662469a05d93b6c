-- Laws of words in a list of bytes: w and u are any numbers of bytes, and o and r offsets.
use mathlib.Core.Path.{◌≡◌, refl, sym, ap, ◌∙◌}
use mathlib.Core.Logic.{◌⊎◌, inl, inr, ⊎_elim}
use mathlib.Core.List.{List, [], ◌∷◌}
use Prim.Native.Nat.{ℕ, zero, suc, ◌+◌, ◌*◌, ◌/◌, ◌%◌, ◌^◌, ◌≤◌, ◌<◌}
use native.Mathlib.Nat.{zero-add, add-zero, suc-add, one-mul, mul_assoc, pow-succ', div-one, div-div-eq-div-mul}
use native.Mathlib.Omega.{arith}
use lib.ListN.{length, get_or, set, take, drop, length-set}
use lib.Seq.{get_or-set_same, get_or-set_other, get_or-take, get_or-drop, set-get_or, set-set, set_comm}
use Rattle.layout.specs.Words.{word_at, put_word}

-- every element is a byte
abbrev pub Bytes : List ℕ → Type 0
Bytes p = (j : ℕ) → get_or p j 0 < 256

-- a store keeps the length
pub length-put : (w : ℕ) (p : List ℕ) (o v : ℕ) → length (put_word w p o v) ≡ length p
length-put zero p o v = refl
length-put (suc w) p o v = length-put w (set p o (v % 256)) (o + 1) (v / 256) ∙ length-set p o (v % 256)

-- a store leaves each byte before and after it
pub byte-put-other : (w : ℕ) (p : List ℕ) (o v j : ℕ) → (j < o) ⊎ (o + w ≤ j) → get_or (put_word w p o v) j 0 ≡ get_or p j 0
byte-put-other zero p o v j h = refl
byte-put-other (suc w) p o v j h =
    byte-put-other w (set p o (v % 256)) (o + 1) (v / 256) j (⊎_elim (λ l. inl (omega arith)) (λ l. inr (omega arith)) h)
    ∙ get_or-set_other p o j (v % 256) 0 (⊎_elim (λ l. omega arith) (λ l. omega arith) h)

-- the byte at an index written in another way
byte_at : (p : List ℕ) {a b : ℕ} → a ≡ b → get_or p a 0 ≡ get_or p b 0
byte_at p e = ap (λ (n : ℕ). get_or p n 0) e

-- equal bytes make equal words
pub word-cong : (w : ℕ) (p q : List ℕ) (o r : ℕ) → ((j : ℕ) → j < w → get_or p (o + j) 0 ≡ get_or q (r + j) 0) → word_at w p o ≡ word_at w q r
word-cong zero p q o r h = refl
word-cong (suc w) p q o r h =
    let first : get_or p o 0 ≡ get_or q r 0 = simp add-zero at (h 0 (omega arith)) in
    let rest : word_at w p (o + 1) ≡ word_at w q (r + 1) =
    word-cong w p q (o + 1) (r + 1) (λ j l. byte_at p (omega arith) ∙ h (suc j) (omega arith) ∙ byte_at q (omega arith)) in
    omega (arith, first, rest)

-- equal words have equal bytes
pub word-inj : (w : ℕ) (p q : List ℕ) (o r : ℕ) → Bytes p → Bytes q → word_at w p o ≡ word_at w q r
    → (j : ℕ) → j < w → get_or p (o + j) 0 ≡ get_or q (r + j) 0
word-inj zero p q o r bp bq e j h = absurd (omega arith)
word-inj (suc w) p q o r bp bq e zero h = simp add-zero (omega (arith, bp o, bq r))
word-inj (suc w) p q o r bp bq e (suc j) h =
    let rest : word_at w p (o + 1) ≡ word_at w q (r + 1) = omega (arith, bp o, bq r) in
    byte_at p (omega arith) ∙ word-inj w p q (o + 1) (r + 1) bp bq rest j (omega arith) ∙ byte_at q (omega arith)

-- a word of bytes is below 256 ^ w
pub word_bound : (w : ℕ) (p : List ℕ) (o : ℕ) → Bytes p → word_at w p o < 256 ^ w
word_bound zero p o b = omega arith
word_bound (suc w) p o b = omega (arith, b o, word_bound w p (o + 1) b)

-- a word of w + u bytes: w low ones, then u high ones
pub word-add : (w u : ℕ) (p : List ℕ) (o : ℕ) → word_at (w + u) p o ≡ word_at w p o + 256 ^ w * word_at u p (o + w)
word-add zero u p o = simp (zero-add, add-zero, one-mul)
word-add (suc w) u p o =
    let low : word_at (suc w + u) p o ≡ get_or p o 0 + 256 * word_at (w + u) p (o + 1) = ap (λ (n : ℕ). word_at n p o) (suc-add w u) in
    let next : word_at u p (o + 1 + w) ≡ word_at u p (o + suc w) = ap (word_at u p) (omega arith) in
    let high : 256 ^ suc w * word_at u p (o + suc w) ≡ 256 * (256 ^ w * word_at u p (o + 1 + w)) =
    rw (next, pow-succ') (mul_assoc 256 (256 ^ w) (word_at u p (o + suc w))) in
    omega (arith, low, high, word-add w u p (o + 1))

-- a word of a part of a list is a word of the list
pub word-part : (w n m o : ℕ) (p : List ℕ) → o + w ≤ n → word_at w (take n (drop m p)) o ≡ word_at w p (m + o)
word-part w n m o p h =
    word-cong w (take n (drop m p)) p o (m + o)
    (λ j l. get_or-take n (drop m p) (o + j) 0 (omega arith) ∙ get_or-drop m p (o + j) 0 ∙ byte_at p (omega arith))

-- a word is as it was where a byte apart from it is stored
pub word-set-other : (w : ℕ) (p : List ℕ) (a b o : ℕ) → (a < o) ⊎ (o + w ≤ a) → word_at w (set p a b) o ≡ word_at w p o
word-set-other w p a b o h =
    word-cong w (set p a b) p o o (λ j l. get_or-set_other p a (o + j) b 0 (⊎_elim (λ k. omega arith) (λ k. omega arith) h))

-- a stored word is read back
pub word-put-same : (w : ℕ) (p : List ℕ) (o v : ℕ) → o + w ≤ length p → v < 256 ^ w → word_at w (put_word w p o v) o ≡ v
word-put-same zero p o v h b = omega arith
word-put-same (suc w) p o v h b =
    let first : get_or (put_word (suc w) p o v) o 0 ≡ v % 256 =
    byte-put-other w (set p o (v % 256)) (o + 1) (v / 256) o (inl (omega arith)) ∙ get_or-set_same p o (v % 256) 0 (omega arith) in
    let rest : word_at w (put_word (suc w) p o v) (o + 1) ≡ v / 256 =
    word-put-same w (set p o (v % 256)) (o + 1) (v / 256) (simp length-set (omega arith)) (omega arith) in
    omega (arith, first, rest)

-- a store leaves each word apart from it
pub word-put-other : (w u : ℕ) (p : List ℕ) (o v r : ℕ) → (r + u ≤ o) ⊎ (o + w ≤ r) → word_at u (put_word w p o v) r ≡ word_at u p r
word-put-other w u p o v r h =
    word-cong u (put_word w p o v) p r r (λ j l. byte-put-other w p o v (r + j) (⊎_elim (λ k. inl (omega arith)) (λ k. inr (omega arith)) h))

-- a byte and a word apart from it are stored in either order
pub set-put-comm : (w : ℕ) (p : List ℕ) (o v j b : ℕ) → (j < o) ⊎ (o + w ≤ j) → set (put_word w p o v) j b ≡ put_word w (set p j b) o v
set-put-comm zero p o v j b h = refl
set-put-comm (suc w) p o v j b h =
    set-put-comm w (set p o (v % 256)) (o + 1) (v / 256) j b (⊎_elim (λ l. inl (omega arith)) (λ l. inr (omega arith)) h)
    ∙ ap (λ (l : List ℕ). put_word w l (o + 1) (v / 256)) (set_comm p o j (v % 256) b (⊎_elim (λ l. omega arith) (λ l. omega arith) h))

-- of two stores at one place the second stays
pub put-put-same : (w : ℕ) (p : List ℕ) (o x y : ℕ) → put_word w (put_word w p o x) o y ≡ put_word w p o y
put-put-same zero p o x y = refl
put-put-same (suc w) p o x y =
    ap (λ (l : List ℕ). put_word w l (o + 1) (y / 256))
    (set-put-comm w (set p o (x % 256)) (o + 1) (x / 256) o (y % 256) (inl (omega arith))
    ∙ ap (λ (l : List ℕ). put_word w l (o + 1) (x / 256)) (set-set p o (x % 256) (y % 256)))
    ∙ put-put-same w (set p o (y % 256)) (o + 1) (x / 256) (y / 256)

-- two words apart from each other are stored in either order
pub put-put-comm : (w u : ℕ) (p : List ℕ) (o y r x : ℕ) → (r + u ≤ o) ⊎ (o + w ≤ r)
    → put_word w (put_word u p r x) o y ≡ put_word u (put_word w p o y) r x
put-put-comm w zero p o y r x h = refl
put-put-comm w (suc u) p o y r x h =
    put-put-comm w u (set p r (x % 256)) o y (r + 1) (x / 256) (⊎_elim (λ l. inl (omega arith)) (λ l. inr (omega arith)) h)
    ∙ ap (λ (l : List ℕ). put_word u l (r + 1) (x / 256))
    (sym (set-put-comm w p o y r (x % 256) (⊎_elim (λ l. inl (omega arith)) (λ l. inr (omega arith)) h)))

-- a store of w + u bytes: the w low ones, then the u high ones
pub put-add : (w u : ℕ) (p : List ℕ) (o v : ℕ) → put_word (w + u) p o v ≡ put_word u (put_word w p o v) (o + w) (v / 256 ^ w)
put-add zero u p o v = simp (zero-add, add-zero, div-one)
put-add (suc w) u p o v =
    let at : o + 1 + w ≡ o + suc w = omega arith in
    let rest : v / 256 / 256 ^ w ≡ v / 256 ^ suc w = simp (pow-succ', div-div-eq-div-mul) in
    ap (λ (n : ℕ). put_word n p o v) (suc-add w u) ∙ put-add w u (set p o (v % 256)) (o + 1) (v / 256) ∙ rw (at, rest)

-- storing the word that is there changes nothing
pub put-word-self : (w : ℕ) (p : List ℕ) (o : ℕ) → Bytes p → put_word w p o (word_at w p o) ≡ p
put-word-self zero p o b = refl
put-word-self (suc w) p o b =
    let v : ℕ = word_at (suc w) p o in
    let low : v % 256 ≡ get_or p o 0 = omega (arith, b o) in
    let high : v / 256 ≡ word_at w p (o + 1) = omega (arith, b o) in
    rw (low, high, set-get_or p o 0) (put-word-self w p (o + 1) b)

-- a byte stored among bytes
pub bytes-set : (p : List ℕ) (o v : ℕ) → Bytes p → v < 256 → Bytes (set p o v)
bytes-set [] o v b h j = b j
bytes-set (x ∷ xs) zero v b h zero = h
bytes-set (x ∷ xs) zero v b h (suc j) = b (suc j)
bytes-set (x ∷ xs) (suc o) v b h zero = b 0
bytes-set (x ∷ xs) (suc o) v b h (suc j) = bytes-set xs o v (λ k. b (suc k)) h j

-- a word stored among bytes
pub bytes-put : (w : ℕ) (p : List ℕ) (o v : ℕ) → Bytes p → Bytes (put_word w p o v)
bytes-put zero p o v b = b
bytes-put (suc w) p o v b = bytes-put w (set p o (v % 256)) (o + 1) (v / 256) (bytes-set p o (v % 256) b (omega arith))
