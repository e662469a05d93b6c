-- Spans of numbers against the definitions of the fence entries: the pages of a range, those aimed at, and the test of an entry.
use Prim.Native.Nat.{ℕ, ◌+◌, ◌-◌, ◌*◌, ◌/◌, ◌%◌, ◌^◌, ◌<◌, ◌≤◌}
use mathlib.Core.Bool.{Bool, true, false, ◌&&◌, and_comm, false≢true}
use mathlib.Core.Path.{◌≡◌, refl, sym}
use native.Mathlib.Nat.{mod-eq_of_lt, div-eq_of_lt, lt_of_lt_of_le, le-div_iff_mul-le, div-lt_iff_lt-mul, mul-pos}
use native.Mathlib.Omega.{arith}
use borrow.Author.Tests.{le-leb, lt-ltb, leb-true, ltb-true}
use lib.Dec.{leb, ltb}
use lib.Pow.{pow_mono, pow_pos, shr_mono}
use Rattle.fence.specs.declared.entry.Fence.{Fence}
use Rattle.fence.specs.Names.{aimed_at, covers}
use Rattle.pass.specs.declared.bounds.Page.{Page}
use Rattle.pass.specs.declared.bounds.Span.{Span}
use Rattle.pass.specs.Inner.{within, page_in, WhoOf, TestOf}

-- ---- tests

-- a test that two others imply, and that implies them
both : (a b c : Bool) → (c ≡ true → (a ≡ true) × (b ≡ true)) → (a ≡ true → b ≡ true → c ≡ true) → a && b ≡ c
both true true c f g = sym (g refl refl)
both true false true f g = (f refl).1
both true false false f g = refl
both false b true f g = (f refl).0
both false b false f g = refl

-- a test of two holds: each does
each : (a b : Bool) → a && b ≡ true → (a ≡ true) × (b ≡ true)
each true b e = (refl, e)
each false b e = absurd (false≢true e)

-- a number is in a span exactly if c
within-is : (low last v : ℕ) (c : Bool) → (c ≡ true → (low ≤ v) × (v ≤ last)) → (low ≤ v → v ≤ last → c ≡ true) → within low last v ≡ c
within-is low last v c f g =
    both (leb low v) (leb v last) c
    (λ e. (le-leb low v (f e).0, le-leb v last (f e).1))
    (λ a b. g (leb-true low v a) (leb-true v last b))

-- ---- pages of a range: number n, order k, count m

-- every page
pub every-page : (p : ℕ) → p < 2 ^ 64 → within 0 (2 ^ 64 - 1) p ≡ true
every-page p b = within-is 0 (2 ^ 64 - 1) p true (λ e. (omega arith, omega arith)) (λ x y. refl)

-- page p is in the range
abbrev paged : ℕ → ℕ → ℕ → ℕ → Bool
paged n k m p = leb n (p / 2 ^ k) && ltb (p / 2 ^ k) (n + m)

-- the span has those pages p whose quotient q is in the range
spans : (low last n m p q : ℕ) → (n ≤ q → q < n + m → (low ≤ p) × (p ≤ last)) → (low ≤ p → p ≤ last → (n ≤ q) × (q < n + m))
    → within low last p ≡ leb n q && ltb q (n + m)
spans low last n m p q f g =
    within-is low last p (leb n q && ltb q (n + m))
    (λ e. let t = each (leb n q) (ltb q (n + m)) e in f (leb-true n q t.0) (ltb-true q (n + m) t.1))
    (λ a b. let t = g a b in rw (le-leb n q t.0, lt-ltb q (n + m) t.1))

-- from order 64 on every page has quotient 0
quotient-none : (k p : ℕ) → 64 ≤ k → p < 2 ^ 64 → p / 2 ^ k ≡ 0
quotient-none k p h b = div-eq_of_lt (lt_of_lt_of_le b (pow_mono h))

-- and is in the range if that starts at 0
pub span-all : (n k m p : ℕ) → (m ≡ 0 → ⊥) → 64 ≤ k → n ≡ 0 → p < 2 ^ 64 → within 0 (2 ^ 64 - 1) p ≡ paged n k m p
span-all n k m p c h e b =
    let z : p / 2 ^ k ≡ 0 = quotient-none k p h b in
    spans 0 (2 ^ 64 - 1) n m p (p / 2 ^ k) (λ x y. (omega arith, omega arith)) (λ x y. (omega arith, omega arith))

-- and not if it starts past 0
pub span-past-0 : (n k m p : ℕ) → 64 ≤ k → (n ≡ 0 → ⊥) → p < 2 ^ 64 → within (2 ^ 64 - 1) 0 p ≡ paged n k m p
span-past-0 n k m p h e b =
    let z : p / 2 ^ k ≡ 0 = quotient-none k p h b in
    spans (2 ^ 64 - 1) 0 n m p (p / 2 ^ k) (λ x y. absurd (omega arith)) (λ x y. absurd (omega arith))

-- a page's quotient is at most the last page's
top-quotient : (k p : ℕ) → p < 2 ^ 64 → p / 2 ^ k ≤ (2 ^ 64 - 1) / 2 ^ k
top-quotient k p b = shr_mono k (omega arith)

-- a number up to the last page's quotient, shifted back, is a page
shift_fits : (n k : ℕ) → n ≤ (2 ^ 64 - 1) / 2 ^ k → n * 2 ^ k < 2 ^ 64
shift_fits n k h =
    let a : n * 2 ^ k ≤ 2 ^ 64 - 1 = (le-div_iff_mul-le (pow_pos k)).0 h in
    omega arith

-- and is what the shift gives
shift_is : (n k : ℕ) → n ≤ (2 ^ 64 - 1) / 2 ^ k → (n * 2 ^ k) % 2 ^ 64 ≡ n * 2 ^ k
shift_is n k h = mod-eq_of_lt (shift_fits n k h)

-- a range that ends past the last page has all from its start on
pub span-open : (n k m p : ℕ) → n ≤ (2 ^ 64 - 1) / 2 ^ k → (2 ^ 64 - 1) / 2 ^ k - n < m → p < 2 ^ 64
    → within ((n * 2 ^ k) % 2 ^ 64) (2 ^ 64 - 1) p ≡ paged n k m p
span-open n k m p h c b =
    let t : p / 2 ^ k ≤ (2 ^ 64 - 1) / 2 ^ k = top-quotient k p b in
    rw (shift_is n k h)
    (spans (n * 2 ^ k) (2 ^ 64 - 1) n m p (p / 2 ^ k)
    (λ x y. ((le-div_iff_mul-le (pow_pos k)).0 x, omega arith))
    (λ x y. ((le-div_iff_mul-le (pow_pos k)).1 x, omega arith)))

-- any other has those before its end, shifted back
pub span-closed : (n k m p : ℕ) → (m ≡ 0 → ⊥) → n ≤ (2 ^ 64 - 1) / 2 ^ k → m ≤ (2 ^ 64 - 1) / 2 ^ k - n
    → within ((n * 2 ^ k) % 2 ^ 64) (((n + m) * 2 ^ k) % 2 ^ 64 - 1) p ≡ paged n k m p
span-closed n k m p z h c =
    let e : 1 ≤ (n + m) * 2 ^ k = mul-pos (omega arith) (pow_pos k) in
    rw (shift_is n k h, shift_is (n + m) k (omega arith))
    (spans (n * 2 ^ k) ((n + m) * 2 ^ k - 1) n m p (p / 2 ^ k)
    (λ x y. ((le-div_iff_mul-le (pow_pos k)).0 x, let l : p < (n + m) * 2 ^ k = (div-lt_iff_lt-mul (pow_pos k)).0 y in omega arith))
    (λ x y. ((le-div_iff_mul-le (pow_pos k)).1 x, (div-lt_iff_lt-mul (pow_pos k)).1 (omega arith))))

-- ---- the test of an entry

-- a test of the spans of those aimed at and of the pages
pub test-is : (f : Fence) (by : Span) (page : Page) (pages : Span) → WhoOf f.target by
    → ((word1 word2 : ℕ) → word1 < 2 ^ 64 → word2 < 2 ^ 64 → within pages.low pages.last (page_in page word1 word2) ≡ covers f.pages word1 word2)
    → TestOf f (record { who = by; page = page; pages = pages })
test-is f by page pages w s =
    record {
      names = λ word0 word1 word2 a b u. rw (w word0, s word1 word2 a b, u) (and_comm (covers f.pages word1 word2) (aimed_at f.target word0));
    }
