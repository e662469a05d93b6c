-- Lists of numbers: which are in one, and the numbers of entries that follow one another.
use mathlib.Core.Path.{◌≡◌, refl, sym, ap, ◌∙◌}
use mathlib.Core.Bool.{Bool, true, false, cond, true≢false, false≢true}
use mathlib.Core.List.{List, [], ◌∷◌, ◌++◌}
use mathlib.Core.Logic.{◌⊎◌, inl, inr, ⊎_elim, ◌≢◌}
use Prim.Native.Nat.{ℕ, zero, suc, ◌+◌, ◌<◌, ◌≤◌}
use native.Mathlib.Nat.{add-zero, zero-add, suc-add}
use native.Mathlib.Omega.{arith}
use lib.Dec.{eqb}
use lib.ListN.{length}
use borrow.Author.Tests.{eq-eqb, eqb-true}
use Rattle.layout.specs.declared.xlen.Xlen.{Xlen}
use Rattle.layout.specs.Width.{bytes}
use Rattle.layout.specs.Geometry.{entry_count}
use Rattle.page.specs.Entries.{entries_from, every_entry}
use Rattle.turns.proofs.Truth.{either}

-- the number is in the list
abbrev pub mem : ℕ → List ℕ → Bool
mem e [] = false
mem e (d ∷ ds) = cond (eqb e d) true (mem e ds)

-- no number stands twice in the list
abbrev pub distinct : List ℕ → Bool
distinct [] = true
distinct (e ∷ es) = cond (mem e es) false (distinct es)

-- all are numbers of entries
abbrev pub Entries : (xlen : Xlen) → List ℕ → Type 0
Entries xlen es = (e : ℕ) → mem e es ≡ true → e < entry_count (bytes xlen)

-- ---- which numbers are in a list

pub mem-more : (e d : ℕ) (es : List ℕ) → mem e es ≡ true → mem e (d ∷ es) ≡ true
mem-more e d es m = go (eqb e d)
  where
    go : (b : Bool) → cond b true (mem e es) ≡ true
    go true = refl
    go false = m

pub mem-first : (e : ℕ) (es : List ℕ) → mem e (e ∷ es) ≡ true
mem-first e es = rw (eq-eqb e e refl)

pub mem-rest : (e d : ℕ) (es : List ℕ) → eqb e d ≡ false → mem e (d ∷ es) ≡ true → mem e es ≡ true
mem-rest e d es n m = rw n at m

pub mem-left : (e : ℕ) (es ds : List ℕ) → mem e es ≡ true → mem e (es ++ ds) ≡ true
mem-left e [] ds m = absurd (false≢true m)
mem-left e (d ∷ es) ds m = go (either (eqb e d)) (mem-left e es ds)
  where
    go : (eqb e d ≡ true) ⊎ (eqb e d ≡ false) → (mem e es ≡ true → mem e (es ++ ds) ≡ true) → mem e (d ∷ (es ++ ds)) ≡ true
    go (inl q) ih = rw q
    go (inr n) ih = rw n (ih (mem-rest e d es n m))

-- of two numbers one is in the list and the other is not: they differ
pub mem-apart : (d e : ℕ) (es : List ℕ) → mem d es ≢ mem e es → eqb d e ≡ false
mem-apart d e es n = ⊎_elim (λ q. absurd (n (ap (λ (x : ℕ). mem x es) (eqb-true d e q)))) (λ f. f) (either (eqb d e))

module _ (e : ℕ) (es : List ℕ) (t : distinct (e ∷ es) ≡ true) where
  first-once : mem e es ≡ false
  first-once = ⊎_elim (λ m. absurd (false≢true (rw m at t))) (λ n. n) (either (mem e es))

  -- where none stands twice, none of the others does
  pub distinct-rest : distinct es ≡ true
  distinct-rest = rw first-once at t

  -- and they differ from the first
  pub distinct_apart : (d : ℕ) → mem d es ≡ true → eqb d e ≡ false
  distinct_apart d m = mem-apart d e es (λ q. true≢false (sym m ∙ q ∙ first-once))

-- ---- the entries from one on

-- the first m entries, and then the n others
pub entries_from-add : (e m n : ℕ) → entries_from e (m + n) ≡ entries_from e m ++ entries_from (e + m) n
entries_from-add e zero n = rw (zero-add, add-zero)
entries_from-add e (suc m) n =
    let next : e + 1 + m ≡ e + suc m = omega arith in
    rw (suc-add, entries_from-add (e + 1) m n, next)

-- as many numbers as are asked for
pub length-entries : (e n : ℕ) → length (entries_from e n) ≡ n
length-entries e zero = refl
length-entries e (suc n) = ap suc (length-entries (e + 1) n)

-- n numbers from e on
pub entries-range : (e n d : ℕ) → mem d (entries_from e n) ≡ true → (e ≤ d) × (d < e + n)
entries-range e zero d m = absurd (false≢true m)
entries-range e (suc n) d m =
    ⊎_elim (λ q. let x : d ≡ e = eqb-true d e q in omega arith)
    (λ q. omega (arith, entries-range (e + 1) n d (rw q at m))) (either (eqb d e))

-- all of them numbers of entries
pub entries_below : (xlen : Xlen) (e n : ℕ) → e + n ≤ entry_count (bytes xlen) → Entries xlen (entries_from e n)
entries_below xlen e n h d m = omega (arith, entries-range e n d m)

-- and so a single one
pub entry-below : (xlen : Xlen) (e : ℕ) → e < entry_count (bytes xlen) → Entries xlen (e ∷ [])
entry-below xlen e h = entries_below xlen e 1 (omega arith)

-- and those of a page
pub every-below : (xlen : Xlen) → Entries xlen (every_entry xlen)
every-below xlen = entries_below xlen 0 (entry_count (bytes xlen)) (omega arith)

-- none stands twice
pub entries-distinct : (e n : ℕ) → distinct (entries_from e n) ≡ true
entries-distinct e zero = refl
entries-distinct e (suc n) =
    ⊎_elim (λ m. absurd (omega (arith, entries-range (e + 1) n e m)))
    (λ m. rw m (entries-distinct (e + 1) n)) (either (mem e (entries_from (e + 1) n)))
