-- Laws of a fence entry as a part of the page: when it is empty, how long it is, and which words it has.
use mathlib.Core.Path.{◌≡◌, ap, ◌∙◌}
use mathlib.Core.Bool.{true, false}
use mathlib.Core.List.{List, []}
use Prim.Native.Nat.{ℕ, ◌+◌, ◌*◌, ◌≤◌, ◌<◌}
use native.Mathlib.Omega.{arith}
use lib.ListN.{length, take, drop, length-take, length-drop}
use borrow.Author.Tests.{eq-eqb, ne_eqb, lt-ltb, le-ltb}
use Rattle.layout.specs.declared.xlen.Xlen.{Xlen}
use Rattle.layout.specs.Width.{bytes}
use Rattle.layout.specs.Geometry.{entry_at, entry_count, page_size}
use Rattle.layout.specs.Words.{word_at}
use Rattle.layout.proofs.WordLaws.{word-part}
use Rattle.layout.proofs.PageLaws.{entry-end}
use Rattle.reader.specs.Part.{is_there, entry_part, part_start}

module _ (x : Xlen) (p : List ℕ) (e : ℕ) where
  -- on a page of another length there is no entry
  pub other_length : (length p ≡ page_size (bytes x) → ⊥) → is_there x p e ≡ false
  other_length h = rw (ne_eqb (length p) (page_size (bytes x)) h)

  -- above the last index there is no entry
  pub other-index : length p ≡ page_size (bytes x) → entry_count (bytes x) ≤ e → is_there x p e ≡ false
  other-index n h = rw (eq-eqb (length p) (page_size (bytes x)) n, le-ltb e (entry_count (bytes x)) h)

  -- an entry that isn't there is an empty part,
  pub part-empty : is_there x p e ≡ false → entry_part x p e ≡ []
  unfolding entry_part
  part-empty h = rw h

  -- which begins where the page does
  pub start-empty : is_there x p e ≡ false → part_start x p e ≡ 0
  unfolding part_start
  start-empty h = rw h

  module _ (n : length p ≡ page_size (bytes x)) (h : e < entry_count (bytes x)) where
    -- the test says so
    is-there : is_there x p e ≡ true
    is-there = rw (eq-eqb (length p) (page_size (bytes x)) n, lt-ltb e (entry_count (bytes x)) h)

    -- an entry that is there is its four words,
    pub part-there : entry_part x p e ≡ take (4 * bytes x) (drop (entry_at (bytes x) e) p)
    unfolding entry_part
    part-there = rw is-there

    -- which begin where the entry stands
    pub start-there : part_start x p e ≡ entry_at (bytes x) e
    unfolding part_start
    start-there = rw is-there

    -- they end in the page
    pub end-there : entry_at (bytes x) e + 4 * bytes x ≤ length p
    end-there = omega (arith, entry-end (bytes x) e 3 h (omega arith))

    -- its length
    pub part_length : length (entry_part x p e) ≡ 4 * bytes x
    part_length = rw part-there (simp (length-take, length-drop) (omega (arith, end-there)))

    -- a word of the part is the page's word at that place of the entry
    pub part-word : (o : ℕ) → o + bytes x ≤ 4 * bytes x → word_at (bytes x) (entry_part x p e) o ≡ word_at (bytes x) p (entry_at (bytes x) e + o)
    part-word o fits = ap (λ (l : List ℕ). word_at (bytes x) l o) part-there ∙ word-part (bytes x) (4 * bytes x) (entry_at (bytes x) e) o p fits
