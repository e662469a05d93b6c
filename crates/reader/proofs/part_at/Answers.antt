-- `part_at` meets its contract: each test says which case of `entry_part` holds.
use mathlib.Core.Path.{◌≡◌, sym, ap}
use mathlib.Core.Bool.{false}
use mathlib.Core.List.{List, []}
use Prim.Native.Nat.{ℕ, ◌+◌, ◌-◌, ◌*◌, ◌<◌}
use native.Mathlib.Omega.{arith}
use lib.ListN.{length, take, drop}
use denote.Bor.{Bor}
use Rattle.layout.specs.declared.xlen.Xlen.{Xlen}
use Rattle.layout.specs.Width.{bytes}
use Rattle.layout.specs.Geometry.{entry_at, entry_count, page_size}
use Rattle.reader.specs.Part.{is_there, part_start, PartOf}
use Rattle.reader.proofs.PartLaws.{other_length, other-index, part-empty, start-empty, part-there, start-there}
use Rattle.reader.proofs.part_at.Goals as goal

module _ (x : Xlen) (page : Bor (List ℕ)) (e : ℕ) where
  -- an empty slice at the page's start, where the entry isn't there
  empty-part : is_there x page.now e ≡ false → PartOf x page e (record { ref_ptr = page.ref_ptr; now = [] })
  empty-part h =
      let start : page.ref_ptr.1 ≡ page.ref_ptr.1 + part_start x page.now e = omega (arith, start-empty x page.now e h) in
      record { bytes = sym (part-empty x page.now e h); place = ap (λ (o : ℕ). (page.ref_ptr.0, o)) start }

  -- four words from where the entry stands
  there-part : {a w : ℕ} → a ≡ entry_at (bytes x) e → w ≡ bytes x → length page.now ≡ page_size (bytes x) → e < entry_count (bytes x)
      → PartOf x page e (record { ref_ptr = (page.ref_ptr.0, a + page.ref_ptr.1); now = take (a + 4 * w - a) (drop a page.now) })
  there-part {a} {w} at word n h =
      let count : a + 4 * w - a ≡ 4 * w = omega arith in
      let start : a + page.ref_ptr.1 ≡ page.ref_ptr.1 + part_start x page.now e = omega (arith, start-there x page.now e n h) in
      record { bytes = rw (count, at, word) (sym (part-there x page.now e n h)); place = ap (λ (o : ℕ). (page.ref_ptr.0, o)) start }

pub returns-then-page-page_size : goal.returns-then-page-page_size
returns-then-page-page_size c = let a = c.args in
    empty-part _ _ _ (other_length a.x a.page.now a.e (λ n. omega arith))

pub returns-then-e-entry_count : goal.returns-then-e-entry_count
returns-then-e-entry_count c = let a = c.args in
    empty-part _ _ _ (other-index a.x a.page.now a.e (omega arith) (omega arith))

pub returns : goal.returns
returns c = there-part _ _ _ c.entry_at-at.ensures c.bytes.ensures (omega arith) (omega arith)
