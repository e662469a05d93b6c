-- After a set that names an address the page there is blank, and nothing else of memory or the table changed.
use Rattle.std.specs.Prelude.{Some}
use mathlib.Core.Path.{◌≡◌, refl, sym, ap, ◌∙◌, subst}
use mathlib.Core.Bool.{true, false, ◌&&◌}
use mathlib.Core.List.{List}
use mathlib.Core.Logic.{◌⊎◌}
use Prim.Native.Nat.{ℕ, ◌+◌, ◌-◌, ◌≤◌, ◌<◌}
use lib.Dec.{leb}
use lib.ListN.{length, get_or}
use Rattle.layout.specs.declared.xlen.Xlen.{Xlen}
use Rattle.layout.specs.Width.{bytes}
use Rattle.layout.specs.Geometry.{csr_at, page_size}
use Rattle.csr.specs.Csrs.{Csr, has, turn_order}
use Rattle.hart.specs.declared.record.Hart.{Hart}
use Rattle.hart.specs.Record.{with_shmem}
use Rattle.hart.specs.Registers.{read}
use Rattle.hart.proofs.Fits.{well_made-words}
use Rattle.page.specs.Registers.{index, csr_word}
use Rattle.world.specs.Memory.{part_at, with_part}
use Rattle.world.specs.World.{World, in_memory, offset}
use Rattle.world.proofs.MemoryLaws.{Room, part-byte, part-with, with-length, outside-stays}
use Rattle.world.proofs.WorldLaws.{room}
use Rattle.turns.specs.Blank.{blank}
use Rattle.turns.specs.Marks.{Mark, Dirty, Pending, is_marked}
use Rattle.turns.proofs.BlankPage.{blank-page, blank-dirty, blank-pending, blank-word, blank-byte}
use Rattle.checks.specs.Fids.{fid_set}
use Rattle.checks.specs.Checks.{check1, check7, is_drop}
use Rattle.checks.proofs.Judged.{tables}
use Rattle.nacl.specs.Calls.{blanked, page_set, call_left}
use Rattle.nacl.proofs.CallLaws.{set-passed, passed-one}
use Rattle.claims.specs.Events.{page_in}
use Rattle.claims.specs.Claims.{IsMark, of_word, any_of, PageBlank, SetPageIsBlank}
use Rattle.claims.proofs.Blanks.{set-parts, set-left}
use Rattle.claims.proofs.Bytes.{apart, of_none}
use Rattle.claims.proofs.Edits.{in_order}
use Rattle.claims.proofs.Readings.{csr-in}

module _ (lo hi : ℕ) (w : World) (d : is_drop w.hart.xlen lo hi ≡ false) (in_memory_lem : in_memory w.hart.xlen w.base w.memory lo ≡ true)
    (one : check1 w ≡ true) where
  -- the page, and where it lies
  page : List ℕ
  page = blank w.hart.xlen w.hart

  at : Room (page_size (bytes w.hart.xlen)) (lo - w.base) w.memory
  at = room w.hart.xlen w.base w.memory (Some lo) in_memory_lem

  v : World
  v = page_set lo hi w

  memory-is : v.memory ≡ with_part (page_size (bytes w.hart.xlen)) (lo - w.base) page w.memory
  unfolding v page page_set blanked
  memory-is = rw d

  offset-is : offset v ≡ lo - w.base
  unfolding v page_set
  offset-is = rw d

  page-is : part_at (page_size (bytes w.hart.xlen)) (offset v) v.memory ≡ page
  unfolding page
  page-is = rw (offset-is, memory-is) (part-with (page_size (bytes w.hart.xlen)) (lo - w.base) w.memory at page (blank-page w.hart.xlen w.hart))

  size_is : length v.memory ≡ length w.memory
  unfolding page
  size_is = rw memory-is (with-length (page_size (bytes w.hart.xlen)) (lo - w.base) w.memory at page (blank-page w.hart.xlen w.hart))

  there : check7 v ≡ true
  unfolding v page_set blanked check7
  there =
      rw d (subst (λ (n : ℕ). (leb w.base lo && leb (lo + page_size (bytes w.hart.xlen)) (w.base + n)) ≡ true)
      (sym (with-length (page_size (bytes w.hart.xlen)) (lo - w.base) w.memory at (blank w.hart.xlen w.hart) (blank-page w.hart.xlen w.hart))) in_memory_lem)

  marks : (m : Mark) → IsMark w.hart.xlen m → is_marked w.hart.xlen page m ≡ false
  unfolding page
  marks (Dirty c) b = blank-dirty w.hart.xlen w.hart c
  marks (Pending e) b = blank-pending w.hart.xlen w.hart e b

  zeroes : (k : ℕ) → k < page_size (bytes w.hart.xlen) → any_of (of_word w.hart.xlen k) (turn_order w.hart.xlen) ≡ false
      → get_or v.memory (offset v + k) 0 ≡ 0
  unfolding page
  zeroes k b n =
      sym (part-byte (page_size (bytes w.hart.xlen)) (offset v) v.memory k b) ∙ ap (λ (p : List ℕ). get_or p k 0) page-is
      ∙ blank-byte w.hart.xlen w.hart k (λ c i. apart w.hart.xlen (csr_at (bytes w.hart.xlen) (index c)) k (of_none (of_word w.hart.xlen k) n i))

  outside : (j : ℕ) → (j < offset v) ⊎ (offset v + page_size (bytes w.hart.xlen) ≤ j) → get_or v.memory j 0 ≡ get_or w.memory j 0
  unfolding page
  outside j o =
      rw memory-is (outside-stays (page_size (bytes w.hart.xlen)) (lo - w.base) w.memory at page (blank-page w.hart.xlen w.hart) j (rw offset-is at o))

  hart-is : v.hart ≡ with_shmem w.hart (Some lo)
  unfolding v page_set
  hart-is = rw d

  is-blank : PageBlank lo w v
  unfolding page v page_set part_at
  is-blank =
      record {
        hart = hart-is;
        base = refl;
        there = there;
        marks = λ m b. rw page-is (marks m b);
        words = λ c h. rw page-is (blank-word w.hart.xlen w.hart c (well_made-words w.hart (tables w one).1) refl (csr-in (in_order w.hart.xlen c h)));
        zeroes = zeroes;
        size = size_is;
        outside = outside;
        table = refl;
      }

pub set-page-blank : SetPageIsBlank
unfolding v
set-page-blank eid a0 a1 a2 w b =
    let (f, t, d) = set-parts eid fid_set a0 a1 a2 w b in
    subst (PageBlank a0 w) (sym (set-left eid fid_set a0 a1 a2 w b)) (is-blank a0 a1 w d (set-passed eid a0 a1 a2 w t d) (passed-one eid fid_set a0 a1 a2 w t))
