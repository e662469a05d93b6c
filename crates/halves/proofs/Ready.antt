-- What a set that names an address leaves: both synchronizations of everything pass their checks there, and no mark is set.
use Rattle.std.specs.Prelude.{Some}
use mathlib.Core.Path.{◌≡◌, refl, sym, ap, ◌∙◌, subst}
use mathlib.Core.Bool.{true, false, not, ◌&&◌, ◌||◌}
use mathlib.Core.List.{[], ◌∷◌}
use Prim.Native.Nat.{ℕ, ◌%◌, ◌<◌}
use lib.Dec.{eqb, leb}
use Rattle.layout.specs.declared.xlen.Xlen.{Xlen}
use Rattle.layout.specs.Width.{bytes}
use Rattle.layout.specs.Geometry.{entry_count}
use Rattle.csr.specs.Csrs.{Csr}
use Rattle.hart.specs.declared.record.Hart.{Hart}
use Rattle.hart.specs.Bits.{all_ones}
use Rattle.hart.specs.Features.{has_feature}
use Rattle.hart.specs.Record.{with_shmem, is_s}
use Rattle.hart.specs.WellMade.{fits_word, each_fits, well_made}
use Rattle.hart.proofs.WellMadeLaws.{parts-well_made, well_made-parts}
use Rattle.page.specs.Registers.{is_dirty}
use Rattle.page.specs.Entries.{is_pending}
use Rattle.world.specs.World.{World, width}
use Rattle.turns.specs.Marks.{Dirty, Pending}
use Rattle.checks.specs.declared.answer.Refusal.TheVariants.{Failed, NotSupported, InvalidParam}
use Rattle.checks.specs.Fids.{eid_nacl, fid_set, fid_csr, fid_fence, fid_sret}
use Rattle.checks.specs.Codes.{accepted}
use Rattle.checks.specs.Checks.{table_well_made, check1, check2, is_call, is_drop, good_set, answer_by, call_answer}
use Rattle.checks.proofs.Accepted.{Passed}
use Rattle.checks.proofs.Judged.{guard, tables}
use Rattle.checks.proofs.Truth.{both, and_intro}
use Rattle.stops.proofs.Singly.{ones-good}
use Rattle.nacl.specs.Calls.{call_left}
use Rattle.claims.specs.Events.{Call, passable, blanks, page_in}
use Rattle.claims.specs.Claims.{PageBlank}
use Rattle.claims.proofs.Blanks.{set-parts}
use Rattle.claims.proofs.Blank.{set-page-blank}

pub record Ready (eid : ℕ) (v : World) : Type 0 where
  pub csrs : Passed eid fid_csr (all_ones (width v)) v
  pub fences : Passed eid fid_fence (all_ones (width v)) v
  pub clean : (c : Csr) → is_dirty (page_in v v) c ≡ false
  pub none-pending : (e : ℕ) → e < entry_count (bytes (width v)) → is_pending (width v) (page_in v v) e ≡ false

-- the checks that an accepted set passed
set-checks : (eid a0 a1 a2 : ℕ) (w : World) → accepted (call_answer eid fid_set a0 a1 a2 w) ≡ true
    → (check1 w ≡ true) × (check2 w ≡ true) × (is_call eid fid_set ≡ true) × (good_set (width w) a0 a1 a2 ≡ true)
unfolding call_answer answer_by
set-checks eid a0 a1 a2 w t =
    let (one, t₁) = guard (check1 w) Failed _ t in
    let (two, t₂) = guard (check2 w) NotSupported _ t₁ in
    let (three, t₃) = guard (is_call eid fid_set) NotSupported _ t₂ in
    let (five, t₄) = guard (good_set (width w) a0 a1 a2) InvalidParam _ t₃ in
    (one, two, three, five)

-- a record with the address of a page, aligned and of the width, is well made if it was
well_made-at : (h : Hart) (a : ℕ) → eqb (a % 4096) 0 ≡ true → fits_word h.xlen a ≡ true → well_made h ≡ true → well_made (with_shmem h (Some a)) ≡ true
well_made-at h a aligned fits t =
    let p = well_made-parts h t in
    let s = and_intro (eqb (a % 4096) 0) (fits_word h.xlen a) aligned fits in
    parts-well_made (with_shmem h (Some a))
    (record { csrs = p.csrs; lines = p.lines; sepc = p.sepc; stvec = p.stvec; shmem = s; x = p.x; features = p.features; words = p.words })

module _ (eid a0 a1 a2 : ℕ) (w : World) (b : blanks (Call eid fid_set a0 a1 a2) w ≡ true) where
  abbrev v : World
  v = call_left eid fid_set a0 a1 a2 w

  blank : PageBlank a0 w v
  blank = set-page-blank eid a0 a1 a2 w b

  -- the width stays
  pub same_width : width v ≡ width w
  same_width = ap (λ (h : Hart). h.xlen) blank.hart

  checks : (check1 w ≡ true) × (check2 w ≡ true) × (is_call eid fid_set ≡ true) × (good_set (width w) a0 a1 a2 ≡ true)
  checks = set-checks eid a0 a1 a2 w (set-parts eid fid_set a0 a1 a2 w b).1

  aligned : eqb (a0 % 4096) 0 ≡ true
  aligned = rw (set-parts eid fid_set a0 a1 a2 w b).2 at (both (eqb a2 0) (is_drop (width w) a0 a1 || eqb (a0 % 4096) 0) checks.3).1

  module _ (n : passable (Call eid fid_set a0 a1 a2) w ≡ true) where
    fits : fits_word (width w) a0 ≡ true
    fits =
        let rest = (both (fits_word (width w) fid_set) (each_fits (width w) (a0 ∷ a1 ∷ a2 ∷ [])) (both (fits_word (width w) eid) (each_fits (width w) (fid_set ∷ a0 ∷ a1 ∷ a2 ∷ [])) n).1).1 in
        (both (fits_word (width w) a0) (each_fits (width w) (a1 ∷ a2 ∷ [])) rest).0

    one : check1 v ≡ true
    unfolding check1
    one =
        let (t, h) = tables w checks.0 in
        and_intro (table_well_made v.table) (well_made v.hart) (ap table_well_made blank.table ∙ t) (ap well_made blank.hart ∙ well_made-at w.hart a0 aligned fits h)

    two : check2 v ≡ true
    unfolding check2
    two = ap (λ (h : Hart). not h.virt && is_s h.mode) blank.hart ∙ checks.1

    eid-is : eqb eid eid_nacl ≡ true
    eid-is = (both (eqb eid eid_nacl) (leb fid_set fid_sret) checks.2).0

    features-are : v.hart.features ≡ w.hart.features
    features-are = ap (λ (h : Hart). h.features) blank.hart

    pub ready : has_feature w.hart.features 0 ≡ true → has_feature w.hart.features 1 ≡ true → Ready eid v
    ready f₀ f₁ =
        record {
          csrs = record { one = one; two = two; three = rw eid-is; four = rw features-are f₀; five = (ones-good (width v)).0; seven = blank.there };
          fences = record { one = one; two = two; three = rw eid-is; four = rw features-are f₁; five = (ones-good (width v)).1; seven = blank.there };
          clean = λ c. blank.marks (Dirty c) tt;
          none-pending = λ e. subst (λ (x : Xlen). e < entry_count (bytes x) → is_pending x (page_in v v) e ≡ false) (sym same_width) (blank.marks (Pending e));
        }
