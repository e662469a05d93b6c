-- What a memory write and a slot leave, and what nothing else changes.
use mathlib.Core.Bool.{Bool, true, false, cond, true≢false}
use mathlib.Core.Path.{◌≡◌, refl, sym, ap, ◌∙◌}
use mathlib.Core.List.{List}
use mathlib.Core.Logic.{◌⊎◌, inl, inr}
use Prim.Native.Nat.{ℕ, zero, suc, ◌+◌, ◌*◌, ◌≤◌, ◌<◌}
use native.Mathlib.Omega.{arith}
use lib.Dec.{leb, ltb}
use lib.ListN.{length, get_or, drop, set, length-set}
use lib.Seq.{get_or-set_same, get_or-set_other}
use borrow.Author.Tests.{leb-true, ltb-true, ltb-false}
use Rattle.fence.specs.Slots.{slot_count}
use Rattle.world.specs.Memory.{with_part}
use Rattle.world.specs.World.{World, lent}
use Rattle.world.proofs.MemoryLaws.{part-byte, part-with, with-length, outside-stays}
use Rattle.std.specs.Prelude.{Ok, Err}
use Rattle.checks.specs.declared.answer.Success.TheVariants.{Value}
use Rattle.checks.specs.declared.answer.Refusal.TheVariants.{InvalidAddress}
use Rattle.recording.specs.Format.{body_word}
use Rattle.apply.specs.Effects.{plain, write_effect, with_slot, slot_effect, effect}
use Rattle.replayed.specs.Claims.{Lands, WritesLand, Placed, SlotsPlaced}

-- a write that fits, and one that doesn't
lands : (at : ℕ) (bytes : List ℕ) (w : World) (t : Bool) → leb (at + length bytes) (length w.memory) ≡ t
    → Lands at bytes w
    (cond t (plain (Ok (Value 0)) (lent w.hart w.base (with_part (length bytes) at bytes w.memory) w.table)) (plain (Err InvalidAddress) w))
lands at bytes w true e =
    let r = leb-true (at + length bytes) (length w.memory) e in
    record {
      within = sym e;
      code = λ f. absurd (true≢false f);
      size = with-length (length bytes) at w.memory r bytes refl;
      written =
          λ _ k b. sym (part-byte (length bytes) at (with_part (length bytes) at bytes w.memory) k b)
          ∙ ap (λ (p : List ℕ). get_or p k 0) (part-with (length bytes) at w.memory r bytes refl);
      others = λ _ k b. outside-stays (length bytes) at w.memory r bytes refl k b;
      hart = refl;
      table = refl;
    }
lands at bytes w false e =
    record {
      within = sym e;
      code = λ f. refl;
      size = refl;
      written = λ f. absurd (true≢false (sym f));
      others = λ f. absurd (true≢false (sym f));
      hart = refl;
      table = refl;
    }

pub writes-land : WritesLand
unfolding effect write_effect
writes-land b w = lands (body_word b 0) (drop 8 b) w (leb (body_word b 0 + length (drop 8 b)) (length w.memory)) refl

-- the words of a slot that was placed, and those of the others
module _ (i : ℕ) (t : List ℕ) (f : ℕ → ℕ) where
  abbrev one : List ℕ
  one = set t (4 * i) (f 0)

  abbrev two : List ℕ
  two = set one (4 * i + 1) (f 1)

  abbrev three : List ℕ
  three = set two (4 * i + 2) (f 2)

  abbrev placed : List ℕ
  placed = set three (4 * i + 3) (f 3)

  placed-size : length placed ≡ length t
  placed-size = simp length-set refl

  placed-word : 4 * i + 4 ≤ length t → (k : ℕ) → k < 4 → get_or placed (4 * i + k) 0 ≡ f k
  placed-word l zero b =
      ap (λ (j : ℕ). get_or placed j 0) first
      ∙ get_or-set_other three (4 * i + 3) (4 * i) (f 3) 0 (λ e. absurd (omega (arith, e))) ∙ get_or-set_other two (4 * i + 2) (4 * i) (f 2) 0 (λ e. absurd (omega (arith, e)))
      ∙ get_or-set_other one (4 * i + 1) (4 * i) (f 1) 0 (λ e. absurd (omega (arith, e))) ∙ get_or-set_same t (4 * i) (f 0) 0 (omega arith)
    where
      first : 4 * i + 0 ≡ 4 * i
      first = omega arith
  placed-word l (suc zero) b =
      get_or-set_other three (4 * i + 3) (4 * i + 1) (f 3) 0 (λ e. absurd (omega (arith, e))) ∙ get_or-set_other two (4 * i + 2) (4 * i + 1) (f 2) 0 (λ e. absurd (omega (arith, e)))
      ∙ get_or-set_same one (4 * i + 1) (f 1) 0 (simp length-set (omega arith))
  placed-word l (suc (suc zero)) b =
      get_or-set_other three (4 * i + 3) (4 * i + 2) (f 3) 0 (λ e. absurd (omega (arith, e))) ∙ get_or-set_same two (4 * i + 2) (f 2) 0 (simp length-set (omega arith))
  placed-word l (suc (suc (suc zero))) b = get_or-set_same three (4 * i + 3) (f 3) 0 (simp length-set (omega arith))
  placed-word l (suc (suc (suc (suc k)))) b = absurd (omega arith)

  -- a place outside the slot is none of its four
  away : (j k : ℕ) → (j < 4 * i) ⊎ (4 * i + 4 ≤ j) → k < 4 → j ≡ 4 * i + k → ⊥
  away j k (inl h) b e = absurd (omega (arith, e))
  away j k (inr h) b e = absurd (omega (arith, e))

  placed-other : (j : ℕ) → (j < 4 * i) ⊎ (4 * i + 4 ≤ j) → get_or placed j 0 ≡ get_or t j 0
  placed-other j o =
      get_or-set_other three (4 * i + 3) j (f 3) 0 (away j 3 o (omega arith)) ∙ get_or-set_other two (4 * i + 2) j (f 2) 0 (away j 2 o (omega arith))
      ∙ get_or-set_other one (4 * i + 1) j (f 1) 0 (away j 1 o (omega arith)) ∙ get_or-set_other t (4 * i) j (f 0) 0 (λ e. away j 0 o (omega arith) (omega (arith, e)))

-- the words of another slot lie beside it
beside : (i j k : ℕ) → k < 4 → (i ≡ j → ⊥) → (4 * j + k < 4 * i) ⊎ (4 * i + 4 ≤ 4 * j + k)
beside i j k c n = split (ltb j i) refl
  where
    split : (t : Bool) → ltb j i ≡ t → (4 * j + k < 4 * i) ⊎ (4 * i + 4 ≤ 4 * j + k)
    split true e = let l = ltb-true j i e in inl (omega arith)
    split false e = next (ltb i j) refl
      where
        next : (t : Bool) → ltb i j ≡ t → (4 * j + k < 4 * i) ⊎ (4 * i + 4 ≤ 4 * j + k)
        next true f = let l = ltb-true i j f in inr (omega arith)
        next false f = let l = ltb-false i j f in let m = ltb-false j i e in absurd (n (omega arith))

-- a slot that is there, and one that isn't
places : (i : ℕ) (b : List ℕ) (w : World) (t : Bool) → ltb i (slot_count w.table) ≡ t
    → Placed i b w
    (cond t (plain (Ok (Value 0)) (lent w.hart w.base w.memory (with_slot i (body_word b 1) (body_word b 2) (body_word b 3) (body_word b 4) w.table)))
    (plain (Err InvalidAddress) w))
unfolding with_slot
places i b w true e =
    let r = ltb-true i (slot_count w.table) e in
    let f : ℕ → ℕ = λ k. body_word b (1 + k) in
    record {
      within = sym e;
      code = λ g. absurd (true≢false g);
      size = placed-size i w.table f;
      words = λ _ k c. placed-word i w.table f (omega arith) k c;
      others = λ _ j k c n. placed-other i w.table f (4 * j + k) (beside i j k c n);
      hart = refl;
      memory = refl;
    }
places i b w false e =
    record {
      within = sym e;
      code = λ g. refl;
      size = refl;
      words = λ g. absurd (true≢false (sym g));
      others = λ g. absurd (true≢false (sym g));
      hart = refl;
      memory = refl;
    }

pub slots-placed : SlotsPlaced
unfolding effect slot_effect
slots-placed b w = places (body_word b 0) b w (ltb (body_word b 0) (slot_count w.table)) refl
