-- Synchronizing everything equals synchronizing each register, and each fence entry, singly in the stated order (demand 2).
use mathlib.Core.Path.{◌≡◌, refl, sym, ap, ◌∙◌, subst}
use mathlib.Core.Bool.{Bool, true, false, true≢false, cond}
use mathlib.Core.List.{List, [], ◌∷◌, ◌++◌, map}
use mathlib.Core.Logic.{⊎_elim}
use Prim.Native.Nat.{ℕ, zero, suc, ◌+◌, ◌<◌, ◌≤◌}
use native.Mathlib.Omega.{arith}
use lib.Dec.{eqb}
use borrow.Author.Tests.{ne_eqb, lt-ltb}
use Rattle.csr.specs.Csrs.{Csr, number, has, those, every_csr, turn_order}
use Rattle.csr.proofs.Turns.{number_lt, number-window, lookup-number, at_turn-turn_of}
use Rattle.layout.specs.declared.xlen.Xlen.{Xlen}
use Rattle.layout.specs.declared.xlen.Xlen.TheVariants.{X32, X64}
use Rattle.layout.specs.Width.{bytes}
use Rattle.layout.specs.Geometry.{page_size, entry_count}
use Rattle.hart.specs.Bits.{all_ones}
use Rattle.page.specs.Entries.{entries_from, every_entry}
use Rattle.world.specs.World.{World, offset}
use Rattle.world.specs.State.{State, state_of, with_state}
use Rattle.world.proofs.MemoryLaws.{Room}
use Rattle.world.proofs.StateLaws.{put_same, page-length, taken_out, put-over}
use Rattle.turns.specs.Marks.{Mark, Dirty, Pending}
use Rattle.turns.specs.Turn.{turn, turns}
use Rattle.turns.proofs.Truth.{either}
use Rattle.turns.proofs.Turns.{turn-kept}
use Rattle.turns.proofs.Kept.{StateKept}
use Rattle.checks.specs.Fids.{fid_csr, fid_fence}
use Rattle.checks.specs.Checks.{sync_answer}
use Rattle.checks.specs.Codes.{accepted}
use Rattle.checks.proofs.Accepted.{Passed, good_parameter, passed, answered, room_of}
use Rattle.stops.specs.Sync.{asked, synced, whole}
use Rattle.stops.proofs.Forms.{whole-passed, whole-refused, still-passed}

-- a call that passes with one good parameter passes with another
other-parameter : (eid fid a b : ℕ) (w : World) → good_parameter w.hart.xlen fid b ≡ true → Passed eid fid a w → Passed eid fid b w
other-parameter eid fid a b w g q = record { one = q.one; two = q.two; three = q.three; four = q.four; five = g; seven = q.seven }

-- calls of one FID, one for each element of a list: `arg` is the parameter that asks for its mark alone
module _ (xlen : Xlen) {A : Type 0} (fid : ℕ) (mark : A → Mark) (arg : A → ℕ) where
  unfoldable pub each : List A → ℕ → World → World
  each [] eid w = w
  each (x ∷ xs) eid w = each xs eid (whole eid fid (arg x) w)

  -- the parameter of each asks for its mark
  pub Asks : List A → Type 0
  Asks [] = Unit {0}
  Asks (x ∷ xs) = (good_parameter xlen fid (arg x) ≡ true) × (asked xlen fid (arg x) ≡ mark x ∷ []) × Asks xs

  all-singly : (xs : List A) (eid a : ℕ) (w : World) → w.hart.xlen ≡ xlen → Asks xs → Passed eid fid a w → each xs eid w ≡ with_state w (turns xlen (map mark xs) (state_of w))
  unfolding each turns Asks
  all-singly [] eid a w e k q = sym (put_same w)
  all-singly (x ∷ xs) eid a w e (good, one, k) q =
      ap (each xs eid) one-turn ∙ all-singly xs eid a w₁ (kept.hart.xlen ∙ e) k (still-passed w rm s₁ kept eid fid a q)
      ∙ ap (λ (t : State). with_state w₁ (turns xlen (map mark xs) t)) (taken_out w rm s₁ kept.hart.xlen kept.hart.shmem kept.page)
      ∙ put-over w rm s₁ kept.hart.xlen kept.hart.shmem kept.page (turns xlen (map mark xs) s₁)
    where
      rm : Room (page_size (bytes w.hart.xlen)) (offset w) w.memory
      rm = room_of eid fid a w q

      s₁ : State
      s₁ = turn xlen (mark x) (state_of w)

      w₁ : World
      w₁ = with_state w s₁

      kept : StateKept w.hart.xlen s₁ (state_of w)
      kept = subst (λ (y : Xlen). StateKept w.hart.xlen (turn y (mark x) (state_of w)) (state_of w)) e (turn-kept w.hart.xlen (mark x) (state_of w) (page-length w rm))

      one-turn : whole eid fid (arg x) w ≡ w₁
      one-turn =
          whole-passed eid fid (arg x) w (other-parameter eid fid a (arg x) w (subst (λ (y : Xlen). good_parameter y fid (arg x) ≡ true) (sym e) good) q)
          ∙ unfold synced in
          (ap (λ (y : Xlen). with_state w (turns y (asked y fid (arg x)) (state_of w))) e ∙ ap (λ (ms : List Mark). with_state w (turns xlen ms (state_of w))) one)

  -- a call that is refused with one good parameter is refused with another
  refused_all : (xs : List A) (eid a : ℕ) (w : World) → good_parameter w.hart.xlen fid a ≡ true → accepted (sync_answer eid fid a w) ≡ false → each xs eid w ≡ w
  unfolding each
  refused_all [] eid a w g n = refl
  refused_all (x ∷ xs) eid a w g n = ap (each xs eid) (whole-refused eid fid (arg x) w refused) ∙ refused_all xs eid a w g n
    where
      refused : accepted (sync_answer eid fid (arg x) w) ≡ false
      refused =
          ⊎_elim (λ t. absurd (true≢false (sym (ap accepted (answered eid fid a w (other-parameter eid fid (arg x) a w g (passed eid fid (arg x) w t)))) ∙ n)))
          (λ e. e) (either (accepted (sync_answer eid fid (arg x) w)))

  -- a call for all of them is one for each, whatever the world
  pub singly : (xs : List A) (eid a : ℕ) (w : World) → w.hart.xlen ≡ xlen → Asks xs → good_parameter xlen fid a ≡ true → asked xlen fid a ≡ map mark xs → whole eid fid a w ≡ each xs eid w
  singly xs eid a w e k g all =
      ⊎_elim
      (λ t. let q = passed eid fid a w t in
      whole-passed eid fid a w q
      ∙ unfold synced in (ap (λ (y : Xlen). with_state w (turns y (asked y fid a) (state_of w))) e ∙ ap (λ (ms : List Mark). with_state w (turns xlen ms (state_of w))) all)
      ∙ sym (all-singly xs eid a w e k q))
      (λ n. whole-refused eid fid a w n ∙ sym (refused_all xs eid a w (subst (λ (y : Xlen). good_parameter y fid a ≡ true) (sym e) g) n)) (either (accepted (sync_answer eid fid a w)))

-- ---- registers

number-not-ones : (xlen : Xlen) (c : Csr) → eqb (number c) (all_ones xlen) ≡ false
number-not-ones X32 c = ne_eqb (number c) (all_ones X32) (λ e. omega (arith, number_lt c))
number-not-ones X64 c = ne_eqb (number c) (all_ones X64) (λ e. omega (arith, number_lt c))

-- those of a list that the width has
csrs-ask : (xlen : Xlen) (cs : List Csr) → Asks xlen fid_csr Dirty number (those xlen cs)
unfolding Asks
csrs-ask xlen [] = tt
csrs-ask xlen (c ∷ cs) = go (has xlen c) refl (csrs-ask xlen cs)
  where
    go : (b : Bool) → has xlen c ≡ b → Asks xlen fid_csr Dirty number (those xlen cs) → Asks xlen fid_csr Dirty number (cond b (c ∷ []) [] ++ those xlen cs)
    go true h rest = (
      rw (number-not-ones xlen c, number-window c, lt-ltb (number c) 0x1000 (number_lt c), lookup-number xlen c h),
      rw (number-not-ones xlen c, lookup-number xlen c h, at_turn-turn_of c),
      rest,
    )
    go false h rest = rest

-- all-ones is a good parameter, and asks for all
pub ones-good : (xlen : Xlen) → (good_parameter xlen fid_csr (all_ones xlen) ≡ true) × (good_parameter xlen fid_fence (all_ones xlen) ≡ true)
ones-good X32 = (refl, refl)
ones-good X64 = (refl, refl)

pub ones-ask : (xlen : Xlen) → (asked xlen fid_csr (all_ones xlen) ≡ map Dirty (turn_order xlen)) × (asked xlen fid_fence (all_ones xlen) ≡ map Pending (every_entry xlen))
ones-ask X32 = (refl, refl)
ones-ask X64 = (refl, refl)

pub csrs-singly : (eid : ℕ) (w : World) → let x = w.hart.xlen in whole eid fid_csr (all_ones x) w ≡ each x fid_csr Dirty number (turn_order x) eid w
csrs-singly eid w =
    let x = w.hart.xlen in singly x fid_csr Dirty number (turn_order x) eid (all_ones x) w refl (csrs-ask x every_csr) (ones-good x).0 (ones-ask x).0

-- ---- entries

index-not-ones : (xlen : Xlen) (e : ℕ) → e < entry_count (bytes xlen) → eqb e (all_ones xlen) ≡ false
index-not-ones X32 e b = ne_eqb e (all_ones X32) (λ q. omega arith)
index-not-ones X64 e b = ne_eqb e (all_ones X64) (λ q. omega arith)

entries-ask : (xlen : Xlen) (e n : ℕ) → e + n ≤ entry_count (bytes xlen) → Asks xlen fid_fence Pending (λ x. x) (entries_from e n)
unfolding Asks
entries-ask xlen e zero b = tt
entries-ask xlen e (suc n) b =
    let h : e < entry_count (bytes xlen) = omega arith in
    (rw (index-not-ones xlen e h, lt-ltb e (entry_count (bytes xlen)) h), rw (index-not-ones xlen e h), entries-ask xlen (e + 1) n (omega arith))

pub entries-singly : (eid : ℕ) (w : World) → let x = w.hart.xlen in whole eid fid_fence (all_ones x) w ≡ each x fid_fence Pending (λ e. e) (every_entry x) eid w
entries-singly eid w =
    let x = w.hart.xlen in
    singly x fid_fence Pending (λ e. e) (every_entry x) eid (all_ones x) w refl (entries-ask x 0 (entry_count (bytes x)) (omega arith)) (ones-good x).1 (ones-ask x).1
