-- Tables of which some slots are cleared: what each removal leaves, and all that follows from it alone.
use Prim.Native.Nat.{ℕ, zero, suc, ◌+◌, ◌*◌, ◌/◌, ◌%◌, ◌<◌}
use mathlib.Core.Bool.{Bool, true, false, cond, not, ◌&&◌, ◌||◌}
use mathlib.Core.List.{List, [], ◌∷◌}
use mathlib.Core.Logic.{◌≢◌}
use mathlib.Core.Path.{◌≡◌, refl, sym, ap, ◌∙◌}
use native.Mathlib.Nat.{add-zero}
use native.Mathlib.Omega.{arith}
use borrow.Author.Tests.{eqb-true, eqb-false}
use lib.Dec.{eqb}
use lib.ListN.{length, get_or, set, length-set}
use lib.Seq.{get_or-set_other, ext_get_or}
use Rattle.fence.specs.declared.entry.Fence.{Fence}
use Rattle.fence.specs.Names.{names}
use Rattle.fence.specs.Slots.{slot_word}
use Rattle.fence.specs.Table.{names_slot, remove_slot, Cleared}

-- word k of slot j belongs to slot j
slot_of : (j k : ℕ) → k < 4 → (4 * j + k) / 4 ≡ j
slot_of j k h = omega arith

-- a cleared slot is not named; the others are as they were
names-cond : (g : Fence) (b : Bool) (x y z : ℕ) → names g (cond b 0 x) (cond b 0 y) (cond b 0 z) ≡ not b && names g x y z
names-cond g true x y z = refl
names-cond g false x y z = refl

-- cleared by one or by the other
cond-or : (b d : Bool) (x : ℕ) → cond d 0 (cond b 0 x) ≡ cond (b || d) 0 x
cond-or true true x = refl
cond-or true false x = refl
cond-or false d x = refl

module _ {b : ℕ → Bool} {t u : List ℕ} (c : Cleared b t u) where
  -- the words of slot j
  pub cleared-word : (j k : ℕ) → k < 4 → slot_word u j k ≡ cond (b j) 0 (slot_word t j k)
  cleared-word j k h = rw (slot_of j k h) at (c.words (4 * j + k))

  -- which slots an entry names afterwards
  pub cleared-names : (g : Fence) (j : ℕ) → names_slot g u j ≡ not (b j) && names_slot g t j
  cleared-names g j =
      rw (cleared-word j 0 (omega arith), cleared-word j 1 (omega arith), cleared-word j 2 (omega arith))
      (names-cond g (b j) (slot_word t j 0) (slot_word t j 1) (slot_word t j 2))

  -- one clearing after the other
  pub cleared-then : {d : ℕ → Bool} {v : List ℕ} → Cleared d u v → Cleared (λ j. b j || d j) t v
  cleared-then {d} e =
      record {
        size = e.size ∙ c.size;
        words = λ n. e.words n ∙ ap (λ (x : ℕ). cond (d (n / 4)) 0 x) (c.words n) ∙ cond-or (b (n / 4)) (d (n / 4)) (get_or t n 0);
      }

  -- the same slots, said in another way
  pub cleared_by : {d : ℕ → Bool} → ((j : ℕ) → b j ≡ d j) → Cleared d t u
  cleared_by h = record { size = c.size; words = λ n. c.words n ∙ ap (λ (x : Bool). cond x 0 (get_or t n 0)) (h (n / 4)) }

  -- the slots that are cleared decide the table
  pub cleared-same : {d : ℕ → Bool} {v : List ℕ} → Cleared d t v → ((j : ℕ) → 4 * j < length t → b j ≡ d j) → u ≡ v
  cleared-same e h =
      ext_get_or 0 u _ (c.size ∙ sym e.size)
      (λ n m. let s = c.size in c.words n ∙ ap (λ (x : Bool). cond x 0 (get_or t n 0)) (h (n / 4) (omega arith)) ∙ sym (e.words n))

-- nothing cleared
pub cleared-none : (t : List ℕ) → Cleared (λ _. false) t t
cleared-none t = record { size = refl; words = λ n. refl }

-- a word that is set to zero is zero, within the table or past its end
zeroed : (l : List ℕ) (n : ℕ) → get_or (set l n 0) n 0 ≡ 0
zeroed [] n = refl
zeroed (x ∷ l) zero = refl
zeroed (x ∷ l) (suc n) = zeroed l n

-- and a store of zero elsewhere leaves it so
still-zero : (l : List ℕ) (m n : ℕ) → get_or l n 0 ≡ 0 → get_or (set l m 0) n 0 ≡ 0
still-zero l m n h = go (eqb n m) refl
  where
    go : (b : Bool) → eqb n m ≡ b → get_or (set l m 0) n 0 ≡ 0
    go true e = rw (eqb-true n m e) (zeroed l m)
    go false e = get_or-set_other l m n 0 0 (eqb-false n m e) ∙ h

-- the four words of a removed slot
removed-word : (t : List ℕ) (i k : ℕ) → k < 4 → get_or (remove_slot t i) (4 * i + k) 0 ≡ 0
removed-word t i zero h = rw add-zero (search (zeroed, still-zero))
removed-word t i (suc zero) h = search (zeroed, still-zero)
removed-word t i (suc (suc zero)) h = search (zeroed, still-zero)
removed-word t i (suc (suc (suc zero))) h = search zeroed
removed-word t i (suc (suc (suc (suc k)))) h = absurd (omega arith)

-- removing slot i clears slot i
pub cleared-slot : (t : List ℕ) (i : ℕ) → Cleared (λ j. eqb j i) t (remove_slot t i)
cleared-slot t i = record { size = simp length-set; words = λ n. go n (eqb (n / 4) i) refl }
  where
    go : (n : ℕ) (b : Bool) → eqb (n / 4) i ≡ b → get_or (remove_slot t i) n 0 ≡ cond b 0 (get_or t n 0)
    go n true e =
        let s : n / 4 ≡ i = eqb-true _ _ e in
        let at : n ≡ 4 * i + n % 4 = omega arith in
        rw at (removed-word t i (n % 4) (omega arith))
    go n false e =
        let away : n / 4 ≢ i = eqb-false _ _ e in
        let e₀ : n ≢ 4 * i = omega arith in
        let e₁ : n ≢ 4 * i + 1 = omega arith in
        let e₂ : n ≢ 4 * i + 2 = omega arith in
        let e₃ : n ≢ 4 * i + 3 = omega arith in
        simp get_or-set_other
