-- Tests of all pending entries are passed by the slots that these name; the table after some of its slots.
use mathlib.Core.Path.{◌≡◌, refl, sym, ap, ◌∙◌, subst}
use mathlib.Core.Bool.{Bool, true, false, cond, ◌&&◌, ◌||◌, or-true, or-false, and-false, false≢true}
use mathlib.Core.List.{List, ◌∷◌}
use mathlib.Core.Logic.{◌≢◌}
use Prim.Native.Nat.{ℕ, zero, suc, ◌+◌, ◌*◌, ◌/◌, ◌^◌, ◌<◌, ◌≤◌}
use native.Mathlib.Omega.{arith}
use borrow.Author.Tests.{leb-true, le-leb, ltb-true, ltb-false, lt-ltb, le-ltb, eqb-true, eqb-false}
use lib.Dec.{eqb, leb, ltb}
use lib.ListN.{length}
use Rattle.std.specs.List.{list_any}
use Rattle.std.proofs.lemmas.List.Elements.{All-weaker}
use Rattle.std.proofs.lemmas.List.Folds.{list_any_none, Any-from_list_any, list_any-from_Any}
use Rattle.layout.specs.declared.xlen.Xlen.{Xlen}
use Rattle.fence.specs.declared.entry.Fence.{Fence}
use Rattle.fence.specs.Slots.{slot_count, slot_word, used}
use Rattle.fence.specs.Entry.{everything}
use Rattle.fence.specs.Table.{names_slot, remove_slot, named_from, Cleared}
use Rattle.fence.proofs.Cleared.{cleared-word, cleared_by, cleared-then, cleared-slot}
use Rattle.fence.proofs.Named.{named-same}
use Rattle.fence.proofs.Removal.{removed-unnamed, other-names, length-remove_slot}
use Rattle.fence.proofs.Unreadable.{everything-names, names-used}
use Rattle.page.specs.Entries.{is_pending, fence_at}
use Rattle.pass.specs.Inner.{who, within, page_in, passes, passes_any, Around, named_by, TestOf, IsOfPending, Gathered}
use Rattle.pass.specs.Pass.{used_slots}
use Rattle.pass.specs.declared.bounds.Span.{Span}
use Rattle.pass.specs.declared.bounds.Test.{Test}

-- ---- one below a number

-- f holds of a number below n
unfoldable pub any_below : (ℕ → Bool) → ℕ → Bool
any_below f zero = false
any_below f (suc n) = any_below f n || f n

module _ (f : ℕ → Bool) where
  -- one that holds is one of all
  pub any_found : (n j : ℕ) → j < n → f j ≡ true → any_below f n ≡ true
  unfolding any_below
  any_found zero j h t = absurd (omega arith)
  any_found (suc n) j h t = go (ltb j n) refl (any_found n j)
    where
      go : (b : Bool) → ltb j n ≡ b → (j < n → f j ≡ true → any_below f n ≡ true) → (any_below f n || f n) ≡ true
      go true e again = rw (again (ltb-true j n e) t)
      go false e again =
          let here : j ≡ n = omega (arith, ltb-false j n e, h) in
          ap (λ (k : ℕ). any_below f n || f k) (sym here) ∙ ap (λ (b : Bool). any_below f n || b) t ∙ or-true (any_below f n)

  -- and if it holds of one of all, there is one
  pub any_some : (n : ℕ) → any_below f n ≡ true → (j : ℕ) × (j < n) × (f j ≡ true)
  unfolding any_below
  any_some zero t = absurd (false≢true t)
  any_some (suc n) t = go (any_below f n) refl (any_some n) t
    where
      go : (b : Bool) → any_below f n ≡ b → (any_below f n ≡ true → (j : ℕ) × (j < n) × (f j ≡ true)) → (b || f n) ≡ true → (j : ℕ) × (j < suc n) × (f j ≡ true)
      go true e again u = let (j, h, q) = again e in (j, omega arith, q)
      go false e again u = (n, omega arith, u)

-- both hold, and both are had
pub both : (b d : Bool) → (b && d) ≡ true → (b ≡ true) × (d ≡ true)
both true d t = (refl, t)
both false d t = absurd (false≢true t)

pub and_intro : (b d : Bool) → b ≡ true → d ≡ true → (b && d) ≡ true
and_intro b d p q = rw (p, q)

-- two that imply each other are the same
pub iff : (b d : Bool) → (b ≡ true → d ≡ true) → (d ≡ true → b ≡ true) → b ≡ d
iff true true f g = refl
iff true false f g = sym (f refl)
iff false true f g = g refl
iff false false f g = refl

-- ---- a span around what the tests ask

-- outside of it nothing passes
pub around-outside : (ts : List Test) (s : Span) → Around ts s → (word0 word1 word2 : ℕ) → within s.low s.last (who word0) ≡ false → passes_any ts word0 word1 word2 ≡ false
around-outside ts s a word0 word1 word2 out =
    list_any_none pass ts (All-weaker asked (λ (t : Test). pass t ≡ false) none ts a)
  where
    pass : Test → Bool
    pass t = passes t word0 word1 word2

    asked : Test → Type 0
    asked t = (s.low ≤ t.who.low) × (t.who.last ≤ s.last)

    none : (t : Test) → asked t → pass t ≡ false
    none t h = go (pass t) refl
      where
        go : (b : Bool) → pass t ≡ b → pass t ≡ false
        go false e = e
        go true e =
            let here = (both (within t.pages.low t.pages.last (page_in t.page word1 word2)) (within t.who.low t.who.last (who word0)) e).1 in
            let (f, l) = both (leb t.who.low (who word0)) (leb (who word0) t.who.last) here in
            let low : s.low ≤ who word0 = omega (arith, h.0, leb-true t.who.low (who word0) f) in
            let last : who word0 ≤ s.last = omega (arith, h.1, leb-true (who word0) t.who.last l) in
            absurd (false≢true (sym out ∙ and_intro (leb s.low (who word0)) (leb (who word0) s.last) (le-leb s.low (who word0) low) (le-leb (who word0) s.last last)))

-- ---- the tests are those of the pending entries

-- one of the pending entries below entry e names slot i
abbrev pub pending_names : Xlen → List ℕ → ℕ → List ℕ → ℕ → Bool
pending_names x page e t i = any_below (λ (d : ℕ). is_pending x page d && names_slot (fence_at x page d) t i) e

pub same-slots : (x : Xlen) (page : List ℕ) (e : ℕ) (ts : List Test) → Gathered x page e ts → (t : List ℕ) (i : ℕ) → slot_word t i 1 < 2 ^ 64 → slot_word t i 2 < 2 ^ 64
    → named_by ts t i ≡ pending_names x page e t i
same-slots x page e ts g t i b₁ b₂ = iff (named_by ts t i) (pending_names x page e t i) to from
  where
    pass : Test → Bool
    pass s = passes s (slot_word t i 0) (slot_word t i 1) (slot_word t i 2)

    name : ℕ → Bool
    name d = is_pending x page d && names_slot (fence_at x page d) t i

    same : (d : ℕ) (s : Test) → TestOf (fence_at x page d) s → used (slot_word t i 0) ≡ true → pass s ≡ names_slot (fence_at x page d) t i
    same d s f u = f.names (slot_word t i 0) (slot_word t i 1) (slot_word t i 2) b₁ b₂ u

    to : named_by ts t i ≡ true → pending_names x page e t i ≡ true
    to q =
        let (u, p) = both (used (slot_word t i 0)) (list_any pass ts) q in
        let (k, s, h, at, r) = Any-from_list_any pass ts p in
        let (d, below, m, f) = subst (IsOfPending x page e) at (g.pending k s h) in
        any_found name e d below (and_intro (is_pending x page d) (names_slot (fence_at x page d) t i) m (sym (same d s f u) ∙ r))

    from : pending_names x page e t i ≡ true → named_by ts t i ≡ true
    from q =
        let (d, h, r) = any_some name e q in
        let (p, m) = both (is_pending x page d) (names_slot (fence_at x page d) t i) r in
        let (k, s, l, at, f) = g.counted d h p in
        let u = names-used (fence_at x page d) (slot_word t i 0) (slot_word t i 1) (slot_word t i 2) m in
        and_intro (used (slot_word t i 0)) (list_any pass ts) u (list_any-from_Any pass ts (k, s, l, at, same d s f u ∙ m))

-- ---- the table after its first slots

-- a number that is not i is below i exactly if it is below the next
ltb_next : (i j : ℕ) → j ≢ i → ltb j (i + 1) ≡ ltb j i
ltb_next i j d = go (ltb j i) refl
  where
    go : (b : Bool) → ltb j i ≡ b → ltb j (i + 1) ≡ b
    go true e = lt-ltb j (i + 1) (omega (arith, ltb-true j i e))
    go false e = le-ltb j (i + 1) (omega (arith, ltb-false j i e, d))

module _ (b : ℕ → Bool) (i : ℕ) where
  -- slot i is one of them
  next-gone : b i ≡ true → (j : ℕ) → ((ltb j i && b j) || eqb j i) ≡ (ltb j (i + 1) && b j)
  next-gone t j = go (eqb j i) refl
    where
      go : (d : Bool) → eqb j i ≡ d → ((ltb j i && b j) || d) ≡ (ltb j (i + 1) && b j)
      go true e =
          let at : j ≡ i = eqb-true j i e in
          or-true (ltb j i && b j) ∙ sym (rw (lt-ltb j (i + 1) (omega arith), ap b at ∙ t))
      go false e = or-false (ltb j i && b j) ∙ ap (λ (d : Bool). d && b j) (sym (ltb_next i j (eqb-false j i e)))

  -- or not
  next-kept : b i ≡ false → (j : ℕ) → (ltb j i && b j) ≡ (ltb j (i + 1) && b j)
  next-kept f j = go (eqb j i) refl
    where
      go : (d : Bool) → eqb j i ≡ d → (ltb j i && b j) ≡ (ltb j (i + 1) && b j)
      go true e =
          let here = ap b (eqb-true j i e) ∙ f in
          rw here (and-false (ltb j i) ∙ sym (and-false (ltb j (i + 1))))
      go false e = ap (λ (d : Bool). d && b j) (sym (ltb_next i j (eqb-false j i e)))

-- one slot fewer is named
module _ (g : Fence) (t : List ℕ) (i : ℕ) (u : names_slot g t i ≡ true) where
  fewer : (b : Bool) (k : ℕ) (ls us : List ℕ) → length ls + 1 ≡ length us → length (cond b (k ∷ ls) ls) + 1 ≡ length (cond b (k ∷ us) us)
  fewer true k ls us e = omega (arith, e)
  fewer false k ls us e = e

  count-from : (n k : ℕ) → k ≤ i → i < k + n → length (named_from g (remove_slot t i) k n) + 1 ≡ length (named_from g t k n)
  count-from zero k a h = absurd (omega arith)
  count-from (suc n) k a h = go (eqb k i) refl (count-from n (k + 1))
    where
      v : List ℕ
      v = remove_slot t i

      go : (b : Bool) → eqb k i ≡ b → (k + 1 ≤ i → i < k + 1 + n → length (named_from g v (k + 1) n) + 1 ≡ length (named_from g t (k + 1) n))
          → length (cond (names_slot g v k) (k ∷ named_from g v (k + 1) n) (named_from g v (k + 1) n)) + 1
          ≡ length (cond (names_slot g t k) (k ∷ named_from g t (k + 1) n) (named_from g t (k + 1) n))
      go true e again =
          let at : k ≡ i = eqb-true k i e in
          let rest : named_from g v (k + 1) n ≡ named_from g t (k + 1) n = named-same g g v t n (k + 1) (λ j l m. other-names g t i j (omega arith)) in
          let now : names_slot g v k ≡ false = ap (names_slot g v) at ∙ removed-unnamed g t i in
          let was : names_slot g t k ≡ true = ap (names_slot g t) at ∙ u in
          rw (now, was) (ap (λ (l : List ℕ). length l + 1) rest ∙ omega arith)
      go false e again =
          let away : k ≢ i = eqb-false k i e in
          rw (other-names g t i k (omega arith)) (fewer (names_slot g t k) k (named_from g v (k + 1) n) (named_from g t (k + 1) n) (again (omega arith) (omega arith)))

-- before slot i: u is t without those of the slots below i that pass, `removed` is their number
pub record Passed (b : ℕ → Bool) (t u : List ℕ) (removed i : ℕ) : Type 0 where
  pub few : removed ≤ i
  pub table : Cleared (λ j. ltb j i && b j) t u
  pub count : removed + used_slots u ≡ used_slots t

module _ {b : ℕ → Bool} {t u : List ℕ} {removed i : ℕ} (p : Passed b t u removed i) where
  -- slot i is as it was
  pub passed-word : (k : ℕ) → k < 4 → slot_word u i k ≡ slot_word t i k
  passed-word k h = cleared-word p.table i k h ∙ rw (le-ltb i i (omega arith))

  pub passed-kept : b i ≡ false → Passed b t u removed (i + 1)
  passed-kept f = record { few = omega (arith, p.few); table = cleared_by p.table (next-kept b i f); count = p.count }

  pub passed-gone : 4 * i + 4 ≤ length t → b i ≡ true → used (slot_word t i 0) ≡ true → Passed b t (remove_slot u i) (removed + 1) (i + 1)
  passed-gone l y o =
      record {
        few = omega (arith, p.few);
        table = cleared_by (cleared-then p.table (cleared-slot u i)) (next-gone b i y);
        count = omega (arith, p.count, one);
      }
    where
      one : used_slots (remove_slot u i) + 1 ≡ used_slots u
      one =
          ap (λ (m : ℕ). length (named_from everything (remove_slot u i) 0 (m / 4)) + 1) (length-remove_slot u i)
          ∙ count-from everything u i (everything-names (slot_word u i 0) (slot_word u i 1) (slot_word u i 2) ∙ ap used (passed-word 0 (omega arith)) ∙ o) (slot_count u) 0 (omega arith)
          (omega (arith, p.table.size))

-- slot i passes as it did at the start
pub passed-named : (ts : List Test) {t u : List ℕ} {removed i : ℕ} → Passed (named_by ts t) t u removed i → named_by ts u i ≡ named_by ts t i
passed-named ts p = rw (passed-word p 0 (omega arith), passed-word p 1 (omega arith), passed-word p 2 (omega arith))

-- and is used if it does
pub named-is-used : (ts : List Test) (t : List ℕ) (i : ℕ) → named_by ts t i ≡ true → used (slot_word t i 0) ≡ true
named-is-used ts t i q = (both (used (slot_word t i 0)) (passes_any ts (slot_word t i 0) (slot_word t i 1) (slot_word t i 2)) q).0

-- by the pending entries, whose tests these are
pub by_entries : (x : Xlen) (page : List ℕ) (e : ℕ) (ts : List Test) (slots : ℕ) {t u : List ℕ} → Gathered x page e ts
    → ((j : ℕ) → j < slots → (slot_word t j 1 < 2 ^ 64) × (slot_word t j 2 < 2 ^ 64))
    → Cleared (λ j. ltb j slots && named_by ts t j) t u → Cleared (λ j. ltb j slots && pending_names x page e t j) t u
by_entries x page e ts slots {t} g fit c = cleared_by c (λ j. go j (ltb j slots) refl)
  where
    go : (j : ℕ) (b : Bool) → ltb j slots ≡ b → (b && named_by ts t j) ≡ (b && pending_names x page e t j)
    go j true l = same-slots x page e ts g t j (fit j (ltb-true j slots l)).0 (fit j (ltb-true j slots l)).1
    go j false l = refl
