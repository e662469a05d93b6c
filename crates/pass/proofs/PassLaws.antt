-- One pass over the table, and then the Pending bits, leave what the turns of all entries leave, in as many steps.
use mathlib.Core.Path.{◌≡◌, refl, sym, ap, ap₂, ◌∙◌, subst}
use mathlib.Core.Bool.{Bool, true, false, cond, ◌&&◌, ◌||◌, or-false, true≢false}
use mathlib.Core.List.{List, [], ◌∷◌, ◌++◌, map, map-append, append-nil}
use mathlib.Core.Logic.{◌≢◌, ⊎_elim}
use Prim.Native.Nat.{ℕ, zero, suc, ◌+◌, ◌-◌, ◌*◌, ◌/◌, ◌%◌, ◌<◌, ◌≤◌}
use native.Mathlib.Omega.{arith}
use borrow.Author.Tests.{lt-ltb, le-ltb, ltb-true, ltb-false, ne_eqb}
use lib.Dec.{ltb}
use lib.ListN.{length, get_or, length-append}
use lib.Seq.{ext_get_or}
use Rattle.layout.specs.declared.xlen.Xlen.{Xlen}
use Rattle.layout.specs.Width.{bytes}
use Rattle.layout.specs.Geometry.{entry_count}
use Rattle.hart.specs.declared.record.Hart.{Hart}
use Rattle.fence.specs.declared.entry.Fence.{Fence}
use Rattle.fence.specs.Entry.{everything}
use Rattle.fence.specs.Slots.{slot_count}
use Rattle.fence.specs.Table.{names_slot, named, remove_named, Cleared}
use Rattle.fence.proofs.Cleared.{cleared_by, cleared-word}
use Rattle.fence.proofs.Removal.{cleared-named, length-named, removed-count}
use Rattle.fence.proofs.Several.{any_names, any_names-append, remove_all-past}
use Rattle.page.specs.Registers.{IsPage}
use Rattle.page.specs.Entries.{entries_from, every_entry, is_pending, fence_at, clear_entry, NextPending}
use Rattle.page.proofs.EntryLaws.{page-done, pending-other}
use Rattle.world.specs.State.{State, state_from}
use Rattle.turns.specs.Marks.{Mark, Pending}
use Rattle.turns.specs.Turn.{entry_turn, turns}
use Rattle.turns.specs.Steps.{Step, Done, removals, entry_steps, steps, total}
use Rattle.turns.proofs.FenceLeaves.{pending_fences, table-left, slot-left}
use Rattle.turns.proofs.FenceSteps.{length-removals}
use Rattle.turns.proofs.FenceTurns.{turns_more, turns-hart, turns-idle, turns-length}
use Rattle.turns.proofs.Made.{steps-append}
use Rattle.turns.proofs.Truth.{either}
use Rattle.turns.proofs.Numbers.{every-below, entries-distinct, entries_from-add}
use Rattle.pass.specs.Inner.{OnlyPending, cleared_to, cleared_count}
use Rattle.pass.specs.Pass.{used_slots, Swept, AllServed}
use Rattle.pass.proofs.SweepLaws.{any_below, any_found, any_some, both, and_intro, iff, pending_names}

-- ---- the entries below one, and one more

next-entry : (e : ℕ) → entries_from 0 (suc e) ≡ entries_from 0 e ++ (e ∷ [])
next-entry e =
    ap (entries_from 0) (let q : suc e ≡ e + 1 = omega arith in q) ∙ entries_from-add 0 e 1
    ∙ ap (λ (k : ℕ). entries_from 0 e ++ (k ∷ [])) (let q : 0 + e ≡ e = omega arith in q)

fences-append : (x : Xlen) (es ds p : List ℕ) → pending_fences x (es ++ ds) p ≡ pending_fences x es p ++ pending_fences x ds p
unfolding pending_fences
fences-append x [] ds p = refl
fences-append x (e ∷ es) ds p = go (is_pending x p e) (fences-append x es ds p)
  where
    go : (b : Bool) → pending_fences x (es ++ ds) p ≡ pending_fences x es p ++ pending_fences x ds p
        → cond b (fence_at x p e ∷ pending_fences x (es ++ ds) p) (pending_fences x (es ++ ds) p)
        ≡ cond b (fence_at x p e ∷ pending_fences x es p) (pending_fences x es p) ++ pending_fences x ds p
    go true q = ap (λ (fs : List Fence). fence_at x p e ∷ fs) q
    go false q = q

-- what the pending entries below e name, said in two ways
named-same : (x : Xlen) (p t : List ℕ) (i e : ℕ) → any_names (pending_fences x (entries_from 0 e) p) t i ≡ pending_names x p e t i
unfolding any_below pending_fences
named-same x p t i zero = refl
named-same x p t i (suc e) =
    ap (λ (es : List ℕ). any_names (pending_fences x es p) t i) (next-entry e) ∙ ap (λ (fs : List Fence). any_names fs t i) (fences-append x (entries_from 0 e) (e ∷ []) p)
    ∙ any_names-append (pending_fences x (entries_from 0 e) p) (pending_fences x (e ∷ []) p) t i
    ∙ ap₂ (λ (b d : Bool). b || d) (named-same x p t i e) (go (is_pending x p e))
  where
    go : (b : Bool) → any_names (cond b (fence_at x p e ∷ []) []) t i ≡ b && names_slot (fence_at x p e) t i
    go true = or-false (names_slot (fence_at x p e) t i)
    go false = refl

-- ---- the table

module _ (x : Xlen) (page t : List ℕ) (g : IsPage x page) where
  -- the fences of all pending entries
  abbrev all : List Fence
  all = pending_fences x (every_entry x) page

  pub swept : (slots : ℕ) {t' : List ℕ} → 4 * slots ≤ length t → Cleared (λ i. ltb i slots && pending_names x page (entry_count (bytes x)) t i) t t' → Swept x page t slots t'
  swept slots l s =
      let c = cleared_by s (λ i. ap (λ (b : Bool). ltb i slots && b) (sym (named-same x page t i (entry_count (bytes x))))) in
      record {
        size = s.size;
        first = λ h i k a b. cleared-word c i k b ∙ rw (lt-ltb i slots a)
            (sym (slot-left x (every_entry x) (state_from h page t) i k (every-below x) (entries-distinct 0 (entry_count (bytes x))) g (omega arith) b));
        others = λ j a. c.words j ∙ rw (le-ltb (j / 4) slots (omega arith));
      }

  -- all slots
  pub swept_all : {t' : List ℕ} → Swept x page t (slot_count t) t' → (h : Hart) → t' ≡ (turns x (map Pending (every_entry x)) (state_from h page t)).table
  swept_all {t'} s h = ext_get_or 0 t' end (s.size ∙ sym (turns-length x (every_entry x) (state_from h page t))) (λ n m. go n (ltb (n / 4) (slot_count t)) refl)
    where
      end : List ℕ
      end = (turns x (map Pending (every_entry x)) (state_from h page t)).table

      go : (n : ℕ) (b : Bool) → ltb (n / 4) (slot_count t) ≡ b → get_or t' n 0 ≡ get_or end n 0
      go n true e =
          let at : 4 * (n / 4) + n % 4 ≡ n = omega arith in
          subst (λ (k : ℕ). get_or t' k 0 ≡ get_or end k 0) at (s.first h (n / 4) (n % 4) (ltb-true (n / 4) (slot_count t) e) (omega arith))
      go n false e =
          let past : 4 * slot_count t ≤ n = omega (arith, ltb-false (n / 4) (slot_count t) e) in
          s.others n past
          ∙ sym (ap (λ (l : List ℕ). get_or l n 0) (table-left x (every_entry x) (state_from h page t) (every-below x) (entries-distinct 0 (entry_count (bytes x))) g) ∙ remove_all-past all t n past)

-- ---- the page

-- one entry's turn
turned-page : (x : Xlen) (e : ℕ) (s : State) → (entry_turn x e s).page ≡ cond (is_pending x s.page e) (clear_entry x e s.page) s.page
unfolding entry_turn
turned-page x e s = go (is_pending x s.page e)
  where
    go : (b : Bool) → (cond b (state_from s.hart (clear_entry x e s.page) (remove_named (fence_at x s.page e) s.table)) s).page ≡ cond b (clear_entry x e s.page) s.page
    go true = refl
    go false = refl

-- and of all below one
pub page-turned : (x : Xlen) (e : ℕ) (s : State) → (turns x (map Pending (entries_from 0 e)) s).page ≡ cleared_to x e s.page
unfolding turns cleared_to
page-turned x zero s = refl
page-turned x (suc e) s =
    ap (λ (es : List ℕ). (turns x (map Pending es) s).page) (next-entry e) ∙ ap (λ (u : State). u.page) (turns_more x (entries_from 0 e) e s)
    ∙ turned-page x e (turns x (map Pending (entries_from 0 e)) s) ∙ ap (λ (p : List ℕ). cond (is_pending x p e) (clear_entry x e p) p) (page-turned x e s)

-- ---- Pending cleared one after the other

module _ (x : Xlen) (p : List ℕ) where
  -- an entry that is pending
  pub clear-one : (e : ℕ) {q : List ℕ} → cleared_to x e p ≡ q → is_pending x q e ≡ true
      → (cleared_to x (e + 1) p ≡ clear_entry x e q) × (cleared_count x (e + 1) p ≡ cleared_count x e p + 1)
  clear-one e {q} c t = (
    ap (λ (k : ℕ). cleared_to x k p) next ∙ unfold cleared_to in (ap (λ (r : List ℕ). cond (is_pending x r e) (clear_entry x e r) r) c ∙ rw t),
    ap (λ (k : ℕ). cleared_count x k p) next ∙ unfold cleared_count in (ap {B = ℕ} (λ (r : List ℕ). cleared_count x e p + cond (is_pending x r e) 1 0) c ∙ rw t),
  )
    where
      next : e + 1 ≡ suc e
      next = omega arith

  -- one that is not
  pub clear-idle : (e : ℕ) {q : List ℕ} → cleared_to x e p ≡ q → is_pending x q e ≡ false → (cleared_to x (e + 1) p ≡ q) × (cleared_count x (e + 1) p ≡ cleared_count x e p)
  clear-idle e c f = (
    ap (λ (k : ℕ). cleared_to x k p) next ∙ unfold cleared_to in (ap (λ (r : List ℕ). cond (is_pending x r e) (clear_entry x e r) r) c ∙ rw f),
    ap (λ (k : ℕ). cleared_count x k p) next ∙ unfold cleared_count in (ap {B = ℕ} (λ (r : List ℕ). cleared_count x e p + cond (is_pending x r e) 1 0) c ∙ rw f (omega arith)),
  )
    where
      next : e + 1 ≡ suc e
      next = omega arith

  -- several of them
  pub clear_none : (e n : ℕ) {q : List ℕ} → cleared_to x e p ≡ q → ((k : ℕ) → e ≤ k → k < e + n → is_pending x q k ≡ false)
      → (cleared_to x (e + n) p ≡ q) × (cleared_count x (e + n) p ≡ cleared_count x e p)
  clear_none e zero {q} c f = let at : e + 0 ≡ e = omega arith in (ap (λ (k : ℕ). cleared_to x k p) at ∙ c, ap (λ (k : ℕ). cleared_count x k p) at)
  clear_none e (suc n) {q} c f =
      let (page, count) = clear_none e n c (λ k a b. f k a (omega arith)) in
      let (next, same) = clear-idle (e + n) page (f (e + n) (omega arith) (omega arith)) in
      let at : e + suc n ≡ e + n + 1 = omega arith in
      (ap (λ (k : ℕ). cleared_to x k p) at ∙ next, ap (λ (k : ℕ). cleared_count x k p) at ∙ same ∙ count)

-- up to the next pending one
clear-on : (x : Xlen) (p : List ℕ) {e end r : ℕ} {q : List ℕ} → cleared_to x e p ≡ q → NextPending x q e end r
    → (cleared_to x r p ≡ q) × (cleared_count x r p ≡ cleared_count x e p)
clear-on x p {e} {r = r} {q} page n =
    subst (λ (k : ℕ). (cleared_to x k p ≡ q) × (cleared_count x k p ≡ cleared_count x e p)) at (clear_none x p e (r - e) page (λ k a b. n.passed k a (omega (arith, at))))
  where
    at : e + (r - e) ≡ r
    at = omega (arith, n.from)

-- up to the first
pub clear-start : (x : Xlen) (p : List ℕ) {end r : ℕ} → NextPending x p 0 end r → (cleared_to x r p ≡ p) × (cleared_count x r p ≡ 0)
unfolding cleared_to cleared_count
clear-start x p n = clear-on x p refl n

-- ---- the steps

-- one entry's turn
one : (x : Xlen) (e : ℕ) (s : State) → length (entry_steps x e s) + used_slots (entry_turn x e s).table ≡ cond (is_pending x s.page e) 1 0 + used_slots s.table
unfolding entry_steps entry_turn
one x e s = go (is_pending x s.page e)
  where
    f : Fence
    f = fence_at x s.page e

    go : (b : Bool) → length (cond b (removals (named f s.table) ++ (Done e ∷ [])) []) + used_slots (cond b (state_from s.hart (clear_entry x e s.page) (remove_named f s.table)) s).table
        ≡ cond b 1 0 + used_slots s.table
    go true =
        rw (length-append (removals (named f s.table)) (Done e ∷ []), length-removals (named f s.table)) (omega (arith, removed-count f s.table))
    go false = refl

-- and of all below one
pub steps-counted : (x : Xlen) (e : ℕ) (s : State)
    → total x (map Pending (entries_from 0 e)) s + used_slots (turns x (map Pending (entries_from 0 e)) s).table ≡ cleared_count x e s.page + used_slots s.table
unfolding total steps turns cleared_count
steps-counted x zero s = refl
steps-counted x (suc e) s =
    ap₂ (λ (ns ms : ℕ). ns + ms) more (ap (λ (u : State). used_slots u.table) step)
    ∙ (let pending = ap {B = ℕ} (λ (p : List ℕ). cond (is_pending x p e) 1 0) (page-turned x e s) in omega (arith, steps-counted x e s, one x e u, pending))
  where
    u : State
    u = turns x (map Pending (entries_from 0 e)) s

    step : turns x (map Pending (entries_from 0 (suc e))) s ≡ entry_turn x e u
    step = ap (λ (es : List ℕ). turns x (map Pending es) s) (next-entry e) ∙ turns_more x (entries_from 0 e) e s

    more : length (steps x (map Pending (entries_from 0 (suc e))) s) ≡ length (steps x (map Pending (entries_from 0 e)) s) + length (entry_steps x e u)
    more =
        ap (λ (es : List ℕ). length (steps x (map Pending es) s)) (next-entry e) ∙ ap (λ (ms : List Mark). length (steps x ms s)) (map-append Pending (entries_from 0 e) (e ∷ []))
        ∙ ap length (steps-append x (map Pending (entries_from 0 e)) (Pending e ∷ []) s) ∙ length-append (steps x (map Pending (entries_from 0 e)) s) (entry_steps x e u ++ [])
        ∙ ap (λ (l : List Step). length (steps x (map Pending (entries_from 0 e)) s) + length l) (append-nil (entry_steps x e u))

-- a page stays one
pub cleared-page : (x : Xlen) (e : ℕ) (p : List ℕ) → IsPage x p → IsPage x (cleared_to x e p)
unfolding cleared_to
cleared-page x zero p g = g
cleared-page x (suc e) p g = go (is_pending x (cleared_to x e p) e) (cleared-page x e p g)
  where
    go : (b : Bool) → IsPage x (cleared_to x e p) → IsPage x (cond b (clear_entry x e (cleared_to x e p)) (cleared_to x e p))
    go true k = page-done x e (cleared_to x e p) k
    go false k = k

-- no more than there are entries
pub count_most : (x : Xlen) (e : ℕ) (p : List ℕ) → cleared_count x e p ≤ e
unfolding cleared_count
count_most x zero p = omega arith
count_most x (suc e) p = go (is_pending x (cleared_to x e p) e) (count_most x e p)
  where
    go : (b : Bool) → cleared_count x e p ≤ e → cleared_count x e p + cond b 1 0 ≤ suc e
    go true h = omega arith
    go false h = omega arith

-- ---- all of it

module _ (x : Xlen) (page t : List ℕ) (g : IsPage x page) (h : Hart) where
  abbrev start : State
  start = state_from h page t

  abbrev end : State
  end = turns x (map Pending (every_entry x)) start

  -- the pass and the clearing are the turns
  pub served : {page' t' : List ℕ} → Swept x page t (slot_count t) t' → page' ≡ cleared_to x (entry_count (bytes x)) page → state_from h page' t' ≡ end
  served {page'} {t'} s c =
      ap (λ (k : Hart). state_from k page' t') (sym (turns-hart x (every_entry x) start))
      ∙ ap (λ (p : List ℕ). state_from end.hart p t') (c ∙ sym (page-turned x (entry_count (bytes x)) start))
      ∙ ap (state_from end.hart end.page) (swept_all x page t g s h)

  -- in as many steps
  pub served-steps : (removed cleared : ℕ) {t' : List ℕ} → Swept x page t (slot_count t) t' → removed + used_slots t' ≡ used_slots t → cleared ≡ cleared_count x (entry_count (bytes x)) page
      → removed + cleared ≡ total x (map Pending (every_entry x)) start
  served-steps removed cleared s r c =
      omega (arith, r, c, steps-counted x (entry_count (bytes x)) start, ap used_slots (swept_all x page t g s h))

  -- with none pending there is nothing to do
  pub none-pending : {first : ℕ} → NextPending x page 0 (entry_count (bytes x)) first → first ≡ entry_count (bytes x) → (start ≡ end) × (0 ≡ total x (map Pending (every_entry x)) start)
  none-pending n e =
      let k = clear-start x page n in
      let same : end ≡ start = turns-idle x (every_entry x) start (λ d m. n.passed d (omega arith) (omega (arith, every-below x d m, e))) in
      (sym same, omega (arith, steps-counted x (entry_count (bytes x)) start, ap (λ (s : State). used_slots s.table) same, k.1, ap (λ (m : ℕ). cleared_count x m page) e))

-- as one statement
pub all-served : (x : Xlen) (page t : List ℕ) → IsPage x page → length t ≤ 1024 → (removed cleared : ℕ) {page' t' : List ℕ} → Swept x page t (slot_count t) t'
    → removed + used_slots t' ≡ used_slots t → page' ≡ cleared_to x (entry_count (bytes x)) page → cleared ≡ cleared_count x (entry_count (bytes x)) page
    → AllServed x page t page' t' (removed + cleared)
all-served x page t g l removed cleared s r c k =
    record {
      state = λ h. served x page t g h s c;
      steps = λ h. served-steps x page t g h removed cleared s r k;
      few = omega (arith, r, k, count_most x (entry_count (bytes x)) page, length-named everything t);
    }

pub none-served : (x : Xlen) (page t : List ℕ) → IsPage x page → {first : ℕ} → NextPending x page 0 (entry_count (bytes x)) first → first ≡ entry_count (bytes x)
    → AllServed x page t page t 0
none-served x page t g n e = record { state = λ h. (none-pending x page t g h n e).0; steps = λ h. (none-pending x page t g h n e).1; few = omega arith }

-- ---- one pending entry

module _ (x : Xlen) (page t : List ℕ) (g : IsPage x page) (e : ℕ) (o : OnlyPending x page e) where
  -- the slots that are named are those that it names
  only-names : (i : ℕ) → names_slot (fence_at x page e) t i ≡ pending_names x page (entry_count (bytes x)) t i
  only-names i = iff (names_slot (fence_at x page e) t i) (pending_names x page (entry_count (bytes x)) t i) to from
    where
      name : ℕ → Bool
      name d = is_pending x page d && names_slot (fence_at x page d) t i

      to : names_slot (fence_at x page e) t i ≡ true → any_below name (entry_count (bytes x)) ≡ true
      to q = any_found name (entry_count (bytes x)) e o.below (and_intro (is_pending x page e) (names_slot (fence_at x page e) t i) o.pending q)

      from : any_below name (entry_count (bytes x)) ≡ true → names_slot (fence_at x page e) t i ≡ true
      from q =
          let (d, h, s) = any_some name (entry_count (bytes x)) q in
          let (p, m) = both (is_pending x page d) (names_slot (fence_at x page d) t i) s in
          ap (λ (k : ℕ). names_slot (fence_at x page k) t i) (sym (o.others d h p)) ∙ m

  pub one-swept : Swept x page t (slot_count t) (remove_named (fence_at x page e) t)
  one-swept =
      swept x page t g (slot_count t) (omega arith)
      (record {
        size = c.size;
        words = λ n. c.words n ∙ ap (λ (b : Bool). cond (ltb (n / 4) (slot_count t) && b) 0 (get_or t n 0)) (only-names (n / 4));
      })
    where
      c : Cleared (λ j. ltb j (slot_count t) && names_slot (fence_at x page e) t j) t (remove_named (fence_at x page e) t)
      c = cleared-named (fence_at x page e) t

  -- and Pending is cleared once
  not-others : (k : ℕ) → k < entry_count (bytes x) → k ≢ e → is_pending x page k ≡ false
  not-others k h d = ⊎_elim (λ p. absurd (d (o.others k h p))) (λ n. n) (either (is_pending x page k))

  pub one-cleared : (clear_entry x e page ≡ cleared_to x (entry_count (bytes x)) page) × (1 ≡ cleared_count x (entry_count (bytes x)) page)
  one-cleared =
      let (page₀, count₀) = clear-start x page first in
      let (page₁, count₁) = clear-one x page e page₀ o.pending in
      let (page₂, count₂) = clear-on x page page₁ rest in
      (sym page₂, omega (arith, count₀, count₁, count₂))
    where
      first : NextPending x page 0 (entry_count (bytes x)) e
      first = record { from = omega arith; within = omega (arith, o.below); passed = λ k a b. not-others k (omega (arith, o.below)) (omega arith); found = λ h. o.pending }

      rest : NextPending x (clear_entry x e page) (e + 1) (entry_count (bytes x)) (entry_count (bytes x))
      rest =
          record {
            from = omega (arith, o.below);
            within = omega arith;
            passed = λ k a b. pending-other x e k page o.below b g (ne_eqb k e (omega arith)) ∙ not-others k b (omega arith);
            found = λ h. absurd (omega arith);
          }

-- the first pending entry is the only one, if none comes after it
pub only_one : (x : Xlen) (page : List ℕ) (e r : ℕ) → NextPending x page 0 (entry_count (bytes x)) e → e < entry_count (bytes x) → NextPending x page (e + 1) (entry_count (bytes x)) r
    → r ≡ entry_count (bytes x) → OnlyPending x page e
only_one x page e r n h m at = record { below = h; pending = n.found h; others = λ k b p. alone k b p }
  where
    alone : (k : ℕ) → k < entry_count (bytes x) → is_pending x page k ≡ true → k ≡ e
    alone k b p = go (ltb k e) (ltb e k) refl refl
      where
        go : (before after : Bool) → ltb k e ≡ before → ltb e k ≡ after → k ≡ e
        go true after l g = absurd (true≢false (sym p ∙ n.passed k (omega arith) (ltb-true k e l)))
        go false true l g = absurd (true≢false (sym p ∙ m.passed k (omega (arith, ltb-true e k g)) (omega (arith, at))))
        go false false l g = omega (arith, ltb-false k e l, ltb-false e k g)
