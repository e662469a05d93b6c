-- The parts of a register's turn, each from the state that the part before it left.
use Rattle.std.specs.Prelude.{Option, Some, None}
use mathlib.Core.Path.{◌≡◌, refl, sym, ap, ◌∙◌, subst}
use mathlib.Core.Bool.{Bool, true, false, cond}
use mathlib.Core.List.{List, [], ◌∷◌, ◌++◌}
use Prim.Native.Nat.{ℕ, ◌≤◌}
use native.Mathlib.Omega.{arith}
use lib.ListN.{length}
use Rattle.layout.specs.declared.xlen.Xlen.{Xlen}
use Rattle.csr.specs.Csrs.{Csr, at_turn, followers, turn_in, follower}
use Rattle.csr.proofs.Turns.{at_turn-turn_of, followers-short}
use Rattle.hart.specs.Registers.{read}
use Rattle.hart.proofs.Frame.{member as mem}
use Rattle.page.specs.Registers.{IsPage, is_dirty}
use Rattle.page.proofs.RegisterLaws.{page-put, dirty-put, dirty-clear-other}
use Rattle.world.specs.State.{State}
use Rattle.turns.specs.Turn.{write_from_word, clear_its_bit, store_reading}
use Rattle.turns.specs.Steps.{Step, Write, Clear, Store, after, run, clean_stores, csr_steps, Made}
use Rattle.turns.proofs.Model.{not-own-follower}
use Rattle.turns.proofs.Puts.{same_refl, mem-more}
use Rattle.turns.proofs.Closed.{apart}
use Rattle.turns.proofs.Holds.{laws}
use Rattle.turns.proofs.Made.{none, all_made, halt, join, same-steps}
use Rattle.sync.specs.Inner.{follower_steps}

-- the stores of D go by the followers' bits alone
stores-cong : (fs : List Csr) (p q : List ℕ) → ((f : Csr) → mem f fs ≡ true → is_dirty p f ≡ is_dirty q f) → clean_stores fs p ≡ clean_stores fs q
unfolding clean_stores
stores-cong [] p q e = refl
stores-cong (f ∷ fs) p q e = rw (e f (rw (same_refl f)), stores-cong fs p q (λ d m. e d (mem-more d f fs m)))

-- and so does that of one follower
follower-cong : (g : Option ℕ) (p q : List ℕ) → ((d : Csr) → is_dirty p d ≡ is_dirty q d) → follower_steps g p ≡ follower_steps g q
follower-cong (Some t) p q e = rw (e (at_turn t))
follower-cong None p q e = refl

-- the stores for two registers at most: the first's and the second's
stores-split : (fs : List Csr) (p : List ℕ) → length fs ≤ 2 → clean_stores fs p ≡ follower_steps (turn_in fs 0) p ++ follower_steps (turn_in fs 1) p
unfolding clean_stores
stores-split [] p le = refl
stores-split (f ∷ []) p le = rw (at_turn-turn_of f) (go (is_dirty p f))
  where
    go : (b : Bool) → cond b [] (Store f ∷ []) ≡ cond b [] (Store f ∷ []) ++ []
    go true = refl
    go false = refl
stores-split (f ∷ g ∷ []) p le = rw (at_turn-turn_of f, at_turn-turn_of g) (go (is_dirty p f))
  where
    go : (b : Bool) → cond b (cond (is_dirty p g) [] (Store g ∷ [])) (Store f ∷ cond (is_dirty p g) [] (Store g ∷ []))
        ≡ cond b [] (Store f ∷ []) ++ cond (is_dirty p g) [] (Store g ∷ [])
    go true = refl
    go false = refl
stores-split (f ∷ g ∷ h ∷ fs) p le = absurd (omega arith)

module _ (x : Xlen) (g : Option ℕ) (s : State) (n : ℕ) where
  -- the store of D for no follower
  pub follower-none : g ≡ None → Made x (follower_steps g s.page) s n s n false
  follower-none e = rw e (none x s n)

  -- for a dirty one
  pub follower-dirty : (t : ℕ) → g ≡ Some t → is_dirty s.page (at_turn t) ≡ true → Made x (follower_steps g s.page) s n s n false
  follower-dirty t e d = rw (e, d) (none x s n)

  -- for a clean one
  pub follower-clean : (t : ℕ) {s' : State} {l : ℕ} {b : Bool} → g ≡ Some t → is_dirty s.page (at_turn t) ≡ false
      → Made x (Store (at_turn t) ∷ []) s n s' l b → Made x (follower_steps g s.page) s n s' l b
  follower-clean t e d a = rw (e, d) a

-- a store keeps the bits, and the page a page
store-bits : (x : Xlen) (c d : Csr) (s : State) → IsPage x s.page → is_dirty (run x (Store c ∷ []) s).page d ≡ is_dirty s.page d
unfolding run after store_reading
store-bits x c d s g = dirty-put x c d (read c s.hart) s.page g

store-page : (x : Xlen) (c : Csr) (s : State) → IsPage x s.page → IsPage x (run x (Store c ∷ []) s).page
unfolding run after store_reading
store-page x c s g = page-put x c (read c s.hart) s.page g

-- so does the store for a follower
follower-bits : (x : Xlen) (f : Option ℕ) (p : List ℕ) (d : Csr) (s : State) → IsPage x s.page → is_dirty (run x (follower_steps f p) s).page d ≡ is_dirty s.page d
unfolding run
follower-bits x (Some t) p d s g = go (is_dirty p (at_turn t))
  where
    go : (b : Bool) → is_dirty (run x (cond b [] (Store (at_turn t) ∷ [])) s).page d ≡ is_dirty s.page d
    go true = refl
    go false = store-bits x (at_turn t) d s g
follower-bits x None p d s g = refl

module _ (x : Xlen) (t : ℕ) {s s₁ : State} {n l₁ : ℕ} {b₁ : Bool} (g : IsPage x s.page) (own : Made x (Store (at_turn t) ∷ []) s n s₁ l₁ b₁) where
  -- (C) and (D), stopped at (C)
  pub words-halt : b₁ ≡ true → Made x (Store (at_turn t) ∷ clean_stores (followers (at_turn t)) s.page) s n s₁ l₁ b₁
  words-halt o = halt x own (clean_stores (followers (at_turn t)) s.page) o

  -- a register without followers: (C) is all
  pub words-alone : followers (at_turn t) ≡ [] → Made x (Store (at_turn t) ∷ clean_stores (followers (at_turn t)) s.page) s n s₁ l₁ b₁
  unfolding clean_stores
  words-alone e = rw e own

  module _ (o₁ : b₁ ≡ false) {g₁ : Option ℕ} {s₂ : State} {l₂ : ℕ} {b₂ : Bool} (e₁ : g₁ ≡ follower t 0)
      (first : Made x (follower_steps g₁ s₁.page) s₁ l₁ s₂ l₂ b₂) where
    bits₁ : (d : Csr) → is_dirty s₁.page d ≡ is_dirty s.page d
    bits₁ d = ap (λ (r : State). is_dirty r.page d) (all_made x own o₁) ∙ store-bits x (at_turn t) d s g

    page₁ : IsPage x s₁.page
    page₁ = subst (λ (r : State). IsPage x r.page) (sym (all_made x own o₁)) (store-page x (at_turn t) s g)

    first-is : follower_steps g₁ s₁.page ≡ follower_steps (follower t 0) s.page
    first-is = rw e₁ (follower-cong (follower t 0) s₁.page s.page bits₁)

    both : Store (at_turn t) ∷ clean_stores (followers (at_turn t)) s.page
        ≡ Store (at_turn t) ∷ (follower_steps (follower t 0) s.page ++ follower_steps (follower t 1) s.page)
    both = rw (stores-split (followers (at_turn t)) s.page (followers-short (at_turn t)))

    -- stopped at the first follower's store
    pub words-halt-first : b₂ ≡ true → Made x (Store (at_turn t) ∷ clean_stores (followers (at_turn t)) s.page) s n s₂ l₂ b₂
    words-halt-first o = same-steps x (sym both) (join x own o₁ (halt x (same-steps x first-is first) (follower_steps (follower t 1) s.page) o))

    -- (C), the first follower's store, then the second's
    pub words-join : b₂ ≡ false → {g₂ : Option ℕ} {s₃ : State} {l₃ : ℕ} {b₃ : Bool} → g₂ ≡ follower t 1
        → Made x (follower_steps g₂ s₂.page) s₂ l₂ s₃ l₃ b₃ → Made x (Store (at_turn t) ∷ clean_stores (followers (at_turn t)) s.page) s n s₃ l₃ b₃
    words-join o₂ {g₂} e₂ second = same-steps x (sym both) (join x own o₁ (join x (same-steps x first-is first) o₂ (same-steps x second_is second)))
      where
        bits₂ : (d : Csr) → is_dirty s₂.page d ≡ is_dirty s.page d
        bits₂ d = ap (λ (r : State). is_dirty r.page d) (all_made x first o₂) ∙ follower-bits x g₁ s₁.page d s₁ page₁ ∙ bits₁ d

        second_is : follower_steps g₂ s₂.page ≡ follower_steps (follower t 1) s.page
        second_is = rw e₂ (follower-cong (follower t 1) s₂.page s.page bits₂)

-- the turn of a clean register: (C) and (D)
pub turn-clean : (x : Xlen) (c : Csr) {s s' : State} {n l : ℕ} {b : Bool} → is_dirty s.page c ≡ false
    → Made x (Store c ∷ clean_stores (followers c) s.page) s n s' l b → Made x (csr_steps c s.page) s n s' l b
unfolding csr_steps
turn-clean x c d a = rw d a

module _ (x : Xlen) (c : Csr) {s s₁ : State} {n l₁ : ℕ} {b₁ : Bool} (d : is_dirty s.page c ≡ true) (served : Made x (Write c ∷ Clear c ∷ []) s n s₁ l₁ b₁) where
  -- the turn of a dirty register, stopped in (A) and (B)
  pub turn-halt : b₁ ≡ true → Made x (csr_steps c s.page) s n s₁ l₁ b₁
  unfolding csr_steps
  turn-halt o = rw d (halt x served (Store c ∷ clean_stores (followers c) s.page) o)

  -- (A) and (B), then (C) and (D)
  pub turn-join : b₁ ≡ false → {s₂ : State} {l₂ : ℕ} {b₂ : Bool} → IsPage x s.page
      → Made x (Store c ∷ clean_stores (followers c) s₁.page) s₁ l₁ s₂ l₂ b₂ → Made x (csr_steps c s.page) s n s₂ l₂ b₂
  unfolding csr_steps run after write_from_word clear_its_bit
  turn-join o₁ g a = rw d (join x served o₁ (same-steps x (ap (λ (xs : List Step). Store c ∷ xs) (stores-cong (followers c) s₁.page s.page bits)) a))
    where
      bits : (f : Csr) → mem f (followers c) ≡ true → is_dirty s₁.page f ≡ is_dirty s.page f
      bits f m =
          ap (λ (r : State). is_dirty r.page f) (all_made x served o₁)
          ∙ dirty-clear-other x c f s.page g (apart x (laws x) c f (followers c) (not-own-follower c) m)
