-- `sync::registers::turn` meets its contract: (A) and (B) if the register is dirty, then (C) and (D).
use mathlib.Core.Path.{◌≡◌, refl, sym, ◌∙◌, subst}
use mathlib.Core.Bool.{Bool, true, false}
use mathlib.Core.List.{List, [], ◌∷◌}
use Prim.Native.Nat.{ℕ, ◌+◌, ◌≤◌}
use native.Mathlib.Omega.{arith}
use lib.ListN.{take}
use Rattle.text.specs.Buffer.{Put}
use Rattle.text.specs.declared.Buffer.{Buffer}
use Rattle.layout.specs.declared.xlen.Xlen.{Xlen}
use Rattle.csr.specs.Csrs.{Csr, at_turn, followers}
use Rattle.hart.specs.declared.record.Hart.{Hart}
use Rattle.hart.specs.Dropped.{report_words}
use Rattle.page.specs.Registers.{IsPage, is_dirty}
use Rattle.page.proofs.Places.{dirty-is}
use Rattle.world.specs.State.{State, state_from}
use Rattle.turns.specs.Steps.{Write, Clear, Store, clean_stores, csr_steps, Made}
use Rattle.turns.specs.Reports.{reports}
use Rattle.turns.proofs.Kept.{made-page}
use Rattle.sync.proofs.Spoken.{said-clean, said-dirty}
use Rattle.sync.proofs.TurnParts.{turn-clean, turn-halt, turn-join}
use Rattle.sync.proofs.registers.turn.Goals as goal
use Rattle.sync.proofs.registers.turn.Goals.{then-is_dirty+in_ok-left, else-is_dirty}

-- (A) and (B) are made if the register is dirty: (C) and (D) from there end its turn, and what the turn says is said
record Ready (c : Csr) (h₁ : Hart) (page₁ : List ℕ) (n : ℕ) (told₁ : Buffer ℕ) (h : Hart) (page : List ℕ) (left : ℕ) (told : Buffer ℕ) : Type 0 where
  width : h.xlen ≡ h₁.xlen
  whole : IsPage h.xlen page
  rest : (table : List ℕ) (s : State) (l : ℕ) (b : Bool) → Made h.xlen (Store c ∷ clean_stores (followers c) page) (state_from h page table) left s l b
      → Made h₁.xlen (csr_steps c page₁) (state_from h₁ page₁ table) n s l b
  said : (table : List ℕ) → Put told₁ (report_words (reports h₁.xlen (take n (csr_steps c page₁)) (state_from h₁ page₁ table))) told
  few : told.at ≤ told₁.at + 2

module _ (c : Csr) (h₁ : Hart) (page₁ : List ℕ) (n : ℕ) (told₁ : Buffer ℕ) (g : IsPage h₁.xlen page₁) where
  clean : is_dirty page₁ c ≡ false → Ready c h₁ page₁ n told₁ h₁ page₁ n told₁
  clean d =
      record {
        width = refl;
        whole = g;
        rest = λ table s l b a. turn-clean h₁.xlen c d a;
        said = λ table. said-clean h₁.xlen c n (state_from h₁ page₁ table) d;
        few = omega arith;
      }

  dirty : (h : Hart) (page : List ℕ) (left : ℕ) (told : Buffer ℕ) → is_dirty page₁ c ≡ true
      → ((table : List ℕ) → Made h₁.xlen (Write c ∷ Clear c ∷ []) (state_from h₁ page₁ table) n (state_from h page table) left false) → h.xlen ≡ h₁.xlen
      → ((table : List ℕ) → Put told₁ (report_words (reports h₁.xlen (take n (Write c ∷ Clear c ∷ [])) (state_from h₁ page₁ table))) told)
      → told.at ≤ told₁.at + 2 → Ready c h₁ page₁ n told₁ h page left told
  dirty h page left told d made width said few =
      record {
        width = width;
        whole = subst (λ (x : Xlen). IsPage x page) (sym width) (made-page h₁.xlen (made []) g);
        rest = λ table s l b a.
            turn-join h₁.xlen c d (made table) refl g (subst (λ (x : Xlen). Made x (Store c ∷ clean_stores (followers c) page) (state_from h page table) left s l b) width a);
        said = λ table. said-dirty h₁.xlen c n (state_from h₁ page₁ table) d (said table);
        few = few;
      }

pub returns-in_err-left : goal.returns-in_err-left
returns-in_err-left c =
    let a = c.args in
    let h = a.hart.now in
    let e = c.in_err-left.ensures in
    let d = sym (dirty-is (at_turn a.t) a.page.now c.index-i.ensures.0 c.is_dirty.ensures) ∙ c.if-is_dirty.true in
    record {
      made = λ table. rw c.from_residual.ensures (turn-halt h.xlen (at_turn a.t) d (e.made table) refl);
      width = e.width;
      said = λ table. said-dirty h.xlen (at_turn a.t) a.limit (state_from h a.page.now table) d (e.said table);
      few = e.few;
    }

pub store_words-requires : goal.store_words-requires
store_words-requires c =
    let a = c.args in
    let h = a.hart.now in
    let marked = dirty-is (at_turn a.t) a.page.now c.index-i.ensures.0 c.is_dirty.ensures in
    let r : Ready (at_turn a.t) h a.page.now a.limit a.told.now c.if-is_dirty.hart c.if-is_dirty.page c.if-is_dirty.left c.if-is_dirty.told =
    elim c.if-is_dirty.branch [
      | then-is_dirty+in_ok-left w ↦
          let e = w.in_ok-left.ensures in
          rw (w.page-is, w.hart-is, w.left-is, w.told-is)
          (dirty (at_turn a.t) h a.page.now a.limit a.told.now c.requires.0 _ _ _ _ (sym marked ∙ w.if-is_dirty.true) e.made e.width e.said e.few)
      | else-is_dirty w ↦
          rw (w.page-is, w.hart-is, w.left-is, w.told-is)
          (clean (at_turn a.t) h a.page.now a.limit a.told.now c.requires.0 (sym marked ∙ w.if-is_dirty.false))
    ] in
    (c.index-i.ensures.0, r.whole)

pub returns : goal.returns
returns c =
    let a = c.args in
    let h = a.hart.now in
    let marked = dirty-is (at_turn a.t) a.page.now c.index-i.ensures.0 c.is_dirty.ensures in
    let r : Ready (at_turn a.t) h a.page.now a.limit a.told.now c.if-is_dirty.hart c.if-is_dirty.page c.if-is_dirty.left c.if-is_dirty.told =
    elim c.if-is_dirty.branch [
      | then-is_dirty+in_ok-left w ↦
          let e = w.in_ok-left.ensures in
          rw (w.page-is, w.hart-is, w.left-is, w.told-is)
          (dirty (at_turn a.t) h a.page.now a.limit a.told.now c.requires.0 _ _ _ _ (sym marked ∙ w.if-is_dirty.true) e.made e.width e.said e.few)
      | else-is_dirty w ↦
          rw (w.page-is, w.hart-is, w.left-is, w.told-is)
          (clean (at_turn a.t) h a.page.now a.limit a.told.now c.requires.0 (sym marked ∙ w.if-is_dirty.false))
    ] in
    record {
      made = λ table. r.rest table _ _ _ (c.store_words.ensures table);
      width = r.width;
      said = r.said;
      few = r.few;
    }
