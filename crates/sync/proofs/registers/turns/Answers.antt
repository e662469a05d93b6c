-- `sync::registers::turns` meets its contract: the turns of the registers passed are made, no step was left, and what they said stands in the
-- buffer.
use mathlib.Core.Path.{◌≡◌, refl, sym, ap, ◌∙◌, subst}
use mathlib.Core.Bool.{Bool, false}
use mathlib.Core.List.{List, [], ◌∷◌}
use Prim.Native.Nat.{ℕ, ◌+◌, ◌-◌, ◌≤◌}
use native.Mathlib.Omega.{arith}
use borrow.Author.Tests.{ne_eqb}
use lib.Dec.{eqb}
use lib.ListN.{take}
use Rattle.text.specs.Buffer.{Put}
use Rattle.text.specs.declared.Buffer.{Buffer}
use Rattle.layout.specs.declared.xlen.Xlen.{Xlen}
use Rattle.csr.specs.Csrs.{Csr, at_turn}
use Rattle.hart.specs.declared.record.Hart.{Hart}
use Rattle.hart.specs.Dropped.{report_words}
use Rattle.page.specs.Registers.{IsPage}
use Rattle.world.specs.State.{state_from}
use Rattle.turns.specs.Marks.{Dirty}
use Rattle.turns.specs.Steps.{csr_steps, steps, Made}
use Rattle.turns.specs.Reports.{reports}
use Rattle.turns.proofs.Kept.{made-page}
use Rattle.sync.specs.Turns.{dirty_at_turn, marks_from}
use Rattle.sync.proofs.Choice.{first, second}
use Rattle.sync.proofs.Loops.{at-start, one_more, none_more, no_more, at-end}
use Rattle.sync.proofs.Spoken.{Said, said-none, said_more, said-no-mark, said-stopped, said_all}
use Rattle.sync.proofs.registers.turns.Goals as goal
use Rattle.sync.proofs.registers.turns.Goals.{then-had-t-eq1+in-Some, else-had-t-eq1}
use Rattle.sync.proofs.registers.turns.Invariants.{Passed}

module _ (h₀ : Hart) (page₀ : List ℕ) (told₀ : Buffer ℕ) (from limit k : ℕ) {h : Hart} {page : List ℕ} {left : ℕ} {told : Buffer ℕ}
    (b : Passed h₀ page₀ told₀ from limit k h page left told) where
  -- a register that the width lacks has no turn
  lacked : dirty_at_turn h₀.xlen (from + k) ≡ [] → Passed h₀ page₀ told₀ from limit (k + 1) h page left told
  lacked none =
      record {
        width = b.width;
        whole = b.whole;
        few = omega (arith, b.few);
        made = λ table. none_more h₀.xlen (dirty_at_turn h₀.xlen) from k (b.made table) none;
        said = λ table. said-no-mark h₀.xlen (dirty_at_turn h₀.xlen) from k (b.made table) (b.said table) none;
      }

  -- one register's turn more
  module _ (g : IsPage h₀.xlen page₀) (c : Csr) (had : dirty_at_turn h₀.xlen (from + k) ≡ Dirty c ∷ []) {h' : Hart} {page' : List ℕ} {left' : ℕ} {stopped : Bool}
      {told' : Buffer ℕ} (made : (table : List ℕ) → Made h.xlen (csr_steps c page) (state_from h page table) left (state_from h' page' table) left' stopped)
      (said : (table : List ℕ) → Put told (report_words (reports h.xlen (take left (csr_steps c page)) (state_from h page table))) told') where
    made' : (table : List ℕ) → Made h₀.xlen (csr_steps c page) (state_from h page table) left (state_from h' page' table) left' stopped
    made' table = subst (λ (x : Xlen). Made x (csr_steps c page) (state_from h page table) left (state_from h' page' table) left' stopped) b.width (made table)

    turned : (table : List ℕ) → Made h₀.xlen (steps h₀.xlen (marks_from (dirty_at_turn h₀.xlen) from (k + 1)) (state_from h₀ page₀ table))
        (state_from h₀ page₀ table) limit (state_from h' page' table) left' stopped
    turned table = one_more h₀.xlen (dirty_at_turn h₀.xlen) from k (b.made table) (Dirty c) had g refl (made' table)

    spoken : (table : List ℕ) → Said h₀.xlen (dirty_at_turn h₀.xlen) from (k + 1) (state_from h₀ page₀ table) limit told₀ told'
    spoken table =
        said_more h₀.xlen (dirty_at_turn h₀.xlen) from k (b.made table) (b.said table) c had g refl
        (subst (λ (x : Xlen). Put told (report_words (reports x (take left (csr_steps c page)) (state_from h page table))) told') b.width (said table))

    passed : h'.xlen ≡ h.xlen → told'.at ≤ told.at + 2 → stopped ≡ false → Passed h₀ page₀ told₀ from limit (k + 1) h' page' left' told'
    passed width few o =
        record {
          width = width ∙ b.width;
          whole = made-page h₀.xlen (made' []) b.whole;
          few = omega (arith, few, b.few);
          made = λ table. rw o at (turned table);
          said = spoken;
        }

pub loop-t-init : goal.loop-t-init
loop-t-init c =
    let a = c.args in
    let h = a.h in
    subst (λ (k : ℕ). Passed h a.page.now a.told.now a.first a.limit k h a.page.now a.limit a.told.now) {x = 0} (omega arith)
    (record {
      width = refl;
      whole = c.requires.1;
      few = omega arith;
      made = λ table. at-start h.xlen (dirty_at_turn h.xlen) a.first (state_from h a.page.now table) a.limit;
      said = λ table. said-none h.xlen (dirty_at_turn h.xlen) a.first (state_from h a.page.now table) a.limit a.told.now;
    })

pub turn-requires : goal.turn-requires
turn-requires c =
    let b = c.loop-t.invariant in
    (subst (λ (x : Xlen). IsPage x c.loop-t.page) (sym b.width) b.whole, omega (arith, b.few, c.requires.0))

pub returns-in_default : goal.returns-in_default
returns-in_default c =
    let a = c.args in
    let b = c.loop-t.invariant in
    let k = c.loop-t.t - a.first in
    let t : a.first + k ≡ c.loop-t.t = omega arith in
    let bit = c.turns_had-had.ensures c.loop-t.t (omega (arith, c.requires.0)) in
    let had = ap (dirty_at_turn a.h.xlen) t ∙ sym (first _ _ bit (ap (λ (n : ℕ). eqb n 1) c.if-had-t-eq1.true)) in
    let made = turned a.h a.page.now a.told.now a.first a.limit k b c.requires.1 (at_turn c.loop-t.t) had c.in_default.ensures.made c.in_default.ensures.said in
    let said = spoken a.h a.page.now a.told.now a.first a.limit k b c.requires.1 (at_turn c.loop-t.t) had c.in_default.ensures.made c.in_default.ensures.said in (
      λ table. no_more a.h.xlen (dirty_at_turn a.h.xlen) a.first (k + 1) (made table) a.count (omega arith) refl,
      λ table. said-stopped a.h.xlen (dirty_at_turn a.h.xlen) a.first (k + 1) (made table) (said table) a.count (omega arith) refl,
    )

pub loop-t-preserved : goal.loop-t-preserved
loop-t-preserved c =
    let a = c.args in
    let b = c.loop-t.invariant in
    let k = c.loop-t.t - a.first in
    let t : a.first + k ≡ c.loop-t.t = omega arith in
    let e : k + 1 ≡ c.loop-t.t + 1 - a.first = omega arith in
    let bit = c.turns_had-had.ensures c.loop-t.t (omega (arith, c.requires.0)) in
    rw (← e)
    (elim c.if-had-t-eq1.branch [
      | then-had-t-eq1+in-Some w ↦
          let had = ap (dirty_at_turn a.h.xlen) t ∙ sym (first _ _ bit (ap (λ (n : ℕ). eqb n 1) w.if-had-t-eq1.true)) in
          rw (w.page-is, w.hart-is, w.left-is, w.told-is)
          (passed a.h a.page.now a.told.now a.first a.limit k b c.requires.1 (at_turn c.loop-t.t) had w.in-Some.ensures.made w.in-Some.ensures.said w.in-Some.ensures.width w.in-Some.ensures.few refl)
      | else-had-t-eq1 w ↦
          let none = ap (dirty_at_turn a.h.xlen) t ∙ sym (second _ _ bit (ne_eqb _ 1 w.if-had-t-eq1.false)) in
          rw (w.page-is, w.hart-is, w.left-is, w.told-is) (lacked a.h a.page.now a.told.now a.first a.limit k b none)
    ])

pub returns : goal.returns
returns c =
    let a = c.args in
    let b = c.loop-t.invariant in
    let k = c.loop-t.t - a.first in
    let e : a.count ≡ k = omega arith in (
      λ table. at-end a.h.xlen (dirty_at_turn a.h.xlen) a.first k (b.made table) a.count e,
      λ table. said_all a.h.xlen (dirty_at_turn a.h.xlen) a.first k (b.made table) (b.said table) a.count e,
    )
