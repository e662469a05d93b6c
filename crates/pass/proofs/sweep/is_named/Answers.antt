-- `is_named` meets its contract: the words of a used slot are its part of the table, and outside of the span nothing passes.
use mathlib.Core.Path.{◌≡◌, refl, sym, ap, ◌∙◌}
use mathlib.Core.Bool.{Bool, true, false}
use mathlib.Core.List.{List}
use Prim.Native.Nat.{ℕ, ◌+◌, ◌-◌, ◌*◌, ◌<◌}
use native.Mathlib.Omega.{arith}
use borrow.Author.Tests.{eq-eqb}
use lib.ListN.{get_or, take, drop}
use lib.Seq.{get_or-take, get_or-drop}
use Rattle.fence.specs.Slots.{slot_word, used}
use Rattle.pass.specs.declared.bounds.Span.{Span}
use Rattle.pass.specs.declared.bounds.Test.{Test}
use Rattle.pass.specs.Inner.{who, within, passes_any_by, passes_any, Around, named_by}
use Rattle.pass.proofs.SweepLaws.{around-outside}
use Rattle.pass.proofs.sweep.is_named.Goals as goal

-- word k of the part of the table that is slot i
abbrev part : ℕ → List ℕ → ℕ → ℕ
part i t k = get_or (take (4 * i + 4 - 4 * i) (drop (4 * i) t)) k 0

part-word : (i : ℕ) (t : List ℕ) (k : ℕ) → k < 4 → part i t k ≡ slot_word t i k
part-word i t k h = get_or-take (4 * i + 4 - 4 * i) (drop (4 * i) t) k 0 (omega arith) ∙ get_or-drop (4 * i) t k 0

-- what is found of the part is found of the slot
module _ (ts : List Test) (i : ℕ) (t : List ℕ) {whose : ℕ} (u : used (part i t 0) ≡ true) (w : whose ≡ who (part i t 0)) where
  same : passes_any ts (part i t 0) (part i t 1) (part i t 2) ≡ named_by ts t i
  same =
      rw (sym (part-word i t 0 (omega arith)), sym (part-word i t 1 (omega arith)), sym (part-word i t 2 (omega arith)), u) refl

  searched : {b : Bool} → b ≡ passes_any_by ts whose (part i t 1) (part i t 2) → b ≡ named_by ts t i
  searched e = e ∙ ap (λ (v : ℕ). passes_any_by ts v (part i t 1) (part i t 2)) w ∙ same

  outside : {b : Bool} (s : Span) → Around ts s → b ≡ within s.low s.last whose → b ≡ false → b ≡ named_by ts t i
  outside s a e f = f ∙ sym (around-outside ts s a (part i t 0) (part i t 1) (part i t 2) (ap (within s.low s.last) (sym w) ∙ sym e ∙ f)) ∙ same

pub returns-then-contains : goal.returns-then-contains
returns-then-contains c =
    let a = c.args in
    searched a.tests.now a.i a.table.now (eq-eqb _ 1 c.if-slot-ne1.false) c.who_in-who.ensures c.passes_any.ensures

pub returns-else-contains : goal.returns-else-contains
returns-else-contains c =
    let a = c.args in
    outside a.tests.now a.i a.table.now (eq-eqb _ 1 c.if-slot-ne1.false) c.who_in-who.ensures a.span c.requires.0 c.contains.ensures c.if-contains.false
