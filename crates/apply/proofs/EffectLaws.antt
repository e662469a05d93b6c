-- What the code of a record gives back is the record's effect.
use mathlib.Core.Path.{◌≡◌, refl, ap, ap₂, ◌∙◌}
use mathlib.Core.Bool.{Bool, true, false, cond}
use mathlib.Core.List.{List, []}
use Prim.Native.Nat.{ℕ, ◌+◌, ◌-◌}
use lib.Dec.{leb, ltb}
use lib.ListN.{length}
use Rattle.text.specs.Buffer.{Wrote}
use Rattle.text.proofs.Writing.{wrote_nothing}
use Rattle.hart.specs.declared.record.Hart.{Hart}
use Rattle.hart.specs.declared.trap.Trap.{Trap}
use Rattle.hart.specs.Dropped.{Report, report_words}
use Rattle.fence.specs.Slots.{slot_count}
use Rattle.world.specs.Memory.{with_part}
use Rattle.world.specs.World.{World, width, lent}
use Rattle.std.specs.Prelude.{Ok, Err}
use Rattle.checks.specs.declared.answer.Success.TheVariants.{Value}
use Rattle.checks.specs.declared.answer.Refusal.TheVariants.{InvalidAddress}
use Rattle.checks.specs.Codes.{Answer}
use Rattle.checks.specs.declared.answer.Outcome.{Outcome}
use Rattle.checks.specs.Checks.{cut}
use Rattle.nacl.specs.Calls.{CallOn}
use Rattle.nacl.specs.Lines.{LineIs}
use Rattle.nacl.specs.Traps.{TrapOn}
use Rattle.apply.specs.Used.{used_count}
use Rattle.apply.specs.Effects.{Effect, plain, said, call_effect, write_effect, lines_effect, with_slot, slot_effect, trap_effect, Has}
use Rattle.apply.specs.declared.Applied.{Applied}

-- this answer and this hart, no step, no fence and nothing told
abbrev pub Plain : Answer → Hart → Applied → Type 0
Plain a h r = (r.answer ≡ a) × (r.hart ≡ h) × (r.steps ≡ 0) × (r.removed ≡ 0) × (r.told ≡ 0)

-- an effect with no step and no fence
has-plain : {a b : Answer} {h : Hart} {r : Applied} {base : ℕ} {memory table : List ℕ} {w : World}
    → Plain a h r → a ≡ b → lent h base memory table ≡ w → Has (plain b w) base r memory table
has-plain {base = base} {memory = memory} {table = table} p e l =
    record { answer = p.0 ∙ e; steps = p.2; removed = p.3; world = ap (λ (x : Hart). lent x base memory table) p.1 ∙ l }

-- ---- what nacl does

module _ (w : World) {o : Outcome} {memory out out' : List ℕ} where
  -- a call
  pub has-called : (eid fid a0 a1 a2 : ℕ) {table : List ℕ} {before after removed : ℕ} → CallOn eid fid a0 a1 a2 w o memory table out out'
      → before ≡ used_count w.table → after ≡ used_count table → removed ≡ before - after
      → let x = width w in
      Has (call_effect (cut x eid) (cut x fid) (cut x a0) (cut x a1) (cut x a2) w) w.base
      (record { answer = o.answer; hart = o.hart; steps = o.steps; removed = removed; told = o.told }) memory table
  has-called eid fid a0 a1 a2 k b e m =
      record {
        answer = k.answer.same;
        steps = k.steps;
        removed = m ∙ ap₂ ◌-◌ b (e ∙ ap (λ (v : World). used_count v.table) k.world);
        world = k.world;
      }

  -- a trap back
  pub has-trap : (t : Trap) (told : ℕ) {r : Applied} → Plain o.answer o.hart r → TrapOn t w o memory out out'
      → Has (trap_effect t w) w.base (record r { told = told }) memory w.table
  has-trap t told p k =
      record {
        answer = p.0 ∙ k.answer.same;
        steps = p.2;
        removed = p.3;
        world = ap (λ (x : Hart). lent x w.base memory w.table) p.1 ∙ k.world;
      }

-- a line change
pub has-lines : (w : World) {o : Outcome} {memory : List ℕ} {r : Applied} → Plain o.answer o.hart r → (lines : ℕ) → LineIs lines w o memory
    → Has (lines_effect lines w) w.base r memory w.table
has-lines w p lines k = has-plain p k.answer.same k.world

-- ---- what the recording does by itself

-- a store, which changes one part of the world if there is such a place
is-stored : (part : List ℕ → World) (there here : List ℕ) (ok : Bool)
    → cond ok (plain (Ok (Value 0)) (part there)) (plain (Err InvalidAddress) (part here)) ≡ plain (said ok) (part (cond ok there here))
is-stored part there here true = refl
is-stored part there here false = refl

module _ (h : Hart) (base : ℕ) (memory table : List ℕ) {a : Answer} {left : List ℕ} where
  -- a memory write
  pub is-written : (at : ℕ) (bytes : List ℕ) → let fits = leb (at + length bytes) (length memory) in
      (a ≡ said fits) × (left ≡ cond fits (with_part (length bytes) at bytes memory) memory)
      → write_effect at bytes (lent h base memory table) ≡ plain a (lent h base left table)
  unfolding write_effect
  is-written at bytes e = rw (e.0, e.1) (is-stored (λ m. lent h base m table) (with_part (length bytes) at bytes memory) memory _)

  -- a slot placed
  pub is-placed : (i b c d e : ℕ) → let there = ltb i (slot_count table) in
      (a ≡ said there) × (left ≡ cond there (with_slot i b c d e table) table)
      → slot_effect i b c d e (lent h base memory table) ≡ plain a (lent h base memory left)
  unfolding slot_effect
  is-placed i b c d e f = rw (f.0, f.1) (is-stored (λ t. lent h base memory t) (with_slot i b c d e table) table _)

-- what such an effect gives, with the hart as it was
pub has-stored : {e : Effect} {a : Answer} {h : Hart} {r : Applied} {base : ℕ} {memory table : List ℕ}
    → e ≡ plain a (lent h base memory table) → Plain a h r → Has e base r memory table
has-stored e p = rw e (has-plain p refl refl)

-- such an effect says nothing
pub quiet-stored : {e : Effect} {a : Answer} {w : World} → e ≡ plain a w → e.reports ≡ []
quiet-stored e = ap (λ (x : Effect). x.reports) e

-- with nothing to say, nothing is written
pub untold : (out : List ℕ) {rs : List Report} {n : ℕ} → rs ≡ [] → n ≡ 0 → Wrote out 0 (report_words rs) out n
untold out e z = rw (e, z) (wrote_nothing out 0)
