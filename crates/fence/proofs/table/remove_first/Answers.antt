-- `remove_first` meets its contract: the slots passed are those of the list of named slots below i, all removed and counted, and none is left out.
use Prim.Native.Nat.{ℕ, suc, ◌+◌, ◌-◌, ◌≤◌, ◌<◌, min}
use mathlib.Core.Bool.{true, false, cond}
use mathlib.Core.List.{List, [], ◌∷◌, ◌++◌, append-nil}
use mathlib.Core.Logic.{◌≢◌}
use mathlib.Core.Path.{◌≡◌, refl, sym, ap, ◌∙◌}
use native.Mathlib.Nat.{zero-add}
use native.Mathlib.Omega.{arith}
use lib.ListN.{length, take, length-append}
use lib.Seq.{take_at, take_all}
use Rattle.fence.specs.declared.entry.Fence.{Fence}
use Rattle.fence.specs.Slots.{slot_count}
use Rattle.fence.specs.Table.{names_slot, remove_slot, remove_slots, named_from, named}
use Rattle.fence.proofs.Cleared.{cleared-names}
use Rattle.fence.proofs.Named.{cleared-slots, remove_slots-append, named_past, named-split}
use Rattle.fence.proofs.Removal.{length-remove_slots}
use Rattle.fence.proofs.table.remove_first.Goals as goal
use Rattle.fence.proofs.table.remove_first.Goals.{then-names_slot+else-removed-limit, else-names_slot}
use Rattle.fence.proofs.table.remove_first.Invariants.{Passed}

-- the answer: the first `limit` named slots are removed, and how many that is
abbrev Removed : Fence → List ℕ → ℕ → List ℕ → ℕ → Type 0
Removed f t limit u removed = (u ≡ remove_slots t (take limit (named f t))) × (removed ≡ min limit (length (named f t)))

module _ (f : Fence) (t : List ℕ) where
  none : (limit : ℕ) → Passed f t limit t 0 0
  none limit = record { within = omega arith; table = refl; count = refl; room = omega arith }

  -- one slot more
  next : (i : ℕ) → named_from f t 0 (i + 1) ≡ named_from f t 0 i ++ cond (names_slot f t i) (i ∷ []) []
  next i = named-split f t i 1 0 ∙ rw zero-add

  module _ {limit : ℕ} {u : List ℕ} {removed i : ℕ} (p : Passed f t limit u removed i) where
    -- slot i is as it was
    same : names_slot f u i ≡ names_slot f t i
    same =
        rw (p.table, cleared-names (cleared-slots (named_from f t 0 i) t) f i, named_past f t i 0 i (omega arith))

    size : length u ≡ length t
    size = ap length p.table ∙ length-remove_slots t (named_from f t 0 i)

    kept : i < slot_count t → names_slot f u i ≡ false → Passed f t limit u removed (i + 1)
    kept h e =
        let all : named_from f t 0 (i + 1) ≡ named_from f t 0 i = next i ∙ rw (← same, e, append-nil) in
        record {
          within = omega arith;
          table = rw all p.table;
          count = rw all p.count;
          room = p.room;
        }

    module _ (h : i < slot_count t) (e : names_slot f u i ≡ true) where
      gone : removed ≢ limit → Passed f t limit (remove_slot u i) (removed + 1) (i + 1)
      gone d =
          let all : named_from f t 0 (i + 1) ≡ named_from f t 0 i ++ (i ∷ []) = next i ∙ rw (← same, e) in
          let k = p.count in
          let r = p.room in
          record {
            within = omega arith;
            table = rw (all, remove_slots-append, ← p.table);
            count = rw (all, length-append) (omega arith);
            room = omega arith;
          }

      full : removed ≡ limit → Removed f t limit u removed
      full d =
          let all : named f t ≡ named_from f t 0 i ++ (i ∷ named_from f t (i + 1) (slot_count t - i - 1)) = split in
          let k = p.count in (
            rw (all, take_at (named_from f t 0 i) _ limit (sym k ∙ d)) p.table,
            rw (all, length-append) (omega arith),
          )
        where
          split : named f t ≡ named_from f t 0 i ++ (i ∷ named_from f t (i + 1) (slot_count t - i - 1))
          split =
              let n : slot_count t ≡ i + suc (slot_count t - i - 1) = omega arith in
              ap (named_from f t 0) n ∙ named-split f t i (suc (slot_count t - i - 1)) 0 ∙ rw (zero-add, ← same, e)

    end : slot_count t ≤ i → Removed f t limit u removed
    end h =
        let b = p.within in
        let at : i ≡ slot_count t = omega arith in
        let k : removed ≡ length (named f t) = rw at at p.count in
        let r = p.room in
        (rw (take_all limit (named f t) (omega arith), ← at) p.table, omega arith)

pub loop-i-init : goal.loop-i-init
loop-i-init c = none _ _ _

pub returns-then-removed-limit : goal.returns-then-removed-limit
returns-then-removed-limit c = let r = full _ _ c.loop-i.invariant (omega arith) (sym c.names_slot.ensures ∙ c.if-names_slot.true) c.if-removed-limit.true in record { table_after = r.0; value = r.1 }

pub loop-i-preserved : goal.loop-i-preserved
loop-i-preserved c = let p = c.loop-i.invariant in
    let h : c.loop-i.i < slot_count c.args.table.now = omega arith in
    let e = sym c.names_slot.ensures in
    elim c.if-names_slot.branch [
      | then-names_slot+else-removed-limit w ↦ rw (w.table-is, w.removed-is, w.remove_slot.ensures) (gone _ _ p h (e ∙ w.if-names_slot.true) w.if-removed-limit.false)
      | else-names_slot w ↦ rw (w.table-is, w.removed-is) (kept _ _ p h (e ∙ w.if-names_slot.false))
    ]

pub returns : goal.returns
returns c = let r = end _ _ c.loop-i.invariant (omega arith) in record { table_after = r.0; value = r.1 }
