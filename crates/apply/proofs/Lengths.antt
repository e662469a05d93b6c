-- A body of a good length is as long as its kind wants.
use mathlib.Core.Path.{◌≡◌, refl}
use mathlib.Core.Bool.{true}
use Prim.Native.Nat.{ℕ}
use borrow.Author.Tests.{eqb-true}
use Rattle.recording.specs.declared.kinds.Kind.{Kind}
use Rattle.recording.specs.declared.kinds.Kind.TheVariants.{Call, Write, Lines, Slot, Trap}
use Rattle.recording.specs.Format.{good_length, is_store}
use Rattle.recording.specs.Kinds.{number}

module _ (kind : Kind) (n : ℕ) (g : good_length (number kind) n ≡ true) where
  pub call_length : kind ≡ Call → n ≡ 40
  unfolding good_length
  call_length e = eqb-true n 40 (rw e at g)

  pub lines-length : kind ≡ Lines → n ≡ 8
  unfolding good_length
  lines-length e = eqb-true n 8 (rw e at g)

  pub trap-length : kind ≡ Trap → n ≡ 40
  unfolding good_length
  trap-length e = eqb-true n 40 (rw e at g)

-- a store that is no memory write is a slot
pub slot-kind : (kind : Kind) → is_store (number kind) ≡ true → (kind ≡ Write → ⊥) → kind ≡ Slot
slot-kind Call s n = cc
slot-kind Write s n = absurd (n refl)
slot-kind Lines s n = cc
slot-kind Slot s n = refl
slot-kind Trap s n = cc

pub slot-length : (kind : Kind) (n : ℕ) → good_length (number kind) n ≡ true → is_store (number kind) ≡ true → (kind ≡ Write → ⊥) → n ≡ 40
unfolding good_length
slot-length kind n g s w = eqb-true n 40 (rw (slot-kind kind s w) at g)
