-- `apply::kinds::store` meets its contract: a memory write writes the bytes behind the body's first word, a slot is the one that the body tells.
use Prim.Native.Nat.{◌-◌}
use native.Mathlib.Omega.{arith}
use lib.ListN.{length, take, drop, length-drop}
use lib.Seq.{take_all}
use Rattle.recording.proofs.Good.{good-bounds}
use Rattle.apply.specs.Effects.{memory_base, effect}
use Rattle.apply.proofs.EffectLaws.{is-written, is-placed}
use Rattle.apply.proofs.Lengths.{slot-length, slot-kind}
use Rattle.apply.proofs.kinds.store.Goals as goal

pub word-at-requires : goal.word-at-requires
word-at-requires c = (good-bounds _ _ c.requires.0).0

pub slice_bounds-write-start : goal.slice_bounds-write-start
slice_bounds-write-start c = (good-bounds _ _ c.requires.0).0

pub slice_bounds-write-count : goal.slice_bounds-write-count
slice_bounds-write-count c = (good-bounds _ _ c.requires.0).0

pub returns-in-Write : goal.returns-in-Write
unfolding effect
returns-in-Write c h = let a = c.args in
    let n = length a.body.now - 8 in
    let b = drop 8 a.body.now in
    rw (c.in-Write.is, ← c.word-at.ensures, ← take_all n b (simp length-drop (omega arith)))
    (is-written h memory_base a.memory.now a.table.now c.word-at.result (take n b) c.write.ensures)

-- the body of a slot is its index and four words
pub word-requires : goal.word-requires
word-requires c = omega (arith, slot-length _ _ c.requires.0 c.requires.1 c.in_default.not-Write)

pub word-requires-in_default : goal.word-requires-in_default
word-requires-in_default c = omega (arith, slot-length _ _ c.requires.0 c.requires.1 c.in_default.not-Write)

pub word-requires-in_default-2 : goal.word-requires-in_default-2
word-requires-in_default-2 c = omega (arith, slot-length _ _ c.requires.0 c.requires.1 c.in_default.not-Write)

pub word-requires-in_default-3 : goal.word-requires-in_default-3
word-requires-in_default-3 c = omega (arith, slot-length _ _ c.requires.0 c.requires.1 c.in_default.not-Write)

pub returns-in_default : goal.returns-in_default
unfolding effect
returns-in_default c h =
    let a = c.args in
    rw (
      slot-kind _ c.requires.1 c.in_default.not-Write,
      ← c.word-at.ensures,
      ← c.word.ensures,
      ← c.word-in_default.ensures,
      ← c.word-in_default-2.ensures,
      ← c.word-in_default-3.ensures,
    ) (is-placed h memory_base a.memory.now a.table.now c.word-at.result c.word.result c.word-in_default.result c.word-in_default-2.result
    c.word-in_default-3.result c.place.ensures)
