-- What each kind of record does in a replay (02, Req 05 and 07): its answer, its steps, the slots that fences removed, the world that it leaves, and
-- what its register writes say.
use Rattle.std.specs.Prelude.{◌≡◌, Bool, cond, Ok, Err, List, [], ℕ, ◌+◌, ◌-◌, ◌*◌, ◌%◌, eqb, leb, ltb, length, drop, set}
use Rattle.hart.specs.declared.trap.Trap.{Trap}
use Rattle.hart.specs.Dropped.{Report}
use Rattle.fence.specs.Slots.{slot_count}
use Rattle.world.specs.Memory.{with_part}
use Rattle.world.specs.World.{World, width, lent}
use Rattle.checks.specs.declared.answer.Success.TheVariants.{Value}
use Rattle.checks.specs.declared.answer.Refusal.TheVariants.{InvalidAddress}
use Rattle.checks.specs.Codes.{Answer}
use Rattle.checks.specs.Checks.{cut, call_answer}
use Rattle.nacl.specs.Calls.{call_left, call_steps, call_reports, call_counted}
use Rattle.nacl.specs.Lines.{line_answer, line_left}
use Rattle.nacl.specs.Traps.{cut_trap, trap_answer, trap_reports, trap_counted}
use Rattle.recording.specs.Format.{body_word}
use Rattle.apply.specs.Used.{used_count}
use Rattle.apply.specs.declared.Applied.{Applied}

-- the physical address of memory's first byte
abbrev pub memory_base : ℕ
memory_base = 0x80000000

-- what a record does
pub record Effect : Type 0 where
  pub answer : Answer
  pub steps : ℕ
  pub removed : ℕ
  pub world : World
  pub reports : List Report

-- a record that makes no step and no fence, and whose register writes say nothing
abbrev pub plain : Answer → World → Effect
plain a w = record { answer = a; steps = 0; removed = 0; world = w; reports = [] }

-- success, or -5 where there is no such place
abbrev pub said : Bool → Answer
said there = cond there (Ok (Value 0)) (Err InvalidAddress)

-- kind 1: a call with this EID, FID and arguments; the slots removed are the used ones before less those after
abbrev pub call_effect : ℕ → ℕ → ℕ → ℕ → ℕ → World → Effect
call_effect eid fid a0 a1 a2 w =
    record {
      answer = call_answer eid fid a0 a1 a2 w;
      steps = call_steps eid fid a0 a1 a2 w;
      removed = used_count w.table - used_count (call_left eid fid a0 a1 a2 w).table;
      world = call_counted eid fid a0 a1 a2 w;
      reports = call_reports eid fid a0 a1 a2 w;
    }

-- kind 2: bytes written at an offset; past memory's end it is -5 and no byte is written
unfoldable pub write_effect : ℕ → List ℕ → World → Effect
write_effect at bytes w =
    cond (leb (at + length bytes) (length w.memory))
    (plain (Ok (Value 0)) (lent w.hart w.base (with_part (length bytes) at bytes w.memory) w.table)) (plain (Err InvalidAddress) w)

-- kind 3: a line change
abbrev pub lines_effect : ℕ → World → Effect
lines_effect lines w = plain (line_answer lines w) (line_left lines w)

-- a table with these words in slot i
unfoldable pub with_slot : ℕ → ℕ → ℕ → ℕ → ℕ → List ℕ → List ℕ
with_slot i a b c d t = set (set (set (set t (4 * i) a) (4 * i + 1) b) (4 * i + 2) c) (4 * i + 3) d

-- kind 4: a slot placed; an index past the slots is -5
unfoldable pub slot_effect : ℕ → ℕ → ℕ → ℕ → ℕ → World → Effect
slot_effect i a b c d w =
    cond (ltb i (slot_count w.table)) (plain (Ok (Value 0)) (lent w.hart w.base w.memory (with_slot i a b c d w.table)))
    (plain (Err InvalidAddress) w)

-- kind 5: a trap back, with the words as the hart's width has them
abbrev pub trap_effect : Trap → World → Effect
trap_effect t w =
    let u = cut_trap (width w) t in record { answer = trap_answer w; steps = 0; removed = 0; world = trap_counted u w; reports = trap_reports u w }

-- the trap that a body tells: of the last word only bit 0 counts
abbrev pub trap_of : List ℕ → Trap
trap_of b =
    record { cause = body_word b 0; tval = body_word b 1; htval = body_word b 2; htinst = body_word b 3; gva = eqb (body_word b 4 % 2) 1 }

-- the call that a body tells, with the numbers as the hart's width has them
abbrev pub call_of : List ℕ → World → Effect
call_of b w =
    let x = width w in
    call_effect (cut x (body_word b 0)) (cut x (body_word b 1)) (cut x (body_word b 2)) (cut x (body_word b 3)) (cut x (body_word b 4)) w

-- the slot that a body tells
abbrev pub slot_of : List ℕ → World → Effect
slot_of b w = slot_effect (body_word b 0) (body_word b 1) (body_word b 2) (body_word b 3) (body_word b 4) w

-- a record of a kind with a body; a header is good with the kinds 1 to 5 only, and here any other counts as 5
unfoldable pub effect : ℕ → List ℕ → World → Effect
effect kind b w =
    cond (eqb kind 1) (call_of b w)
    (cond (eqb kind 2) (write_effect (body_word b 0) (drop 8 b) w)
    (cond (eqb kind 3) (lines_effect (body_word b 0) w)
    (cond (eqb kind 4) (slot_of b w) (trap_effect (trap_of b) w))))

-- what the code gives back, with the memory and table that it leaves, is an effect; its reports are in the lent buffer
pub record Has (e : Effect) (base : ℕ) (r : Applied) (memory table : List ℕ) : Type 0 where
  pub answer : r.answer ≡ e.answer
  pub steps : r.steps ≡ e.steps
  pub removed : r.removed ≡ e.removed
  pub world : lent r.hart base memory table ≡ e.world
