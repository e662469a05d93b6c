-- What holds of every call, every run of the stoppable form, every line change and every trap back, whatever the numbers, record, memory and
-- table. Each claim names a wrong monitor that it shuts out; `Claims`, at the end, is all of them; 01's sample tickets are in `tickets`. What is left is
-- here without the reports counted (`left_by`); nothing goes by the count (`CountStaysOut` of Dropped.antt), so it is the same after runs that count.
use Rattle.std.specs.Prelude.{◌≡◌, Bool, true, false, cond, ◌&&◌, ◌||◌, ◌⊎◌, ◌≢◌, ℕ, ◌+◌, ◌%◌, ◌^◌, ◌≤◌, ◌<◌, min, eqb, leb, ltb, ℤ, pos, neg_ℤ, length, get_or, take, Some, None}
use mathlib.Core.List.{List, [], ◌∷◌, ◌++◌, Memᴰ, map}
use Rattle.layout.specs.Width.{bytes}
use Rattle.layout.specs.declared.xlen.Xlen.{Xlen}
use Rattle.layout.specs.declared.xlen.Xlen.TheVariants.{X32, X64}
use Rattle.layout.specs.Bits.{bit_of, clear_bit}
use Rattle.layout.specs.Geometry.{csr_at, dirty_at, entry_at, entry_count, page_size, swap_at}
use Rattle.layout.specs.Dirty.{dirty}
use Rattle.csr.specs.Csrs.{Csr, Hstatus, Htval, Htinst, number, has, turn_order}
use Rattle.hart.specs.declared.record.Hart.{Hart}
use Rattle.hart.specs.declared.record.Mode.{Mode}
use Rattle.hart.specs.declared.record.Mode.TheVariants.{S}
use Rattle.hart.specs.declared.trap.Trap.{Trap}
use Rattle.hart.specs.Bits.{all_ones}
use Rattle.hart.specs.Features.{has_feature}
use Rattle.hart.specs.Legal.{legal_hstatus}
use Rattle.hart.specs.Record.{is_s, mode_of, with_csrs, with_lines, with_shmem}
use Rattle.hart.specs.Registers.{read}
use Rattle.hart.specs.Stored.{held, hold}
use Rattle.hart.specs.WellMade.{fits_word, lines_well_made}
use Rattle.fence.specs.Entry.{readable, clear_pending}
use Rattle.fence.specs.Slots.{slot_count, slot_word, used}
use Rattle.fence.specs.Table.{names_slot}
use Rattle.page.specs.Registers.{csr_word, index, is_dirty}
use Rattle.page.specs.Entries.{entry_word, every_entry, fence_at, is_pending}
use Rattle.world.specs.World.{World, width, offset}
use Rattle.world.specs.State.{State, state_of, with_state}
use Rattle.turns.specs.Marks.{Mark, Dirty, Pending, is_marked}
use Rattle.turns.specs.Steps.{run, steps}
use Rattle.turns.specs.Stops.{NoneLeft}
use Rattle.checks.specs.Fids.{fid_probe, fid_set, fid_csr, fid_fence, fid_sret}
use Rattle.checks.specs.Codes.{Answer, accepted, code_of, is_resumed, value_of}
use Rattle.checks.specs.Checks.{cut, call_answer, check1, check2, check5, check6, check7, feature_there, is_call, is_drop, is_sync, probed, sync_answer}
use Rattle.stops.specs.Sync.{asked, finished, steps_made, stoppable}
use Rattle.stops.specs.Stops.{AfterStop, after_stops}
use Rattle.sret.specs.Context.{general}
use Rattle.sret.specs.Sret.{swaps}
use Rattle.nacl.specs.Calls.{call_left, call_steps}
use Rattle.nacl.specs.Lines.{line_answer, line_left}
use Rattle.nacl.specs.Traps.{cut_trap, trap_answer, trap_left}
use Rattle.claims.specs.Events.{Event, Call, Stoppable, Lines, TrapBack, OfTypes, below_xlen, passable, storable, is_sret, answer_to, left_by, steps_of, finished_by, marks_asked, words_allowed, swap_allowed, page_in, state_in, served_csrs, swap_word, hstatus_swapped, trap_swaps, blanks}
use Rattle.claims.specs.Dropped.{DroppedClaims}
use Rattle.claims.specs.Inside.{NoRefusalInsideSret}

-- a check: whether it passes, and the code if it does not
pub record Check : Type 0 where
  pub passes : Bool
  pub code : ℤ

-- the code of the first check that fails; 0 if none does
abbrev pub first_code : List Check → ℤ
first_code [] = pos 0
first_code (c ∷ cs) = cond c.passes (first_code cs) c.code

-- 01's seven checks in their order, where check 3 comes out as `three`
abbrev pub seven_checks : Bool → ℕ → ℕ → ℕ → ℕ → World → List Check
seven_checks three fid a0 a1 a2 w =
    record { passes = check1 w; code = neg_ℤ (pos 1) }
    ∷ record { passes = check2 w; code = neg_ℤ (pos 2) }
    ∷ record { passes = three; code = neg_ℤ (pos 2) }
    ∷ record { passes = feature_there w.hart.features fid; code = neg_ℤ (pos 2) }
    ∷ record { passes = check5 (width w) fid a0 a1 a2; code = neg_ℤ (pos 3) }
    ∷ record { passes = check6 (width w) w.base w.memory fid a0 a1; code = neg_ℤ (pos 5) }
    ∷ record { passes = ltb fid fid_csr || check7 w; code = neg_ℤ (pos 9) }
    ∷ []

abbrev pub checks_of : Event → World → List Check
checks_of (Call eid fid a0 a1 a2) w = seven_checks (is_call eid fid) fid a0 a1 a2 w
checks_of (Stoppable n eid fid a) w = seven_checks (is_sync eid fid) fid a 0 0 w
checks_of (Lines lines) w = record { passes = check1 w; code = neg_ℤ (pos 1) } ∷ record { passes = lines_well_made lines; code = neg_ℤ (pos 3) } ∷ []
checks_of (TrapBack t) w = record { passes = check1 w; code = neg_ℤ (pos 1) } ∷ record { passes = w.hart.virt; code = neg_ℤ (pos 2) } ∷ []

-- the value of an accepted event: probe's, else 0
abbrev pub value_if : Event → World → ℕ
value_if (Call eid fid a0 a1 a2) w = cond (eqb fid fid_probe) (probed w.hart.features a0) 0
value_if (Stoppable n eid fid a) w = 0
value_if (Lines lines) w = 0
value_if (TrapBack t) w = 0

pub record Refused (x : Event) (w : World) : Type 0 where
  pub value : value_of (answer_to x w) ≡ 0
  pub steps : steps_of x w ≡ 0
  pub not-finished : finished_by x w ≡ false
  pub same : left_by x w ≡ w

-- a mark of the page: a register's, or one of the entries'
abbrev pub IsMark : (xlen : Xlen) → Mark → Type 0
IsMark xlen (Dirty c) = Unit {0}
IsMark xlen (Pending e) = e < entry_count (bytes xlen)

pub record MarkLeft (x : Event) (w : World) (m : Mark) : Type 0 where
  pub not-asked : (Memᴰ m (marks_asked x w) → ⊥) → is_marked (width w) (page_in w (left_by x w)) m ≡ is_marked (width w) (page_in w w) m
  pub none-set : is_marked (width w) (page_in w w) m ≡ false → is_marked (width w) (page_in w (left_by x w)) m ≡ false

-- the stored registers, for SRET but for hstatus, which the swap and the return change too (SretLeft says how)
abbrev pub but_hstatus : ℕ → List ℕ → List ℕ
but_hstatus fid csrs = cond (eqb fid fid_sret) (hold Hstatus 0 csrs) csrs

pub record MarksServed (eid fid a0 a1 a2 : ℕ) (w : World) (v : World) : Type 0 where
  pub cleared : accepted (call_answer eid fid a0 a1 a2 w) ≡ true → (m : Mark) → Memᴰ m (marks_asked (Call eid fid a0 a1 a2) w)
      → is_marked (width w) (page_in w v) m ≡ false
  pub csrs : but_hstatus fid v.hart.csrs ≡ but_hstatus fid (served_csrs w v)
  pub fences : NoneLeft (width w) (state_in w w) (state_in w v)

pub record SretLeft (w v : World) : Type 0 where
  pub hstatus : held Hstatus v.hart.csrs ≡ clear_bit (hstatus_swapped w (held Hstatus (served_csrs w v))) 7
  pub virt : v.hart.virt ≡ eqb (bit_of (hstatus_swapped w (held Hstatus (served_csrs w v))) 7) 1
  pub mode : v.hart.mode ≡ mode_of w.hart.spp
  pub pc : v.hart.pc ≡ w.hart.sepc
  pub sie : v.hart.sie ≡ w.hart.spie
  pub spie : v.hart.spie ≡ true
  pub spp : v.hart.spp ≡ false
  pub general : v.hart.x ≡ general (width w) (page_in w w)
  pub swap : swaps (width w) w.hart.features (page_in w w) ≡ true → swap_word w v ≡ held Hstatus (served_csrs w v)

-- hstatus v as a trap makes it of u: GVA takes the bit, SPV is 1, SPVP is the mode, and every other bit is u's
pub record TrapBits (b : Bool) (m : Mode) (u v : ℕ) : Type 0 where
  pub gva : bit_of v 6 ≡ cond b 1 0
  pub spv : bit_of v 7 ≡ 1
  pub spvp : bit_of v 8 ≡ cond (is_s m) 1 0
  pub others : (k : ℕ) → (k < 6) ⊎ (8 < k) → bit_of v k ≡ bit_of u k

-- `hstatus_taken` is hstatus with the trap's bits; then it is swapped, if it is
pub record TrapNamed (t : Trap) (w v : World) : Type 0 where
  pub hstatus_taken : ℕ
  pub bits : TrapBits t.gva w.hart.mode (held Hstatus w.hart.csrs) hstatus_taken
  pub hstatus : held Hstatus v.hart.csrs
      ≡ cond (trap_swaps w) (legal_hstatus (width w) hstatus_taken (swap_word w w)) hstatus_taken
  pub swap : trap_swaps w ≡ true → swap_word w v ≡ hstatus_taken
  pub virt : v.hart.virt ≡ false
  pub mode : v.hart.mode ≡ S
  pub pc : v.hart.pc ≡ w.hart.stvec
  pub sepc : v.hart.sepc ≡ clear_bit w.hart.pc 0
  pub sie : v.hart.sie ≡ false
  pub spie : v.hart.spie ≡ w.hart.sie
  pub spp : v.hart.spp ≡ is_s w.hart.mode
  pub htval : held Htval v.hart.csrs ≡ t.htval
  pub htinst : held Htinst v.hart.csrs ≡ t.htinst
  pub scause : v.hart.scause ≡ t.cause
  pub stval : v.hart.stval ≡ t.tval

-- a trap is accepted, and after it check 2 passes, and check 1 if its words are the hart's: the five calls are open again
pub record OpenAgain (t : Trap) (w : World) : Type 0 where
  pub accepted : accepted (trap_answer w) ≡ true
  pub check1 : passable (TrapBack t) w ≡ true → check1 (trap_left t w) ≡ true
  pub check2 : check2 (trap_left t w) ≡ true

-- one of these marks is that of a pending entry that names slot i
unfoldable pub any_names : (xlen : Xlen) → List Mark → State → ℕ → Bool
any_names xlen [] s i = false
any_names xlen (Dirty c ∷ ms) s i = any_names xlen ms s i
any_names xlen (Pending e ∷ ms) s i = (is_pending xlen s.page e && names_slot (fence_at xlen s.page e) s.table i) || any_names xlen ms s i

-- slot i of table t is as it was in t₀
abbrev pub Kept : List ℕ → List ℕ → ℕ → Type 0
Kept t₀ t i = (k : ℕ) → k < 4 → slot_word t i k ≡ slot_word t₀ i k

-- slot i of table t is four zero words
abbrev pub Removed : List ℕ → ℕ → Type 0
Removed t i = (k : ℕ) → k < 4 → slot_word t i k ≡ 0

pub record TableLeft (x : Event) (w : World) : Type 0 where
  pub size : length (left_by x w).table ≡ length w.table
  pub others : (i : ℕ) → i < slot_count w.table → any_names (width w) (marks_asked x w) (state_of w) i ≡ false → Kept w.table (left_by x w).table i
  pub whole : (i : ℕ) → i < slot_count w.table → Kept w.table (left_by x w).table i ⊎ Removed (left_by x w).table i

-- byte k of the page belongs to the register's word
abbrev pub of_word : (xlen : Xlen) → ℕ → Csr → Bool
of_word xlen k c = leb (csr_at (bytes xlen) (index c)) k && ltb k (csr_at (bytes xlen) (index c) + bytes xlen)

-- byte k of the page holds the dirty bit, or belongs to the Config with Pending
abbrev pub of_mark : (xlen : Xlen) → ℕ → Mark → Bool
of_mark xlen k (Dirty c) = eqb k (dirty_at (index c))
of_mark xlen k (Pending e) = leb (entry_at (bytes xlen) e) k && ltb k (entry_at (bytes xlen) e + bytes xlen)

-- byte k of the page belongs to the swap word
abbrev pub of_swap : (xlen : Xlen) → ℕ → Bool
of_swap xlen k = leb (swap_at (bytes xlen)) k && ltb k (swap_at (bytes xlen) + bytes xlen)

-- f holds of one of these
unfoldable pub any_of : {A : Type 0} → (A → Bool) → List A → Bool
any_of f [] = false
any_of f (x ∷ xs) = f x || any_of f xs

abbrev pub may_change : Event → World → ℕ → Bool
may_change x w k = any_of (of_word (width w) k) (words_allowed x w) || (any_of (of_mark (width w) k) (marks_asked x w) || (swap_allowed x w && of_swap (width w) k))

-- entry e's Config but for Pending
abbrev pub other_bits : World → List ℕ → ℕ → ℕ
other_bits w p e = clear_pending (width w) (entry_word (width w) p e 0)

pub record BytesLeft (x : Event) (w : World) (v : World) : Type 0 where
  pub size : length v.memory ≡ length w.memory
  pub no-page : check7 w ≡ false → v.memory ≡ w.memory
  pub outside : (j : ℕ) → (j < offset w) ⊎ (offset w + page_size (bytes (width w)) ≤ j) → get_or v.memory j 0 ≡ get_or w.memory j 0
  pub inside : (k : ℕ) → k < page_size (bytes (width w)) → may_change x w k ≡ false → get_or v.memory (offset w + k) 0 ≡ get_or w.memory (offset w + k) 0
  pub dirty-bits : (i : ℕ) → i < 1024 → ((c : Csr) → index c ≢ i) → dirty (page_in w v) i ≡ dirty (page_in w w) i
  pub config-bits : (e : ℕ) → e < entry_count (bytes (width w)) → other_bits w (page_in w v) e ≡ other_bits w (page_in w w) e

-- v's page, the one at lo, is blank, and v is w but for its bytes and its address
pub record PageBlank (lo : ℕ) (w v : World) : Type 0 where
  pub hart : v.hart ≡ with_shmem w.hart (Some lo)
  pub base : v.base ≡ w.base
  pub there : check7 v ≡ true
  pub marks : (m : Mark) → IsMark (width w) m → is_marked (width w) (page_in v v) m ≡ false
  pub words : (c : Csr) → has (width w) c ≡ true → csr_word (width w) (page_in v v) c ≡ read c w.hart
  pub zeroes : (k : ℕ) → k < page_size (bytes (width w)) → any_of (of_word (width w) k) (turn_order (width w)) ≡ false → get_or v.memory (offset v + k) 0 ≡ 0
  pub size : length v.memory ≡ length w.memory
  pub outside : (j : ℕ) → (j < offset v) ⊎ (offset v + page_size (bytes (width w)) ≤ j) → get_or v.memory j 0 ≡ get_or w.memory j 0
  pub table : v.table ≡ w.table

-- before its reports are counted, SRET changes the stored and the general registers, V, the mode, pc, SIE, SPIE and SPP; nothing else
pub record SretKeeps (h g : Hart) : Type 0 where
  pub xlen : g.xlen ≡ h.xlen
  pub lines : g.lines ≡ h.lines
  pub shmem : g.shmem ≡ h.shmem
  pub sepc : g.sepc ≡ h.sepc
  pub stvec : g.stvec ≡ h.stvec
  pub scause : g.scause ≡ h.scause
  pub stval : g.stval ≡ h.stval
  pub dropped : g.dropped ≡ h.dropped
  pub features : g.features ≡ h.features

-- the stored registers but for hstatus, htval and htinst, which a trap changes (TrapNamed says how)
abbrev pub but_trapped : List ℕ → List ℕ
but_trapped csrs = hold Htinst 0 (hold Htval 0 (hold Hstatus 0 csrs))

-- before its report is counted, a trap changes hstatus, htval, htinst, V, the mode, pc, sepc, scause, stval, SIE, SPIE and SPP; nothing else
pub record TrapKeeps (h g : Hart) : Type 0 where
  pub xlen : g.xlen ≡ h.xlen
  pub csrs : but_trapped g.csrs ≡ but_trapped h.csrs
  pub lines : g.lines ≡ h.lines
  pub shmem : g.shmem ≡ h.shmem
  pub stvec : g.stvec ≡ h.stvec
  pub dropped : g.dropped ≡ h.dropped
  pub features : g.features ≡ h.features
  pub general : g.x ≡ h.x

pub record RecordLeft (w : World) : Type 0 where
  pub base : (x : Event) → (left_by x w).base ≡ w.base
  pub probe : (eid a0 a1 a2 : ℕ) → (call_left eid fid_probe a0 a1 a2 w).hart ≡ w.hart
  pub set : (eid a0 a1 a2 : ℕ) → let h = (call_left eid fid_set a0 a1 a2 w).hart in h ≡ with_shmem w.hart h.shmem
  pub page : (eid a0 a1 a2 : ℕ) → accepted (call_answer eid fid_set a0 a1 a2 w) ≡ true
      → (call_left eid fid_set a0 a1 a2 w).hart.shmem ≡ cond (is_drop (width w) a0 a1) None (Some a0)
  pub csr : (eid a0 a1 a2 : ℕ) → let h = (call_left eid fid_csr a0 a1 a2 w).hart in h ≡ with_csrs w.hart h.csrs
  pub fence : (eid a0 a1 a2 : ℕ) → (call_left eid fid_fence a0 a1 a2 w).hart ≡ w.hart
  pub sret : (eid a0 a1 a2 : ℕ) → SretKeeps w.hart (call_left eid fid_sret a0 a1 a2 w).hart
  pub stopped-csr : (n eid a : ℕ) → let h = (stoppable n eid fid_csr a w).hart in h ≡ with_csrs w.hart h.csrs
  pub stopped-fence : (n eid a : ℕ) → (stoppable n eid fid_fence a w).hart ≡ w.hart
  pub lines : (lines : ℕ) → accepted (line_answer lines w) ≡ true → (line_left lines w).hart ≡ with_lines w.hart lines
  pub trap : (t : Trap) → TrapKeeps w.hart (trap_left t w).hart

-- calls of one FID, one for each of these parameters, in order: what the last leaves
unfoldable pub calls_left : ℕ → List ℕ → ℕ → World → World
calls_left fid [] eid w = w
calls_left fid (a ∷ bs) eid w = calls_left fid bs eid (call_left eid fid a 0 0 w)

-- and their answers
unfoldable pub calls_answers : ℕ → List ℕ → ℕ → World → List Answer
calls_answers fid [] eid w = []
calls_answers fid (a ∷ bs) eid w = call_answer eid fid a 0 0 w ∷ calls_answers fid bs eid (call_left eid fid a 0 0 w)

pub record Singly (eid fid a1 a2 : ℕ) (bs : List ℕ) (w : World) : Type 0 where
  pub left : call_left eid fid (all_ones (width w)) a1 a2 w ≡ calls_left fid bs eid w
  pub answers : calls_answers fid bs eid w ≡ map (λ (a : ℕ). call_answer eid fid (all_ones (width w)) a1 a2 w) bs

-- no call of FID 2 has more steps
abbrev pub most_csr_steps : Xlen → ℕ
most_csr_steps X32 = 88
most_csr_steps X64 = 82

-- nor one of FID 3
abbrev pub most_fence_steps : Xlen → ℕ
most_fence_steps X32 = 376
most_fence_steps X64 = 316

pub record StepsCounted (n eid fid a a1 a2 : ℕ) (w : World) : Type 0 where
  pub csrs : call_steps eid fid_csr a a1 a2 w ≤ most_csr_steps (width w)
  pub fences : call_steps eid fid_fence a a1 a2 w ≤ most_fence_steps (width w)
  pub made : steps_made n eid fid a w ≡ min n (call_steps eid fid a a1 a2 w)
  pub finished : finished n eid fid a w ≡ (accepted (sync_answer eid fid a w) && leb (call_steps eid fid a a1 a2 w) n)
  pub total : accepted (sync_answer eid fid a w) ≡ true → call_steps eid fid a a1 a2 w ≡ length (steps (width w) (asked (width w) fid a) (state_of w))
  pub left : accepted (sync_answer eid fid a w) ≡ true → stoppable n eid fid a w ≡ with_state w (run (width w) (take n (steps (width w) (asked (width w) fid a) (state_of w))) (state_of w))

pub record CallRestartable (ns : List ℕ) (eid fid a a1 a2 : ℕ) (w : World) : Type 0 where
  pub after-each : (ms ks : List ℕ) → ns ≡ ms ++ ks → AfterStop fid a w (after_stops ms eid fid a w)
  pub same_end : call_left eid fid a a1 a2 (after_stops ns eid fid a w) ≡ call_left eid fid a a1 a2 w
  pub same_answer : call_answer eid fid a a1 a2 (after_stops ns eid fid a w) ≡ call_answer eid fid a a1 a2 w

-- Demand 1: the code is that of the first check that fails, 0 if none does. Shut out: refusing everything, a check left out or in another place.
abbrev pub CodesByTheTable : Type 0
CodesByTheTable = (x : Event) (w : World) → code_of (answer_to x w) ≡ first_code (checks_of x w)

-- The value is 0 but for an accepted probe. Shut out: a fixed answer.
abbrev pub ValuesOfProbeAlone : Type 0
ValuesOfProbeAlone = (x : Event) (w : World) → value_of (answer_to x w) ≡ cond (accepted (answer_to x w)) (value_if x w) 0

-- SRET, and it alone, says resumed. Shut out: a refused SRET that says so.
abbrev pub OnlySretResumes : Type 0
OnlySretResumes =
    (x : Event) (w : World) → is_resumed (answer_to x w) ≡ (accepted (answer_to x w) && is_sret x)

-- Demand 1: a refusal changes nothing. Shut out: a mark, a word or a line stored before the checks.
abbrev pub RefusalsChangeNothing : Type 0
RefusalsChangeNothing = (x : Event) (w : World) → accepted (answer_to x w) ≡ false → Refused x w

-- A cut number fits the hart's word, one of 64 bits is then below 2^XLEN, and one that fits is not changed. Shut out: a set that leaves an address which no 32-bit hart can have.
abbrev pub CutNumbersFit : Type 0
CutNumbersFit =
    (x : Xlen) (a : ℕ) → (fits_word x (cut x a) ≡ true) × (fits_word x a ≡ true → cut x a ≡ a) × (a < 2 ^ 64 → below_xlen x (cut x a) ≡ true)

-- A trap of words of 64 bits is cut to one of words of the hart. Shut out: a trap that leaves an htval which no 32-bit hart can have.
abbrev pub CutTrapsPass : Type 0
CutTrapsPass =
    (t : Trap) (w : World) → t.cause < 2 ^ 64 → t.tval < 2 ^ 64 → t.htval < 2 ^ 64 → t.htinst < 2 ^ 64
    → passable (TrapBack (cut_trap (width w) t)) w ≡ true

-- What passed check 1 passes it afterwards. Shut out: a call after which every call is answered -1.
abbrev pub WellMadeStays : Type 0
WellMadeStays = (x : Event) (w : World) → OfTypes w → passable x w ≡ true → check1 w ≡ true → check1 (left_by x w) ≡ true

-- Marks not asked for stay, and none is set, but by a set that blanks a page. Shut out: a call for one register that clears the marks before
-- it, unwritten.
abbrev pub OtherMarksStay : Type 0
OtherMarksStay = (x : Event) (w : World) (m : Mark) → blanks x w ≡ false → IsMark (width w) m → MarkLeft x w m

-- An accepted call clears each mark asked for, and what a call clears it has served, but for a set that blanks a page. Shut out: serving the
-- first and only clearing the others' marks.
abbrev pub ClearedMarksAreServed : Type 0
ClearedMarksAreServed =
    (eid fid a0 a1 a2 : ℕ) (w : World) → blanks (Call eid fid a0 a1 a2) w ≡ false → MarksServed eid fid a0 a1 a2 w (call_left eid fid a0 a1 a2 w)

-- With feature 0, a register that is dirty afterwards has the word it had, but for a set that blanks a page. Shut out: a reading stored over a
-- word that waits to be written.
abbrev pub DirtyWordsStay : Type 0
DirtyWordsStay =
    (x : Event) (w : World) (c : Csr) → blanks x w ≡ false → has_feature w.hart.features 0 ≡ true → is_dirty (page_in w (left_by x w)) c ≡ true
    → csr_word (width w) (page_in w (left_by x w)) c ≡ csr_word (width w) (page_in w w) c

-- Once finished, every word that may be stored and is clean is its register's reading. Shut out: hvip's word left stale after hip's turn.
abbrev pub CleanWordsAreReadings : Type 0
CleanWordsAreReadings =
    (x : Event) (w : World) (c : Csr) → storable x w ≡ true → finished_by x w ≡ true → check7 w ≡ true → Memᴰ c (words_allowed x w)
    → (has_feature w.hart.features 0 && is_dirty (page_in w (left_by x w)) c) ≡ false → csr_word (width w) (page_in w (left_by x w)) c ≡ read c (left_by x w).hart

-- Only slots that a pending entry asked for names change, and only to four zero words. Shut out: a removal of another slot, or of a part of one.
abbrev pub OnlyNamedSlotsChange : Type 0
OnlyNamedSlotsChange = (x : Event) (w : World) → TableLeft x w

-- An accepted call removes every slot that a pending entry asked for names. Shut out: a fence that is done with nothing removed.
abbrev pub NamedSlotsAreRemoved : Type 0
NamedSlotsAreRemoved =
    (eid fid a0 a1 a2 : ℕ) (w : World) (i : ℕ) → accepted (call_answer eid fid a0 a1 a2 w) ≡ true → i < slot_count w.table
    → any_names (width w) (marks_asked (Call eid fid a0 a1 a2) w) (state_of w) i ≡ true → Removed (call_left eid fid a0 a1 a2 w).table i

-- An unreadable one leaves no used slot. Shut out: an unreadable entry done with nothing removed.
abbrev pub UnreadableRemovesAll : Type 0
UnreadableRemovesAll =
    (eid fid a0 a1 a2 : ℕ) (w : World) (e i : ℕ) → accepted (call_answer eid fid a0 a1 a2 w) ≡ true
    → Memᴰ (Pending e) (marks_asked (Call eid fid a0 a1 a2) w) → is_pending (width w) (page_in w w) e ≡ true
    → readable (width w) (entry_word (width w) (page_in w w) e 0) (entry_word (width w) (page_in w w) e 2) ≡ false → i < slot_count w.table
    → used (slot_word (call_left eid fid a0 a1 a2 w).table i 0) ≡ false

-- No other byte, and no other bit, changes, but by a set that blanks a page. Shut out: all-ones that clears the whole bitmap; a call for one
-- register that stores every word; a drop that writes.
abbrev pub OtherBytesStay : Type 0
OtherBytesStay = (x : Event) (w : World) → blanks x w ≡ false → BytesLeft x w (left_by x w)

-- After a set that names an address the page there has no mark, each register's word is its reading, every other byte of it is zero, and
-- nothing else changed but the record's address of the page. Shut out: an old mark that a restarted hypervisor finds carried out; the old page
-- blanked.
abbrev pub SetPageIsBlank : Type 0
SetPageIsBlank =
    (eid a0 a1 a2 : ℕ) (w : World) → blanks (Call eid fid_set a0 a1 a2) w ≡ true → PageBlank a0 w (call_left eid fid_set a0 a1 a2 w)

-- Which fields of the record change, and what set and a line change store. Shut out: a synchronization that changes the mode; an idle set.
abbrev pub OtherFieldsStay : Type 0
OtherFieldsStay = (w : World) → RecordLeft w

-- What SRET makes of hstatus, V, the mode, pc, SIE, SPIE, SPP, X0 to X31 and the swap word. Shut out: a return to another place.
abbrev pub SretIsAsNamed : Type 0
SretIsAsNamed = (eid a0 a1 a2 : ℕ) (w : World) → OfTypes w → accepted (call_answer eid fid_sret a0 a1 a2 w) ≡ true → SretLeft w (call_left eid fid_sret a0 a1 a2 w)

-- What a trap makes of hstatus, the swap word, V, the mode, pc, sepc, SIE, SPIE, SPP, htval, htinst, scause and stval. Shut out: SPVP of the new
-- mode; the swap before the bits.
abbrev pub TrapIsAsNamed : Type 0
TrapIsAsNamed = (t : Trap) (w : World) → OfTypes w → accepted (trap_answer w) ≡ true → TrapNamed t w (trap_left t w)

-- After an SRET that turns V on a trap is accepted, and after it the calls are open again. Shut out: a guest from which no call ever comes.
abbrev pub GuestsComeBack : Type 0
GuestsComeBack =
    (eid a0 a1 a2 : ℕ) (w : World) (t : Trap) → OfTypes w → accepted (call_answer eid fid_sret a0 a1 a2 w) ≡ true
    → (call_left eid fid_sret a0 a1 a2 w).hart.virt ≡ true → OpenAgain t (call_left eid fid_sret a0 a1 a2 w)

-- Demand 2: all-ones leaves and answers what one call for each, in the stated order, does. Shut out: all-ones that forgets the last register.
abbrev pub EverythingIsEachSingly : Type 0
EverythingIsEachSingly = (eid a1 a2 : ℕ) (w : World) → Singly eid fid_csr a1 a2 (map number (turn_order (width w))) w × Singly eid fid_fence a1 a2 (every_entry (width w)) w

-- Totals, min(N, total), finished exactly if total <= N, and a run makes the first N steps of the unbroken call (turns/specs/Steps.antt).
-- Shut out: an invented number of steps; a run that goes on past N.
abbrev pub StepsAreCounted : Type 0
StepsAreCounted = (n eid fid a a1 a2 : ℕ) (w : World) → StepsCounted n eid fid a a1 a2 w

-- A finished run leaves what the whole call leaves. Shut out: finished with the last marks unserved.
abbrev pub FinishedIsWhole : Type 0
FinishedIsWhole = (n eid fid a a1 a2 : ℕ) (w : World) → finished n eid fid a w ≡ true → stoppable n eid fid a w ≡ call_left eid fid a a1 a2 w

-- Demand 3: any list of stops, then the call. Shut out: a fence marked as done that was not carried out before the stop.
abbrev pub StopsLeaveNoTrace : Type 0
StopsLeaveNoTrace = (ns : List ℕ) (eid fid a a1 a2 : ℕ) (w : World) → CallRestartable ns eid fid a a1 a2 w

-- all of them; `inside` is of Inside.antt, and `dropped` those of the count that `left_by` leaves out, and of what the register writes say
pub record Claims : Type 0 where
  pub codes : CodesByTheTable
  pub values : ValuesOfProbeAlone
  pub resumes : OnlySretResumes
  pub refusals : RefusalsChangeNothing
  pub cut-numbers : CutNumbersFit
  pub cut-traps : CutTrapsPass
  pub well-made : WellMadeStays
  pub other-marks : OtherMarksStay
  pub cleared-marks : ClearedMarksAreServed
  pub dirty-words : DirtyWordsStay
  pub clean-words : CleanWordsAreReadings
  pub other-slots : OnlyNamedSlotsChange
  pub named-slots : NamedSlotsAreRemoved
  pub unreadable : UnreadableRemovesAll
  pub other-bytes : OtherBytesStay
  pub blank : SetPageIsBlank
  pub other-fields : OtherFieldsStay
  pub sret : SretIsAsNamed
  pub inside : NoRefusalInsideSret
  pub trap : TrapIsAsNamed
  pub back : GuestsComeBack
  pub singly : EverythingIsEachSingly
  pub steps : StepsAreCounted
  pub finished : FinishedIsWhole
  pub restartable : StopsLeaveNoTrace
  pub dropped : DroppedClaims
