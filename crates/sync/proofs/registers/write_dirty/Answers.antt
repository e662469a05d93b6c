-- `sync::registers::write_dirty` meets its contract: no step is allowed, or (A) alone, or both.
use mathlib.Core.Path.{◌≡◌, refl, ap, ◌∙◌}
use Prim.Native.Nat.{ℕ, ◌-◌, ◌≤◌}
use native.Mathlib.Omega.{arith}
use lib.Bits.{bit_xor}
use lib.ListN.{set}
use Rattle.csr.specs.Csrs.{at_turn}
use Rattle.hart.specs.Record.{with_csrs}
use Rattle.hart.specs.Registers.{write}
use Rattle.page.proofs.Places.{word-is, clear-is}
use Rattle.world.specs.State.{state_from}
use Rattle.turns.proofs.Stores.{serve-stop, serve-write, serve-both}
use Rattle.sync.proofs.Spoken.{words-two, said-nothing, said-write, wrote-report}
use Rattle.sync.proofs.registers.write_dirty.Goals as goal

pub returns-in_err-left : goal.returns-in_err-left
returns-in_err-left c =
    let a = c.args in
    let h = a.hart.now in
    let none : a.limit ≡ 0 = omega (arith, c.in_err-left.ensures) in
    record {
      made = λ table. rw c.from_residual.ensures (serve-stop h.xlen (at_turn a.t) (state_from h a.page.now table) a.limit none);
      width = refl;
      said = λ table. said-nothing h.xlen (at_turn a.t) a.limit (state_from h a.page.now table) none;
      few = omega arith;
    }

pub returns-in_err-left-2 : goal.returns-in_err-left-2
returns-in_err-left-2 c =
    let a = c.args in
    let h = a.hart.now in
    let one : a.limit ≡ 1 = omega (arith, c.in_ok-left.ensures, c.in_err-left-2.ensures) in
    let word = word-is (at_turn a.t) a.page.now c.requires.0 h.xlen c.csr_word-word.ensures in
    let changed = c.change-new.ensures.1 ∙ ap (λ (v : ℕ). write (at_turn a.t) v h) word in
    let new = with_csrs h (set h.csrs c.change-new.result.place c.change-new.result.value) in
    record {
      made = λ table. rw c.from_residual-in_err-left-2.ensures (serve-write h.xlen (at_turn a.t) (state_from h a.page.now table) a.limit one changed);
      width = refl;
      said = λ table. said-write h.xlen (at_turn a.t) a.limit (state_from h a.page.now table) (omega arith)
          (wrote-report (at_turn a.t) {h = new} c.number.ensures c.read.ensures word changed c.put.ensures);
      few = omega (arith, c.put.ensures.wrote.place, words-two c.number.result (bit_xor c.csr_word-word.result c.read.result));
    }

pub returns : goal.returns
returns c =
    let a = c.args in
    let h = a.hart.now in
    let two : 2 ≤ a.limit = omega (arith, c.in_ok-left.ensures, c.in_ok-left-2.ensures) in
    let left : c.in_ok-left-2.left ≡ a.limit - 2 = omega (arith, c.in_ok-left.ensures, c.in_ok-left-2.ensures) in
    let word = word-is (at_turn a.t) a.page.now c.requires.0 h.xlen c.csr_word-word.ensures in
    let changed = c.change-new.ensures.1 ∙ ap (λ (v : ℕ). write (at_turn a.t) v h) word in
    let new = with_csrs h (set h.csrs c.change-new.result.place c.change-new.result.value) in
    record {
      made = λ table. rw left (serve-both h.xlen (at_turn a.t) (state_from h a.page.now table) a.limit two changed (clear-is (at_turn a.t) a.page.now c.requires.0 c.clear_dirty.ensures));
      width = refl;
      said = λ table. said-write h.xlen (at_turn a.t) a.limit (state_from h a.page.now table) (omega arith)
          (wrote-report (at_turn a.t) {h = new} c.number.ensures c.read.ensures word changed c.put.ensures);
      few = omega (arith, c.put.ensures.wrote.place, words-two c.number.result (bit_xor c.csr_word-word.result c.read.result));
    }
