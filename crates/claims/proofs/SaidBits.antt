-- What register writes say of the bits that they dropped, by what the call or the trap leaves; and what a stoppable run says of it.
use mathlib.Core.Path.{◌≡◌, refl, sym, ap, ap₂, ◌∙◌}
use mathlib.Core.Bool.{Bool, true, false, cond, ◌&&◌, true≢false}
use mathlib.Core.List.{List, [], ◌∷◌, ◌++◌, map, append-nil}
use mathlib.Core.Logic.{⊎_elim}
use Prim.Native.Nat.{ℕ, suc, ◌+◌, ◌≤◌}
use native.Mathlib.Omega.{arith}
use lib.Bits.{bit_xor}
use lib.Dec.{eqb}
use borrow.Author.Tests.{ne_eqb}
use lib.ListN.{length, take, drop, take-append-drop, drop_of_length-le}
use lib.Seq.{take_all}
use Rattle.layout.specs.declared.xlen.Xlen.{Xlen}
use Rattle.layout.specs.declared.xlen.Xlen.TheVariants.{X32, X64}
use Rattle.csr.specs.Csrs.{Csr, Hstatus, number, has, turn_order}
use Rattle.csr.proofs.Turns.{number_lt, lookup-number, at_turn-turn_of}
use Rattle.hart.specs.declared.record.Hart.{Hart}
use Rattle.hart.specs.declared.trap.Trap.{Trap}
use Rattle.hart.specs.Bits.{all_ones}
use Rattle.hart.specs.Dropped.{Report, report_with, report_of}
use Rattle.hart.specs.Features.{has_feature}
use Rattle.hart.specs.Registers.{read, write}
use Rattle.hart.specs.Trap.{trapped}
use Rattle.page.specs.Registers.{IsPage, is_dirty, csr_word}
use Rattle.world.specs.World.{World}
use Rattle.world.specs.State.{State, state_of}
use Rattle.world.proofs.StateLaws.{page-length}
use Rattle.turns.specs.Marks.{Mark, Dirty, Pending}
use Rattle.turns.specs.Turn.{turns}
use Rattle.turns.specs.Steps.{Step, run, csr_steps, steps, total}
use Rattle.turns.specs.Reports.{reports}
use Rattle.turns.proofs.Closed.{turn_is}
use Rattle.turns.proofs.Holds.{laws}
use Rattle.turns.proofs.Reported.{reports-append, reports-turn, reports-quiet, quiet-entries}
use Rattle.checks.specs.Fids.{fid_csr, fid_fence, fid_sret}
use Rattle.checks.specs.Codes.{accepted}
use Rattle.checks.specs.Checks.{call_answer, sync_answer, check7}
use Rattle.checks.proofs.Accepted.{Passed, passed, answered, room_of}
use Rattle.checks.proofs.Truth.{either}
use Rattle.stops.specs.Sync.{asked, entries_asked, synced, sync_total, whole_reports, stop_reports, finished}
use Rattle.stops.proofs.Forms.{whole-passed}
use Rattle.stops.proofs.Singly.{ones-good, ones-ask}
use Rattle.sret.specs.Sret.{swaps, swapped, swap_reports, sret_reports}
use Rattle.nacl.specs.Calls.{call_left, call_reports, done_reports}
use Rattle.nacl.specs.Traps.{trap_taken, trap_answer, trap_reports}
use Rattle.nacl.proofs.CallLaws.{answer-csr, left-csr}
use Rattle.nacl.proofs.Few.{call-most, stop-most, trap-few}
use Rattle.nacl.proofs.Said.{whole-said}
use Rattle.claims.specs.Events.{Call, Stoppable, Lines, TrapBack, page_in, swap_word, trap_swaps}
use Rattle.claims.specs.Dropped.{RegisterSaysItsBits, SretSaysItsBits, TrapSaysItsBits, RunSays, RunsSayTheFirst, OthersSayNothing, ReportsAreFew}
use Rattle.claims.proofs.Finished.{two-or-three, was-enough}
use Rattle.claims.proofs.Inside.{Ready, sret-accepted, sret-ready, ready-passes}
use Rattle.claims.proofs.Sret.{sret-swap-says}
use Rattle.claims.proofs.Trap.{hart-is}

-- FID 2 or FID 3 that passes says what its turns say
pub says : (eid fid a a1 a2 : ℕ) (w : World) → let x = w.hart.xlen in Passed eid fid a w → call_reports eid fid a a1 a2 w ≡ reports x (steps x (asked x fid a) (state_of w)) (state_of w)
unfolding whole_reports
says eid fid a a1 a2 w q = whole-said eid fid a a1 a2 w (two-or-three eid fid a w q) ∙ rw (answered eid fid a w q)

-- ---- one register

-- its number asks for it alone
asks : (x : Xlen) (c : Csr) → has x c ≡ true → asked x fid_csr (number c) ≡ Dirty c ∷ []
asks x c h = rw (ne_eqb (number c) (all_ones x) (λ e. other x e), lookup-number x c h, at_turn-turn_of c)
  where
    other : (y : Xlen) → number c ≡ all_ones y → ⊥
    other X32 e = omega (arith, number_lt c)
    other X64 e = omega (arith, number_lt c)

-- what its turn says
pub turn-says : (x : Xlen) (c : Csr) (s : State)
    → reports x (steps x (Dirty c ∷ []) s) s ≡ cond (is_dirty s.page c) (report_of c (csr_word x s.page c) (write c (csr_word x s.page c) s.hart)) []
unfolding steps
turn-says x c s =
    let xs = csr_steps c s.page in
    ap (λ (ys : List Step). reports x ys s) (append-nil xs ∙ sym (take_all (suc (length xs)) xs (omega arith))) ∙ reports-turn x c (suc (length xs)) s

-- the record that it leaves
turn-hart : (x : Xlen) (c : Csr) (s : State) → IsPage x s.page
    → (turns x (Dirty c ∷ []) s).hart ≡ cond (is_dirty s.page c) (write c (csr_word x s.page c) s.hart) s.hart
unfolding turns
turn-hart x c s g = ap (λ (t : State). t.hart) (turn_is x (laws x) c s g)

pub register-says : RegisterSaysItsBits
unfolding report_of
register-says eid a1 a2 w c h t =
    says eid fid_csr (number c) a1 a2 w q ∙ ap (λ (ms : List Mark). reports x (steps x ms s) s) (asks x c h) ∙ turn-says x c s
    ∙ go (is_dirty s.page c) ∙ ap (λ (k : Hart). cond (is_dirty s.page c) (report_with (number c) (bit_xor v (read c k))) []) (sym left)
  where
    x : Xlen
    x = w.hart.xlen

    s : State
    s = state_of w

    v : ℕ
    v = csr_word x s.page c

    q : Passed eid fid_csr (number c) w
    q = passed eid fid_csr (number c) w (ap accepted (sym (answer-csr eid (number c) a1 a2 w)) ∙ t)

    left : (call_left eid fid_csr (number c) a1 a2 w).hart ≡ cond (is_dirty s.page c) (write c v s.hart) s.hart
    left =
        ap (λ (u : World). u.hart) (left-csr eid (number c) a1 a2 w ∙ whole-passed eid fid_csr (number c) w q)
        ∙ unfold synced in (ap (λ (ms : List Mark). (turns x ms s).hart) (asks x c h)) ∙ turn-hart x c s (page-length w (room_of eid fid_csr (number c) w q))

    go : (b : Bool) → cond b (report_with (number c) (bit_xor v (read c (write c v s.hart)))) [] ≡ cond b (report_with (number c) (bit_xor v (read c (cond b (write c v s.hart) s.hart)))) []
    go true = refl
    go false = refl

-- ---- SRET

pub sret-says : SretSaysItsBits
unfolding call_reports done_reports sret_reports
sret-says eid a0 a1 a2 w o t =
    rw t (ap₂ (λ (rs qs : List Report). rs ++ qs) (go (has_feature w.hart.features 0) refl) (sret-swap-says eid a0 a1 a2 w o t))
  where
    x : Xlen
    x = w.hart.xlen

    s : State
    s = state_of w

    ready : Ready eid w
    ready = (sret-ready eid w (sym (sret-accepted eid a0 a1 a2 w) ∙ t)).0

    go : (b : Bool) → has_feature w.hart.features 0 ≡ b
        → reports x (steps x (cond b (map Dirty (turn_order x)) []) s) s ≡ cond b (call_reports eid fid_csr (all_ones x) 0 0 w) []
    go true f =
        ap (λ (ms : List Mark). reports x (steps x ms s) s) (sym (ones-ask x).0)
        ∙ sym (says eid fid_csr (all_ones x) 0 0 w (ready-passes fid_csr refl (λ y. (ones-good y).0) eid w ready f))
    go false f = unfold steps reports in refl

-- ---- a trap

-- what the write of the swap word to hstatus says
abbrev swap_bits : World → Hart → List Report
swap_bits w h = report_with 0x600 (bit_xor (swap_word w w) (read Hstatus h))

-- the swap's write is said, against the record that it leaves
swap-written : (t : Trap) (w : World) → accepted (trap_answer w) ≡ true
    → trap_reports t w ≡ cond (trap_swaps w) (swap_bits w (write Hstatus (swap_word w w) (trapped t w.hart))) []
unfolding trap_reports swap_reports report_of swapped trapped check7
swap-written t w y = rw y (go (check7 (trap_taken t w)))
  where
    go : (b : Bool) → cond b (swap_reports w.hart.xlen (state_of (trap_taken t w))) []
        ≡ cond (b && swaps w.hart.xlen w.hart.features (page_in w w)) (swap_bits w (write Hstatus (swap_word w w) (trapped t w.hart))) []
    go true = refl
    go false = refl

pub trap-says : TrapSaysItsBits
trap-says t w y = swap-written t w y ∙ go (trap_swaps w) ∙ ap (λ (h : Hart). cond (trap_swaps w) (swap_bits w h) []) (sym (hart-is t w y))
  where
    g : Hart
    g = trapped t w.hart

    go : (b : Bool) → cond b (swap_bits w (write Hstatus (swap_word w w) g)) [] ≡ cond b (swap_bits w (cond b (write Hstatus (swap_word w w) g) g)) []
    go true = refl
    go false = refl

-- ---- stoppable runs

pub runs-say : RunsSayTheFirst
unfolding stop_reports finished sync_total total reports
runs-say n eid fid a a1 a2 w = ⊎_elim run-says refused (either (accepted (sync_answer eid fid a w)))
  where
    x : Xlen
    x = w.hart.xlen

    s : State
    s = state_of w

    xs : List Step
    xs = steps x (asked x fid a) s

    later : List Report
    later = reports x (drop n xs) (run x (take n xs) s)

    run-says : accepted (sync_answer eid fid a w) ≡ true → RunSays n eid fid a a1 a2 w
    run-says t =
        record {
          made = λ y. rw y;
          rest = later;
          first = says eid fid a a1 a2 w (passed eid fid a w t) ∙ ap (λ (ys : List Step). reports x ys s) (sym (take-append-drop n xs))
              ∙ reports-append x (take n xs) (drop n xs) s ∙ sym (rw t);
          all = λ f. none (was-enough n eid fid a w f).1;
        }
      where
        none : sync_total fid a w ≤ n → later ≡ []
        none le = ap (λ (ys : List Step). reports x ys (run x (take n xs) s)) (drop_of_length-le xs le)

    refused : accepted (sync_answer eid fid a w) ≡ false → RunSays n eid fid a a1 a2 w
    refused r = record { made = λ y. absurd (true≢false (sym y ∙ r)); rest = call_reports eid fid a a1 a2 w; first = sym (rw r); all = λ f. absurd (true≢false (sym f ∙ rw r)) }

-- ---- the other calls

pub others-say-nothing : OthersSayNothing
unfolding call_reports done_reports
others-say-nothing eid fid a0 a1 a2 w c r = rw (ne_eqb fid fid_sret r, ne_eqb fid fid_csr c) (go (accepted (call_answer eid fid a0 a1 a2 w)) (eqb fid fid_fence))
  where
    x : Xlen
    x = w.hart.xlen

    xs : List Step
    xs = steps x (map Pending (entries_asked x a0)) (state_of w)

    quiet_all : reports x xs (state_of w) ≡ []
    quiet_all =
        ap (λ (ys : List Step). reports x ys (state_of w)) (sym (take_all (length xs) xs (omega arith)))
        ∙ reports-quiet x (length xs) xs (state_of w) (quiet-entries x (entries_asked x a0) (state_of w))

    go : (b f : Bool) → cond b (cond f (reports x xs (state_of w)) []) [] ≡ []
    go true true = quiet_all
    go true false = refl
    go false f = refl

-- ---- how many

pub reports-are-few : ReportsAreFew
reports-are-few (Call eid fid a0 a1 a2) w = call-most eid fid a0 a1 a2 w
reports-are-few (Stoppable n eid fid a) w = omega (arith, stop-most n eid fid a w)
reports-are-few (Lines lines) w = omega arith
reports-are-few (TrapBack t) w = omega (arith, trap-few t w)
