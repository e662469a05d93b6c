-- A call has at most one report of each register and one of the swap, so at most 26; a stoppable run none of the swap; a trap no other.
use Rattle.std.specs.Prelude.{Option, Some, None}
use mathlib.Core.Path.{◌≡◌, sym, ap}
use mathlib.Core.Bool.{Bool, true, false, cond, ◌||◌}
use mathlib.Core.List.{List, [], map}
use Prim.Native.Nat.{ℕ, ◌+◌, ◌≤◌}
use native.Mathlib.Omega.{arith}
use lib.Dec.{eqb}
use lib.ListN.{length, take, length-append}
use lib.Seq.{take_all}
use Rattle.layout.specs.declared.xlen.Xlen.{Xlen}
use Rattle.layout.specs.declared.xlen.Xlen.TheVariants.{X32, X64}
use Rattle.layout.specs.Width.{bytes}
use Rattle.layout.specs.Geometry.{swap_at}
use Rattle.layout.specs.Words.{word_at}
use Rattle.csr.specs.Csrs.{Csr, Hstatus, turn_order, lookup}
use Rattle.hart.specs.declared.trap.Trap.{Trap}
use Rattle.hart.specs.Bits.{all_ones}
use Rattle.hart.specs.Features.{has_feature}
use Rattle.hart.specs.Dropped.{Report}
use Rattle.world.specs.World.{World}
use Rattle.world.specs.State.{State, state_of}
use Rattle.turns.specs.Marks.{Dirty, Pending}
use Rattle.turns.specs.Steps.{Step, steps}
use Rattle.turns.specs.Reports.{reports}
use Rattle.turns.proofs.Reported.{report-one, reports-few, writes-turns, reports-quiet, quiet-entries}
use Rattle.checks.specs.Fids.{fid_csr, fid_fence, fid_sret}
use Rattle.checks.specs.Codes.{accepted}
use Rattle.checks.specs.Checks.{call_answer, sync_answer, check7}
use Rattle.stops.specs.Sync.{found_one, csrs_asked, entries_asked, asked, stop_reports}
use Rattle.sret.specs.Sret.{csrs_offered, swaps, swapped, context_loaded, offered_done, swap_reports, sret_reports}
use Rattle.nacl.specs.Calls.{done_reports, call_reports}
use Rattle.nacl.specs.Traps.{trap_taken, trap_answer, trap_reports}

-- either list is short
either-few : (b : Bool) (n : ℕ) (rs qs : List Report) → length rs ≤ n → length qs ≤ n → length (cond b rs qs) ≤ n
either-few true n rs qs p q = p
either-few false n rs qs p q = q

-- the registers of a width
few-turns : (x : Xlen) → (1 ≤ length (turn_order x)) × (length (turn_order x) ≤ 25)
few-turns X32 = (omega arith, omega arith)
few-turns X64 = (omega arith, omega arith)

-- those that are asked for
few-asked : (x : Xlen) (a : ℕ) → length (csrs_asked x a) ≤ length (turn_order x)
few-asked x a = go (eqb a (all_ones x)) (lookup x a)
  where
    go : (b : Bool) (f : Option ℕ) → length (cond b (turn_order x) (found_one f)) ≤ length (turn_order x)
    go true f = omega arith
    go false (Some t) = (few-turns x).0
    go false None = omega arith

-- the swap
swap-few : (x : Xlen) (s : State) → length (swap_reports x s) ≤ 1
unfolding swap_reports
swap-few x s =
    either-few (swaps x s.hart.features s.page) 1 _ [] (report-one Hstatus (word_at (bytes x) s.page (swap_at (bytes x))) (swapped x s).hart) (omega arith)

-- the first n steps of registers' turns
turns-few : (x : Xlen) (n : ℕ) (cs : List Csr) (s : State) → length (reports x (take n (steps x (map Dirty cs) s)) s) ≤ length cs
turns-few x n cs s = omega (arith, reports-few x n (steps x (map Dirty cs) s) s, writes-turns x cs s)

-- all of some steps are the first of them
all_first : (x : Xlen) (xs : List Step) (s : State) → reports x xs s ≡ reports x (take (length xs) xs) s
all_first x xs s = ap (λ (ys : List Step). reports x ys s) (sym (take_all (length xs) xs (omega arith)))

-- the first n steps of FID 2 or 3
sync-few : (x : Xlen) (n fid a : ℕ) (s : State) → length (reports x (take n (steps x (asked x fid a) s)) s) ≤ length (turn_order x)
sync-few x n fid a s = go (eqb fid fid_csr)
  where
    go : (b : Bool) → length (reports x (take n (steps x (cond b (map Dirty (csrs_asked x a)) (map Pending (entries_asked x a))) s)) s) ≤ length (turn_order x)
    go true = omega (arith, turns-few x n (csrs_asked x a) s, few-asked x a)
    go false = rw (reports-quiet x n (steps x (map Pending (entries_asked x a)) s) s (quiet-entries x (entries_asked x a) s)) (omega arith)

-- SRET
sret-few : (x : Xlen) (s : State) → length (sret_reports x s) ≤ length (turn_order x) + 1
unfolding sret_reports
sret-few x s =
    let offered = reports x (steps x (csrs_offered x s.hart.features) s) s in
    let swap = swap_reports x (context_loaded x (offered_done x s)) in
    omega (arith, length-append offered swap, few (has_feature s.hart.features 0), swap-few x (context_loaded x (offered_done x s)))
  where
    few : (b : Bool) → length (reports x (steps x (cond b (map Dirty (turn_order x)) []) s) s) ≤ length (turn_order x)
    few true = rw (all_first x (steps x (map Dirty (turn_order x)) s) s) (turns-few x (length (steps x (map Dirty (turn_order x)) s)) (turn_order x) s)
    few false = rw (all_first x (steps x [] s) s) (omega (arith, turns-few x (length (steps x [] s)) [] s))

-- any call
pub call-most : (eid fid a0 a1 a2 : ℕ) (w : World) → length (call_reports eid fid a0 a1 a2 w) ≤ length (turn_order w.hart.xlen) + 1
unfolding call_reports done_reports
call-most eid fid a0 a1 a2 w =
    let x = w.hart.xlen in
    let n = length (turn_order x) + 1 in
    let xs = steps x (asked x fid a0) (state_of w) in
    let sync : length (reports x xs (state_of w)) ≤ n = rw (all_first x xs (state_of w)) (omega (arith, sync-few x (length xs) fid a0 (state_of w))) in
    either-few (accepted (call_answer eid fid a0 a1 a2 w)) n _ []
    (either-few (eqb fid fid_sret) n _ _ (sret-few x (state_of w)) (either-few (eqb fid fid_csr || eqb fid fid_fence) n _ [] sync (omega arith))) (omega arith)

pub call-few : (eid fid a0 a1 a2 : ℕ) (w : World) → length (call_reports eid fid a0 a1 a2 w) ≤ 26
call-few eid fid a0 a1 a2 w = omega (arith, call-most eid fid a0 a1 a2 w, (few-turns w.hart.xlen).1)

-- any stoppable run
pub stop-most : (n eid fid a : ℕ) (w : World) → length (stop_reports n eid fid a w) ≤ length (turn_order w.hart.xlen)
unfolding stop_reports
stop-most n eid fid a w = either-few (accepted (sync_answer eid fid a w)) (length (turn_order w.hart.xlen)) _ [] (sync-few w.hart.xlen n fid a (state_of w)) (omega arith)

-- any trap
pub trap-few : (t : Trap) (w : World) → length (trap_reports t w) ≤ 1
unfolding trap_reports
trap-few t w =
    either-few (accepted (trap_answer w)) 1 _ [] (either-few (check7 (trap_taken t w)) 1 _ [] (swap-few w.hart.xlen (state_of (trap_taken t w))) (omega arith)) (omega arith)
