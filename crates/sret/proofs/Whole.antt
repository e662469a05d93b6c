-- What SRET offers: registers in as many steps as are allowed, entries in one pass.
use mathlib.Core.Path.{◌≡◌, ap, ◌∙◌}
use mathlib.Core.Bool.{Bool, true, false}
use mathlib.Core.List.{List, [], map}
use Prim.Native.Nat.{ℕ, ◌≤◌}
use native.Mathlib.Omega.{arith}
use Rattle.layout.specs.declared.xlen.Xlen.{Xlen}
use Rattle.layout.specs.declared.xlen.Xlen.TheVariants.{X32, X64}
use Rattle.csr.specs.Csrs.{csr_count, turn_order}
use Rattle.hart.specs.Features.{has_feature}
use Rattle.page.specs.Registers.{IsPage}
use Rattle.page.specs.Entries.{every_entry}
use Rattle.world.specs.State.{State}
use Rattle.turns.specs.Marks.{Mark, Dirty, Pending}
use Rattle.turns.specs.Turn.{turns}
use Rattle.turns.specs.Steps.{steps, total, stopped, Made}
use Rattle.turns.proofs.Turns.{enough}
use Rattle.turns.proofs.Totals.{most_of, all-le}
use Rattle.sync.specs.Turns.{dirty_at_turn, marks_from}
use Rattle.sync.proofs.AllMarks.{all-csrs}
use Rattle.sync.proofs.Choice.{first, second}
use Rattle.sret.specs.Sret.{csrs_offered, entries_offered}

-- the marks ks are those of ms
all_made : (xlen : Xlen) {ks : List Mark} (ms : List Mark) {s s' : State} {n l : ℕ} {o : Bool} → ks ≡ ms → IsPage xlen s.page → total xlen ms s ≤ n
    → Made xlen (steps xlen ks s) s n s' l o → s' ≡ turns xlen ms s
unfolding stopped
all_made xlen ms {s} {n = n} e g le a = a.state ∙ ap (λ (ks : List Mark). stopped xlen n ks s) e ∙ enough xlen n ms s g le

-- at most so many steps of all registers
pub few-csrs : (xlen : Xlen) → most_of xlen ≤ 88
few-csrs X32 = omega arith
few-csrs X64 = omega arith

module _ (xlen : Xlen) (features : ℕ) {s s' : State} {b o : Bool} {n l : ℕ} (g : IsPage xlen s.page) where
  -- feature 0 is present
  pub registers-done : 88 ≤ n → b ≡ has_feature features 0 → b ≡ true → Made xlen (steps xlen (marks_from (dirty_at_turn xlen) 0 csr_count) s) s n s' l o
      → s' ≡ turns xlen (csrs_offered xlen features) s
  registers-done le e y a =
      all_made xlen (map Dirty (turn_order xlen)) (all-csrs xlen) g (omega (arith, all-le xlen s, few-csrs xlen)) a
      ∙ ap (λ (ms : List Mark). turns xlen ms s) (first (map Dirty (turn_order xlen)) [] e y)

module _ (xlen : Xlen) (features : ℕ) (s : State) {b : Bool} where
  -- feature 0 is absent
  pub registers-left : b ≡ has_feature features 0 → b ≡ false → s ≡ turns xlen (csrs_offered xlen features) s
  unfolding turns
  registers-left e n = ap (λ (ms : List Mark). turns xlen ms s) (second (map Dirty (turn_order xlen)) [] e n)

  -- feature 1 is there
  pub entries-done : b ≡ has_feature features 1 → b ≡ true → turns xlen (map Pending (every_entry xlen)) s ≡ turns xlen (entries_offered xlen features) s
  entries-done e y = ap (λ (ms : List Mark). turns xlen ms s) (first (map Pending (every_entry xlen)) [] e y)

  -- feature 1 is absent
  pub entries-left : b ≡ has_feature features 1 → b ≡ false → s ≡ turns xlen (entries_offered xlen features) s
  unfolding turns
  entries-left e n = ap (λ (ms : List Mark). turns xlen ms s) (second (map Pending (every_entry xlen)) [] e n)
