-- The parts of SRET keep the record's width.
use mathlib.Core.Path.{◌≡◌, refl, sym, ap, ◌∙◌}
use mathlib.Core.Bool.{Bool, true, false, cond}
use mathlib.Core.List.{List}
use Prim.Native.Nat.{ℕ}
use Rattle.layout.specs.declared.xlen.Xlen.{Xlen}
use Rattle.hart.specs.declared.record.Hart.{Hart}
use Rattle.hart.specs.Record.{with_general, returned}
use Rattle.page.specs.Registers.{IsPage}
use Rattle.world.specs.State.{State, state_from}
use Rattle.turns.specs.Marks.{Mark}
use Rattle.turns.specs.Turn.{turns}
use Rattle.turns.specs.Steps.{steps}
use Rattle.sret.specs.Sret.{swaps, swapped, autoswapped}
use Rattle.turns.proofs.Kept.{state-same, run-kept}
use Rattle.turns.proofs.Turns.{all-steps}

-- turns
turns-width : (xlen : Xlen) (ms : List Mark) (s : State) → IsPage xlen s.page → (turns xlen ms s).hart.xlen ≡ s.hart.xlen
turns-width xlen ms s g =
    ap (λ (t : State). t.hart.xlen) (sym (all-steps xlen ms s g)) ∙ (run-kept xlen (steps xlen ms s) s s (state-same xlen s g)).hart.xlen

pub synced-width : (xlen : Xlen) (ms : List Mark) (h : Hart) (p t : List ℕ) {g : Hart} {q u : List ℕ} → IsPage xlen p
    → state_from g q u ≡ turns xlen ms (state_from h p t) → g.xlen ≡ h.xlen
synced-width xlen ms h p t i e = ap (λ (s : State). s.hart.xlen) e ∙ turns-width xlen ms (state_from h p t) i

-- the general registers
pub loaded-width : (h : Hart) (x : List ℕ) {g : Hart} → g ≡ with_general h x → g.xlen ≡ h.xlen
loaded-width h x e = ap (λ (k : Hart). k.xlen) e

-- the swap
pub swapped-width : (xlen : Xlen) (h : Hart) (p t : List ℕ) {g : Hart} {q u : List ℕ} → state_from g q u ≡ autoswapped xlen (state_from h p t) → g.xlen ≡ h.xlen
unfolding autoswapped swapped
swapped-width xlen h p t e = ap (λ (s : State). s.hart.xlen) e ∙ go (swaps xlen h.features p)
  where
    go : (b : Bool) → (cond b (swapped xlen (state_from h p t)) (state_from h p t)).hart.xlen ≡ h.xlen
    go true = refl
    go false = refl

-- the return
pub returned-width : (h : Hart) {g : Hart} → g ≡ returned h → g.xlen ≡ h.xlen
unfolding returned
returned-width h e = ap (λ (k : Hart). k.xlen) e
