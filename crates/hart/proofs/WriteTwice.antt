-- A write done a second time changes nothing.
use mathlib.Core.List.{List, [], ◌∷◌}
use mathlib.Core.Path.{◌≡◌, refl, sym, ap, ◌∙◌}
use Prim.Native.Nat.{ℕ, zero, suc, ◌<◌, zero-le, suc-le-suc}
use lib.ListN.{length, set}
use Rattle.csr.specs.Csrs.{Csr}
use Rattle.hart.specs.declared.record.Hart.{Hart}
use Rattle.hart.specs.Record.{with_csrs}
use Rattle.hart.specs.Registers.{written, write}
use Rattle.hart.proofs.Places.{changes}
use Rattle.hart.proofs.Rules.{rule}

-- a second store of the same number at a place changes nothing, nor does any store past the end
set-again : (l : List ℕ) (k x y : ℕ) → (k < length l → y ≡ x) → set (set l k x) k y ≡ set l k x
set-again [] k x y e = refl
set-again (a ∷ l) zero x y e = ap (λ (z : ℕ). z ∷ l) (e (suc-le-suc zero-le))
set-again (a ∷ l) (suc k) x y e = ap (λ (r : List ℕ). a ∷ r) (set-again l k x y (λ h. e (suc-le-suc h)))

-- for every register, value and hart
pub write-twice : (c : Csr) (v : ℕ) (h : Hart) → write c v (write c v h) ≡ write c v h
write-twice c v h =
    let r = rule h.xlen c v in
    let once : List ℕ = set h.csrs (changes c) (r.value h.csrs) in
    ap (with_csrs h)
    (ap (written h.xlen c v) (r.writes h.csrs) ∙ r.writes once
    ∙ set-again h.csrs (changes c) (r.value h.csrs) (r.value once) (r.twice h.csrs) ∙ sym (r.writes h.csrs))
