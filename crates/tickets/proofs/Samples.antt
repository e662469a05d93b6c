-- The claim about the list of sample tickets.
use mathlib.Core.List.{List, ◌∷◌}
use mathlib.Core.Path.{◌≡◌, refl, ap₂}
use lib.IntN.{ℤ}
use Rattle.hart.specs.Dropped.{report_of}
use Rattle.hart.specs.WellMade.{leaves}
use Rattle.checks.specs.Checks.{call_answer, answer_by, check1, check2}
use Rattle.tickets.specs.Samples.{SamplesHold}
use Rattle.tickets.proofs.CsrSamples.{nine}
use Rattle.tickets.proofs.FenceSamples.{ten, eleven, twelve}

-- one sample, and the rest
next : {x y : List ℤ} {xs ys : List (List ℤ)} → x ≡ y → xs ≡ ys → x ∷ xs ≡ y ∷ ys
next e f = ap₂ ◌∷◌ e f

pub samples-hold : SamplesHold
unfolding SamplesHold report_of call_answer answer_by check1 check2 leaves
samples-hold =
    next refl (next refl (next refl (next refl (next refl (next refl (next refl (next refl (next refl (next refl
    (next nine (next refl (next ten (next eleven (next twelve refl))))))))))))))
