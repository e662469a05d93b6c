-- What a request gives and leaves across the boundary.
use mathlib.Core.Path.{◌≡◌, ap, ◌∙◌, subst}
use mathlib.Core.Bool.{true, false}
use mathlib.Core.List.{List}
use mathlib.Core.Logic.{◌≢◌}
use Prim.Native.Nat.{ℕ, ◌^◌, ◌<◌}
use native.Mathlib.Omega.{arith}
use lib.IntN.{ℤ, pos, neg_ℤ}
use borrow.Author.Tests.{ne_eqb}
use Rattle.layout.specs.declared.xlen.Xlen.{Xlen}
use Rattle.layout.specs.declared.xlen.Xlen.TheVariants.{X32, X64}
use Rattle.layout.specs.Width.{bits}
use Rattle.hypervisor.specs.Answers.{Answer, value_of, result_of}
use Rattle.hypervisor.specs.Requests.{Request, RequestIs}
use Rattle.hypervisor.proofs.Outcomes.{value-most}
use Rattle.block.specs.Block.{xlen_of, is_width}
use Rattle.abi.specs.Requests.{RequestCrosses}

-- a width's number names it
named : (x : Xlen) (w : ℕ) → w ≡ bits x → (is_width w ≡ true) × (x ≡ xlen_of w)
named X32 w e = (rw e, rw e)
named X64 w e = (rw e, rw e)

module _ (xlen : ℕ) (r : Request) (p : List ℕ) where
  pub no-width : xlen ≢ 32 → xlen ≢ 64 → RequestCrosses xlen r p (neg_ℤ (pos 1)) p
  no-width m n = let none : is_width xlen ≡ false = rw (ne_eqb xlen 32 m, ne_eqb xlen 64 n) in record { result = rw none; page = rw none }

  -- a request was made at the width that the number names
  module _ {x : Xlen} {a : Answer} {q : List ℕ} (at : xlen ≡ bits x) (made : RequestIs x r p a q) where
    here : RequestIs (xlen_of xlen) r p a q
    here = subst (λ (y : Xlen). RequestIs y r p a q) (named x xlen at).1 made

    pub small : value_of a < 2 ^ 63
    small = omega (arith, made.answer.value, value-most x r p)

    pub crosses : {n : ℤ} → n ≡ result_of a → RequestCrosses xlen r p n q
    crosses e = let w = (named x xlen at).0 in record { result = rw w (e ∙ ap result_of here.answer.same); page = rw w here.page }
