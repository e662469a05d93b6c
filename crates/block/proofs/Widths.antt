-- What the conversion of a word to a width says of the word.
use mathlib.Core.Path.{◌≡◌}
use Prim.Native.Nat.{ℕ}
use borrow.Author.Tests.{ne_eqb}
use Rattle.std.specs.Prelude.{Result, Ok, Err, Bool, true, false, Some, None, cond, refl}
use Rattle.std.specs.Bool.{then_some}
use Rattle.std.specs.Result.{is_ok, result_unwrap_or}
use Rattle.layout.specs.declared.xlen.Xlen.{Xlen}
use Rattle.layout.specs.declared.xlen.Xlen.TheVariants.{X32, X64}
use Rattle.layout.specs.declared.xlen.UnknownWidth.{UnknownWidth}
use Rattle.layout.specs.Width.{IsWidthOf}
use Rattle.block.specs.Block.{xlen_of, is_width}

-- whether it is a width's,
pub is-width : (w : ℕ) (r : Result Xlen UnknownWidth) → IsWidthOf w r → is_width w ≡ is_ok r
is-width w (Ok X32) e = rw e
is-width w (Ok X64) e = rw e
is-width w (Err d) n = rw (ne_eqb w 32 n.1, ne_eqb w 64 n.2)

-- and which it names
pub width-named : (w : ℕ) (r : Result Xlen UnknownWidth) → IsWidthOf w r → xlen_of w ≡ result_unwrap_or r X64
width-named w (Ok X32) e = rw e
width-named w (Ok X64) e = rw e
width-named w (Err d) n = rw (ne_eqb w 32 n.1)

-- a page's address by its flag
pub page-set : (b : Bool) (a : ℕ) → then_some b a ≡ cond b (Some a) None
page-set true a = refl
page-set false a = refl
