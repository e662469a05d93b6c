-- `hart::record::Hart::words_fit` meets its contract: at XLEN 64 every word fits.
use mathlib.Core.Bool.{true}
use mathlib.Core.List.{List}
use mathlib.Core.Path.{◌≡◌, sym}
use Prim.Native.Nat.{ℕ}
use Rattle.layout.specs.declared.xlen.Xlen.{Xlen}
use Rattle.layout.specs.declared.xlen.Xlen.TheVariants.{X64}
use Rattle.hart.specs.WellMade.{each_fits, other_words}
use Rattle.hart.proofs.Widths.{each-fits-64}
use Rattle.hart.proofs.record.Hart.words_fit.Goals as goal

at-64 : {x : Xlen} → x ≡ X64 → (l : List ℕ) → true ≡ each_fits x l
at-64 e l = rw e (sym (each-fits-64 l))

pub returns-in-X64 : goal.returns-in-X64
returns-in-X64 c = at-64 c.in-X64.is (other_words c.args.self.now)
