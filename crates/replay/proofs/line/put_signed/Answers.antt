-- `line::put_signed` meets its contract: a negative number is a dash and its absolute value in decimal.
use Rattle.std.proofs.Common.{◌≡◌, ℕ, true, false, true≢false, ltb-true, ℤ, pos, negsuc, unsigned_abs, arith}
use lib.Signed.{lt_z}
use mir.Facts.{to_z-of_z}
use mir.Syntax.{w64}
use mir.Val.{SFits}
use Rattle.text.specs.Ascii.{ascii}
use Rattle.text.specs.Buffer.{Put}
use Rattle.text.specs.Numerals.{decimal}
use Rattle.text.specs.declared.Buffer.{Buffer}
use Rattle.text.proofs.Puts.{◌then◌}
use Rattle.replay.specs.Lines.{signed}
use Rattle.replay.proofs.line.put_signed.Goals as goal
use Rattle.replay.proofs.line.put_signed.Goals.{then-n-lt0, else-n-lt0}

-- the two signs
module _ {b d : Buffer ℕ} (n : ℕ) where
  negative : {c : Buffer ℕ} (z : ℤ) → n ≡ unsigned_abs z → lt_z z (pos 0) ≡ true → Put b (ascii "-") c → Put c (decimal n) d → Put b (signed z) d
  unfolding signed
  negative (pos k) a lt p q = absurd (omega (arith, ltb-true k 0 lt))
  negative (negsuc k) a lt p q = p then (rw a at q)

  positive : (z : ℤ) → n ≡ unsigned_abs z → lt_z z (pos 0) ≡ false → Put b (decimal n) d → Put b (signed z) d
  unfolding signed
  positive (pos k) a lt p = rw a at p
  positive (negsuc k) a lt p = absurd (true≢false lt)

pub put_decimal-requires : goal.put_decimal-requires
put_decimal-requires c =
    elim c.if-n-lt0.branch [
      | then-n-lt0 w ↦ rw w.out-is (omega (arith, w.put_text.ensures.wrote.place))
      | else-n-lt0 w ↦ rw w.out-is (omega arith)
    ]

pub returns-clause-puts : goal.returns-clause-puts
returns-clause-puts c =
    let fits : SFits w64 c.args.n = c.ranges.n in
    let size = simp to_z-of_z at c.unsigned_abs.ensures.value in
    elim c.if-n-lt0.branch [
      | then-n-lt0 w ↦ negative _ c.args.n size (simp to_z-of_z at w.if-n-lt0.true) w.put_text.ensures (rw w.out-is at c.put_decimal.ensures.puts)
      | else-n-lt0 w ↦ positive _ c.args.n size (simp to_z-of_z at w.if-n-lt0.false) (rw w.out-is at c.put_decimal.ensures.puts)
    ]
