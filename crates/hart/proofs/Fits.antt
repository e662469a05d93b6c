-- Readings fit a word, writes keep that, and a well-made hart's numbers do.
use mathlib.Core.Path.{◌≡◌, subst}
use mathlib.Core.Bool.{true}
use Prim.Native.Nat.{ℕ, ◌^◌, ◌<◌}
use native.Mathlib.Omega.{arith}
use lib.Bits.{bit_and, and_le_r}
use lib.Dec.{eqb, eqb→eq}
use lib.ListN.{get_or}
use borrow.Author.Tests.{eqb-true}
use Rattle.layout.specs.declared.xlen.Xlen.{Xlen}
use Rattle.layout.specs.Width.{bits}
use Rattle.csr.specs.Csrs.{Csr, nth}
use Rattle.hart.specs.declared.record.Hart.{Hart}
use Rattle.hart.specs.Stored.{stored_count, stored, place_of, held, fresh_csrs}
use Rattle.hart.specs.Record.{fresh}
use Rattle.hart.specs.Registers.{written, read, write}
use Rattle.hart.specs.WellMade.{leaves, well_made}
use Rattle.hart.proofs.BitLaws.{in-word}
use Rattle.hart.proofs.Places.{Stored, nth-stored}
use Rattle.hart.proofs.Readings.{reads}
use Rattle.hart.proofs.Rules.{rule, write_keeps}
use Rattle.hart.proofs.Shape.{Words, fresh-words}
use Rattle.hart.proofs.Tests.{upto-at}
use Rattle.hart.proofs.WellMadeLaws.{csrs-legal, well_made-parts}

-- every reading fits a word
pub read_fits : (c : Csr) (h : Hart) → Words h → read c h < 2 ^ bits h.xlen
read_fits c h w = (reads c).fits h.xlen h.csrs h.lines w.csrs w.lines

-- after any write, of any value, the hart's numbers still fit
pub words-write : (c : Csr) (v : ℕ) (h : Hart) → Words h → Words (write c v h)
words-write c v h w =
    record {
      csrs = λ k b. write_keeps (λ k y. k < stored_count → y < 2 ^ bits h.xlen) h.xlen c v h.csrs (λ f l. (rule h.xlen c v).fits h.csrs (f l)) k (w.csrs k) b;
      lines = w.lines;
    }

-- what is legal in a stored register fits
legal-fits : (x : Xlen) (c : Csr) (v : ℕ) → Stored c → leaves x c v ≡ true → v < 2 ^ bits x
unfolding leaves
legal-fits x c v s e =
    subst (λ (y : ℕ). y < 2 ^ bits x) (eqb-true (held c (written x c v (fresh_csrs x))) v e) ((words-write c v (fresh x 0) (fresh-words x 0)).csrs (place_of c) s)

-- a well-made hart's numbers fit
pub well_made-words : (h : Hart) → well_made h ≡ true → Words h
well_made-words h e =
    let p = well_made-parts h e in
    record {
      csrs = λ k b. subst (λ (j : ℕ). get_or h.csrs j 0 < 2 ^ bits h.xlen) (place k b)
          (legal-fits h.xlen (nth stored k) (held (nth stored k) h.csrs) (nth-stored k b) ((csrs-legal h).0 p.csrs (nth stored k) (nth-stored k b)));
      lines = in-word h.xlen (omega (arith, and_le_r h.lines 0xFE, eqb-true (bit_and h.lines 0xFE) h.lines p.lines));
    }
  where
    place : (k : ℕ) → k < stored_count → place_of (nth stored k) ≡ k
    place k b = eqb→eq (place_of (nth stored k)) k (upto-at (λ k. eqb (place_of (nth stored k)) k) stored_count tt k b)
