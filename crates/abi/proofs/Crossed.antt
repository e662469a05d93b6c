-- What a crossing answers and leaves, for a block that is refused and for one that is taken.
use mathlib.Core.Path.{◌≡◌, ap, ◌∙◌, subst}
use mathlib.Core.Bool.{Bool, true, false}
use mathlib.Core.List.{List}
use Prim.Native.Nat.{ℕ}
use lib.IntN.{ℤ}
use lib.ListN.{length}
use Rattle.std.specs.Prelude.{Err}
use Rattle.text.specs.Buffer.{over}
use Rattle.layout.specs.declared.xlen.Xlen.{Xlen}
use Rattle.hart.specs.declared.record.Hart.{Hart}
use Rattle.hart.specs.Dropped.{Report, report_words}
use Rattle.checks.specs.declared.answer.Refusal.TheVariants.{Failed}
use Rattle.world.specs.World.{World, lent}
use Rattle.checks.specs.Codes.{Answer, code_of}
use Rattle.block.specs.Block.{well_formed, record_of, block_of}
use Rattle.abi.specs.Answers.{answered}
use Rattle.abi.specs.Crossings.{Lent, lent_block, world_of, lent_of, width_of, cross_answer, cross_left, cross_steps, cross_finished, cross_reports, Crosses}
use Rattle.block.proofs.BlockLaws.{block-of-record}

-- what is lent with a well-formed block is lent of the world that it holds
pub lent_back : (l : Lent) → well_formed l.hart ≡ true → lent_of (world_of l) ≡ l
lent_back l y = ap (λ (b : List ℕ). lent_block b l.base l.memory l.table) (block-of-record l.hart y)

-- a crossing that was taken at the world w: the answer a, what was reported, the record h', memory m and table t that are left, and the buffer
pub record Taken (answer : World → Answer) (left : World → World) (steps : World → ℕ) (finished : World → Bool) (says : World → List Report) (w : World) (a : Answer) (n : ℕ)
    (f : Bool) (k : ℕ) (h' : Hart) (m t out out' : List ℕ) : Type 0 where
  pub said : a ≡ answer w
  pub count : n ≡ steps w
  pub all : f ≡ finished w
  pub world : lent h' w.base m t ≡ left w
  pub many : k ≡ length (says w)
  pub reports : out' ≡ over out 0 (report_words (says w))

module _ {answer : World → Answer} {left : World → World} {steps : World → ℕ} {finished : World → Bool} {says : World → List Report}
    {l : Lent} {block out block' : List ℕ} {r : ℤ} where
  -- a block that is not well formed
  pub refused : well_formed l.hart ≡ false → (r ≡ code_of (Err Failed)) × (block' ≡ answered (Err Failed) 0 false 0 block)
      → Crosses answer left steps finished says l block out r l block' out
  unfolding cross_answer cross_left cross_steps cross_finished cross_reports over
  refused n (c, e) = record { code = rw n c; lent = rw n; told = rw n e; reports = rw n }

  -- one that is
  pub crossed : {h' : Hart} {a : Answer} {n k : ℕ} {f : Bool} {m t b' out' : List ℕ} → well_formed l.hart ≡ true
      → Taken answer left steps finished says (world_of l) a n f k h' m t out out'
      → (b' ≡ block_of h') × (r ≡ code_of a) × (block' ≡ answered a n f k block)
      → Crosses answer left steps finished says l block out r (lent_block b' l.base m t) block' out'
  unfolding cross_answer cross_left cross_steps cross_finished cross_reports
  crossed {m = m} {t = t} y d (s, c, q) =
      record {
        code = rw y (c ∙ ap code_of d.said);
        lent = rw y (ap (λ (b : List ℕ). lent_block b l.base m t) s ∙ ap lent_of d.world);
        told = rw y (q ∙ rw (d.said, d.count, d.all, d.many));
        reports = rw y d.reports;
      }
