-- `Test::of` meets its contract: a page for each kind of range, and every page where all are meant.
use Rattle.pass.proofs.TestLaws.{test-is, every-page}
use Rattle.pass.proofs.bounds.Test.of.Goals as goal
use Rattle.pass.proofs.bounds.Test.of.Goals.{in-All, in-Physical, in-Virtual}

pub returns : goal.returns
returns c =
    elim c.match-f.branch [
      | in-All w ↦ rw w.page-is (test-is _ _ _ _ c.who_of.ensures (λ word1 word2 a b. rw w.in-All.is (every-page word1 a)))
      | in-Physical w ↦ rw w.page-is (test-is _ _ _ _ c.who_of.ensures (λ word1 word2 a b. rw w.in-Physical.is (w.span_of.ensures word2 b)))
      | in-Virtual w ↦ rw w.page-is (test-is _ _ _ _ c.who_of.ensures (λ word1 word2 a b. rw w.in-Virtual.is (w.span_of-in-Virtual.ensures word1 a)))
    ]
