-- `abi::answers::tell` meets its contract: a block of five words is those five.
use borrow.Author.Tests.{eq-eqb, ne_eqb}
use Rattle.std.proofs.Common.{◌≡◌, ℕ, Bool, true, false, [], ◌∷◌, refl, ◌∙◌}
use Rattle.std.specs.Int.{from_bool}
use Rattle.checks.specs.Codes.{Answer, value_of, is_resumed}
use Rattle.block.specs.Block.{flag_word}
use Rattle.abi.specs.Answers.{answer_words, answered}
use Rattle.abi.proofs.Codes.{as_is}
use Rattle.abi.proofs.answers.tell.Goals as goal
use Rattle.abi.proofs.answers.tell.Goals.{then-words-eq5, else-words-eq5}

flag : (b : Bool) → from_bool b ≡ flag_word b
flag true = refl
flag false = refl

words : (said : Answer) (finished r : Bool) (v f steps g k : ℕ) → v ≡ value_of said → r ≡ is_resumed said → f ≡ from_bool r → g ≡ from_bool finished
    → v ∷ f ∷ steps ∷ g ∷ k ∷ [] ≡ answer_words said steps finished k
words said finished r v f steps g k a b c d = rw (a, c, b, d, flag (is_resumed said), flag finished)

pub returns : goal.returns
unfolding answered
returns c = (
  as_is c.code.type_inv ∙ c.code.ensures,
  elim c.if-words-eq5.branch [
    | then-words-eq5 w ↦
        rw (eq-eqb _ 5 w.if-words-eq5.true) (w.words-is ∙ w.copy_from_slice.ensures.after
        ∙ words c.args.said c.args.finished _ _ _ _ _ _ w.value.ensures w.is_resumed.ensures w.from.ensures w.from-then-words-eq5.ensures)
    | else-words-eq5 w ↦ rw (ne_eqb _ 5 w.if-words-eq5.false) w.words-is
  ],
)
