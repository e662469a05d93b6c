-- An answer's block of five words.
use Rattle.std.specs.Prelude.{Bool, cond, List, [], ◌∷◌, ℕ, eqb, length}
use Rattle.checks.specs.Codes.{Answer, value_of, is_resumed}
use Rattle.block.specs.Block.{flag_word}

-- how many words an answer's block has
abbrev pub answer_length : ℕ
answer_length = 5

-- where the number of reports stands
abbrev pub reports_at : ℕ
reports_at = 4

-- value, resumed, steps, finished, and how many register writes dropped bits
abbrev pub answer_words : Answer → ℕ → Bool → ℕ → List ℕ
answer_words r steps finished reports = value_of r ∷ flag_word (is_resumed r) ∷ steps ∷ flag_word finished ∷ reports ∷ []

-- the answer's block afterwards; one of another length is left alone
unfoldable pub answered : Answer → ℕ → Bool → ℕ → List ℕ → List ℕ
answered r steps finished reports block = cond (eqb (length block) answer_length) (answer_words r steps finished reports) block
