-- The hypervisor's requests across the boundary: the width is a number, and one number comes back.
use Rattle.std.specs.Prelude.{◌≡◌, cond, List, ℕ, ℤ, pos, neg_ℤ}
use Rattle.hypervisor.specs.Answers.{result_of}
use Rattle.hypervisor.specs.Requests.{Request, answer_to, left}
use Rattle.block.specs.Block.{xlen_of, is_width}

-- the request's value, an entry's number or 0, or the code of its refusal; -1 for a width that is neither 32 nor 64
abbrev pub request_result : ℕ → Request → List ℕ → ℤ
request_result xlen r p = cond (is_width xlen) (result_of (answer_to (xlen_of xlen) r p)) (neg_ℤ (pos 1))

-- and then the page is left alone
abbrev pub request_left : ℕ → Request → List ℕ → List ℕ
request_left xlen r p = cond (is_width xlen) (left (xlen_of xlen) r p) p

-- the request r on the page p gives n and leaves q
pub record RequestCrosses (xlen : ℕ) (r : Request) (p : List ℕ) (n : ℤ) (q : List ℕ) : Type 0 where
  pub result : n ≡ request_result xlen r p
  pub page : q ≡ request_left xlen r p
