-- Elements copied one by one, from a list that another becomes.
use mathlib.Core.Path.{◌≡◌, ◌∙◌}
use mathlib.Core.List.{List}
use Prim.Native.Nat.{ℕ, ◌+◌, ◌≤◌, ◌<◌}
use native.Mathlib.Omega.{arith}
use lib.ListN.{length, get_or, set, length-set}
use lib.Seq.{get_or-set_same, get_or-set_other, ext_get_or}
use borrow.Author.Count.{below_more}

-- the first i words of `words` stand in `out`, which is as long
pub record Copied (words out : List ℕ) (i : ℕ) : Type 0 where
  pub within : i ≤ length out
  pub size : length out ≡ length words
  pub same : (k : ℕ) → k < i → get_or out k 0 ≡ get_or words k 0

-- one more
pub copied_more : (words out : List ℕ) (i : ℕ) → i < length out → Copied words out i → Copied words (set out i (get_or words i 0)) (i + 1)
copied_more words out i l c =
    record {
      within = omega (arith, length-set out i (get_or words i 0));
      size = length-set out i (get_or words i 0) ∙ c.size;
      same = below_more _ _ (λ k f. get_or-set_other out i k (get_or words i 0) 0 (λ (e : k ≡ i). omega arith) ∙ c.same k f) (get_or-set_same out i (get_or words i 0) 0 l);
    }

-- all
pub copied_all : (words out : List ℕ) (i : ℕ) → length out ≤ i → Copied words out i → out ≡ words
copied_all words out i l c = ext_get_or 0 out words c.size (λ k f. c.same k (omega arith))
