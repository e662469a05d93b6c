-- A register that is written is marked, and its word is the value. The mark comes last.
use Rattle.std.specs.Prelude.{Option, Some, None}
use mathlib.Core.Path.{◌≡◌, refl, sym, ◌∙◌, subst}
use mathlib.Core.Bool.{Bool, true, false, cond}
use Prim.Native.Nat.{ℕ, zero, suc, ◌<◌}
use native.Mathlib.Omega.{arith}
use lib.ListN.{take}
use Rattle.layout.specs.declared.xlen.Xlen.{Xlen}
use Rattle.layout.specs.Width.{bytes}
use Rattle.layout.specs.Dirty.{dirty}
use Rattle.layout.proofs.PageLaws.{csr-put-dirty}
use Rattle.csr.specs.Csrs.{at_turn, lookup}
use Rattle.hart.specs.WellMade.{fits_word}
use Rattle.page.specs.Registers.{index}
use Rattle.hypervisor.specs.Answers.{is_done}
use Rattle.hypervisor.specs.Requests.{Register, stored_all, register_stores, stores, good_params, answer_to, left_after}
use Rattle.hypervisor.proofs.Answered.{passed, left-done}
use Rattle.hypervisor.proofs.Stores.{word_fits}
use Rattle.hypervisor.proofs.Written.{stores-written, mark-own, word-own}
use Rattle.halves.specs.Claims.{Marked, RegistersAreMarked, MarksComeLast}

-- the value of a good request fits a word
pub value-fits : (x : Xlen) (n v t : ℕ) → lookup x n ≡ Some t → good_params x (Register n v) ≡ true → fits_word x v ≡ true
value-fits x n v t e g = rw e at g

pub registers-marked : RegistersAreMarked
registers-marked x n v t p o e d =
    let q = passed x (Register n v) p d in
    subst (Marked x (at_turn t) v) (sym (left-done x (Register n v) p d ∙ stores-written x n v t p e))
    (record {
      mark = mark-own x (at_turn t) v p q.page;
      word = word-own x (at_turn t) v p q.page (word_fits x v (value-fits x n v t e q.good) (o 0));
    })

-- the first store is the word's
pub marks-last : MarksComeLast
unfolding left_after stores stored_all
marks-last n x m v p i h b = go (is_done (answer_to x (Register m v) p)) n (lookup x m) h
  where
    go : (t : Bool) (n : ℕ) (f : Option ℕ) → n < 2 → dirty (cond t (stored_all x (take n (register_stores x v f)) p) p) i ≡ dirty p i
    go true zero f h = refl
    go true (suc zero) (Some t) h = csr-put-dirty (bytes x) p (index (at_turn t)) v i b
    go true (suc zero) None h = refl
    go true (suc (suc n)) f h = absurd (omega arith)
    go false n f h = refl
