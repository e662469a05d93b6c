-- Laws of a register's word and dirty bit in the page: stores and clears of one register and of another.
use mathlib.Core.Path.{◌≡◌, sym, ap, ◌∙◌}
use mathlib.Core.Bool.{Bool, true, false}
use mathlib.Core.List.{List}
use mathlib.Core.Logic.{◌≢◌}
use Prim.Native.Nat.{ℕ}
use lib.Dec.{eqb}
use borrow.Author.Tests.{eqb-true, eqb-false}
use Rattle.csr.specs.Csrs.{Csr, number, turn_of, at_turn}
use Rattle.csr.proofs.Turns.{number-injective, number-window, number_lt, at_turn-turn_of}
use Rattle.layout.specs.declared.xlen.Xlen.{Xlen}
use Rattle.layout.specs.Width.{bytes}
use Rattle.layout.specs.Geometry.{csr_at}
use Rattle.layout.proofs.WordLaws.{length-put, put-put-same, put-put-comm}
use Rattle.layout.proofs.DirtyLaws as Bits
use Rattle.layout.proofs.PageLaws.{csr-off, csr-apart, csr-put-dirty, csr-put-other}
use Rattle.layout.proofs.IndexLaws.{index-lt, index-inj}
use Rattle.page.specs.Registers.{IsPage, index, is_dirty, clear_mark, csr_word, put_csr}

-- the two registers are the same
abbrev pub same : Csr → Csr → Bool
same c d = eqb (turn_of c) (turn_of d)

pub same-eq : (c d : Csr) → same c d ≡ true → c ≡ d
same-eq c d e = sym (at_turn-turn_of c) ∙ ap at_turn (eqb-true (turn_of c) (turn_of d) e) ∙ at_turn-turn_of d

-- registers that are not the same have different indexes
pub index-differs : (c d : Csr) → same d c ≡ false → index c ≢ index d
index-differs c d n e =
    eqb-false (turn_of d) (turn_of c) n
    (ap turn_of (sym (number-injective c d (index-inj (number c) (number d) (number_lt c) (number_lt d) (number-window c) (number-window d) e))))

module _ (x : Xlen) where
  pub page-put : (c : Csr) (v : ℕ) (p : List ℕ) → IsPage x p → IsPage x (put_csr x c v p)
  unfolding put_csr
  page-put c v p g = length-put (bytes x) p (csr_at (bytes x) (index c)) v ∙ g

  pub page-clear : (c : Csr) (p : List ℕ) → IsPage x p → IsPage x (clear_mark c p)
  unfolding clear_mark
  page-clear c p g = Bits.length-clear p (index c) ∙ g

  pub dirty-put : (c d : Csr) (v : ℕ) (p : List ℕ) → IsPage x p → is_dirty (put_csr x c v p) d ≡ is_dirty p d
  unfolding put_csr is_dirty
  dirty-put c d v p g = csr-put-dirty (bytes x) p (index c) v (index d) (index-lt (number d))

  pub dirty-clear-same : (c : Csr) (p : List ℕ) → IsPage x p → is_dirty (clear_mark c p) c ≡ false
  unfolding clear_mark is_dirty
  dirty-clear-same c p g = Bits.dirty-clear-same p (index c)

  pub dirty-clear-other : (c d : Csr) (p : List ℕ) → IsPage x p → same d c ≡ false → is_dirty (clear_mark c p) d ≡ is_dirty p d
  unfolding clear_mark is_dirty
  dirty-clear-other c d p g n = Bits.dirty-clear-other p (index c) (index d) (index-differs c d n)

  pub word-put : (c d : Csr) (v : ℕ) (p : List ℕ) → IsPage x p → same d c ≡ false → csr_word x (put_csr x c v p) d ≡ csr_word x p d
  unfolding put_csr csr_word
  word-put c d v p g n = csr-put-other (bytes x) p (index c) v (index d) (index-differs c d n)

  pub word-clear : (c d : Csr) (p : List ℕ) → IsPage x p → csr_word x (clear_mark c p) d ≡ csr_word x p d
  unfolding clear_mark csr_word
  word-clear c d p g = Bits.word-clear (bytes x) p (index c) (csr_at (bytes x) (index d)) (index-lt (number c)) (csr-off (bytes x) (index d))

  pub put_same : (c : Csr) (u v : ℕ) (p : List ℕ) → IsPage x p → put_csr x c v (put_csr x c u p) ≡ put_csr x c v p
  unfolding put_csr
  put_same c u v p g = put-put-same (bytes x) p (csr_at (bytes x) (index c)) u v

  pub put_other : (c d : Csr) (u v : ℕ) (p : List ℕ) → IsPage x p → same d c ≡ false → put_csr x c v (put_csr x d u p) ≡ put_csr x d u (put_csr x c v p)
  unfolding put_csr
  put_other c d u v p g n = put-put-comm (bytes x) (bytes x) p (csr_at (bytes x) (index c)) v (csr_at (bytes x) (index d)) u (csr-apart (bytes x) (index c) (index d) (index-differs c d n))

  pub put-clear : (c d : Csr) (v : ℕ) (p : List ℕ) → IsPage x p → put_csr x c v (clear_mark d p) ≡ clear_mark d (put_csr x c v p)
  unfolding put_csr clear_mark
  put-clear c d v p g = Bits.put-clear (bytes x) p (csr_at (bytes x) (index c)) v (index d) (index-lt (number d)) (csr-off (bytes x) (index c))

  pub clear_comm : (c d : Csr) (p : List ℕ) → IsPage x p → clear_mark c (clear_mark d p) ≡ clear_mark d (clear_mark c p)
  unfolding clear_mark
  clear_comm c d p g = Bits.clear_comm p (index d) (index c)

  pub clear-clean : (c : Csr) (p : List ℕ) → IsPage x p → is_dirty p c ≡ false → clear_mark c p ≡ p
  unfolding clear_mark is_dirty
  clear-clean c p g n = Bits.clear-clean p (index c) n
