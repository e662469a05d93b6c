-- What writing a register leaves: its word and its mark, the other registers' words and marks as they were, and every entry.
use Rattle.std.specs.Prelude.{Some}
use mathlib.Core.Path.{◌≡◌, ◌∙◌}
use mathlib.Core.Bool.{true, false}
use mathlib.Core.List.{List}
use Prim.Native.Nat.{ℕ, ◌+◌, ◌*◌, ◌^◌, ◌<◌}
use native.Mathlib.Omega.{arith}
use Rattle.layout.specs.declared.xlen.Xlen.{Xlen}
use Rattle.layout.specs.Width.{bytes}
use Rattle.layout.specs.Geometry.{csr_at, entry_at, entry_count}
use Rattle.layout.specs.Dirty.{set_dirty}
use Rattle.layout.proofs.DirtyLaws.{dirty-set-same, dirty-set-other, word-set-dirty}
use Rattle.layout.proofs.PageLaws.{csr-off, csr-put-same, csr-put-entry, entry-off}
use Rattle.layout.proofs.IndexLaws.{index-lt}
use Rattle.csr.specs.Csrs.{Csr, number, at_turn, lookup}
use Rattle.page.specs.Registers.{IsPage, index, is_dirty, csr_word, put_csr}
use Rattle.page.specs.Entries.{entry_word}
use Rattle.page.proofs.RegisterLaws.{same, index-differs, page-put, dirty-put, word-put}
use Rattle.hypervisor.specs.Requests.{Register, stored_all, stores}

-- the page with v in the register's word, and then its mark
abbrev pub written : Xlen → Csr → ℕ → List ℕ → List ℕ
written x c v p = set_dirty (put_csr x c v p) (index c)

-- that is what the stores of a register that is found leave
pub stores-written : (x : Xlen) (n v t : ℕ) (p : List ℕ) → lookup x n ≡ Some t → stored_all x (stores x (Register n v) p) p ≡ written x (at_turn t) v p
unfolding stored_all stores put_csr
stores-written x n v t p e = rw e

module _ (x : Xlen) (c : Csr) (v : ℕ) (p : List ℕ) (g : IsPage x p) where
  pub mark-own : is_dirty (written x c v p) c ≡ true
  unfolding is_dirty
  mark-own = let k = page-put x c v p g in dirty-set-same (put_csr x c v p) (index c) (index-lt (number c)) (omega arith)

  pub mark-other : (d : Csr) → same d c ≡ false → is_dirty (written x c v p) d ≡ is_dirty p d
  unfolding is_dirty
  mark-other d n = dirty-set-other (put_csr x c v p) (index c) (index d) (index-differs c d n) ∙ dirty-put x c d v p g

  pub word-own : v < 256 ^ bytes x → csr_word x (written x c v p) c ≡ v
  unfolding csr_word put_csr
  word-own b =
      word-set-dirty (bytes x) (put_csr x c v p) (index c) (csr_at (bytes x) (index c)) (index-lt (number c)) (csr-off (bytes x) (index c))
      ∙ csr-put-same (bytes x) p (index c) v (index-lt (number c)) g b

  pub word-other : (d : Csr) → same d c ≡ false → csr_word x (written x c v p) d ≡ csr_word x p d
  unfolding csr_word
  word-other d n =
      word-set-dirty (bytes x) (put_csr x c v p) (index c) (csr_at (bytes x) (index d)) (index-lt (number c)) (csr-off (bytes x) (index d))
      ∙ word-put x c d v p g n

  pub entry-stays : (e k : ℕ) → e < entry_count (bytes x) → k < 4 → entry_word x (written x c v p) e k ≡ entry_word x p e k
  unfolding entry_word put_csr
  entry-stays e k b h =
      word-set-dirty (bytes x) (put_csr x c v p) (index c) (entry_at (bytes x) e + bytes x * k) (index-lt (number c)) (entry-off (bytes x) e k b h)
      ∙ csr-put-entry (bytes x) p (index c) v e k b h
