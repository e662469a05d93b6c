-- What the argument about register turns uses of pages and registers, as one list of laws.
use mathlib.Core.Path.{◌≡◌, refl}
use mathlib.Core.Bool.{true, false}
use mathlib.Core.List.{List}
use Prim.Native.Nat.{ℕ}
use Rattle.layout.specs.declared.xlen.Xlen.{Xlen}
use Rattle.csr.specs.Csrs.{Csr, followers}
use Rattle.csr.proofs.Table.{same as same-table}
use Rattle.hart.specs.declared.record.Hart.{Hart}
use Rattle.hart.specs.Registers.{read, write}
use Rattle.hart.proofs.Frame.{member as mem}
use Rattle.page.specs.Registers.{IsPage, is_dirty, clear_mark, csr_word, put_csr}
use Rattle.page.proofs.RegisterLaws.{same}

pub record Laws (xlen : Xlen) : Type 0 where
  pub same-eq : (c d : Csr) → same c d ≡ true → c ≡ d
  pub page-put : (c : Csr) (v : ℕ) (p : List ℕ) → IsPage xlen p → IsPage xlen (put_csr xlen c v p)
  pub page-clear : (c : Csr) (p : List ℕ) → IsPage xlen p → IsPage xlen (clear_mark c p)
  pub dirty-put : (c d : Csr) (v : ℕ) (p : List ℕ) → IsPage xlen p → is_dirty (put_csr xlen c v p) d ≡ is_dirty p d
  pub dirty-clear-same : (c : Csr) (p : List ℕ) → IsPage xlen p → is_dirty (clear_mark c p) c ≡ false
  pub dirty-clear-other : (c d : Csr) (p : List ℕ) → IsPage xlen p → same d c ≡ false → is_dirty (clear_mark c p) d ≡ is_dirty p d
  pub word-put : (c d : Csr) (v : ℕ) (p : List ℕ) → IsPage xlen p → same d c ≡ false → csr_word xlen (put_csr xlen c v p) d ≡ csr_word xlen p d
  pub word-clear : (c d : Csr) (p : List ℕ) → IsPage xlen p → csr_word xlen (clear_mark c p) d ≡ csr_word xlen p d
  pub put_same : (c : Csr) (u v : ℕ) (p : List ℕ) → IsPage xlen p → put_csr xlen c v (put_csr xlen c u p) ≡ put_csr xlen c v p
  pub put_other : (c d : Csr) (u v : ℕ) (p : List ℕ) → IsPage xlen p → same d c ≡ false → put_csr xlen c v (put_csr xlen d u p) ≡ put_csr xlen d u (put_csr xlen c v p)
  pub put-clear : (c d : Csr) (v : ℕ) (p : List ℕ) → IsPage xlen p → put_csr xlen c v (clear_mark d p) ≡ clear_mark d (put_csr xlen c v p)
  pub clear_comm : (c d : Csr) (p : List ℕ) → IsPage xlen p → clear_mark c (clear_mark d p) ≡ clear_mark d (clear_mark c p)
  pub clear-clean : (c : Csr) (p : List ℕ) → IsPage xlen p → is_dirty p c ≡ false → clear_mark c p ≡ p
  pub read-write : (c d : Csr) (v : ℕ) (h : Hart) → same d c ≡ false → mem d (followers c) ≡ false → read d (write c v h) ≡ read d h
  pub write-twice : (c : Csr) (v : ℕ) (h : Hart) → write c v (write c v h) ≡ write c v h

-- no register is its own follower
pub not-own-follower : (c : Csr) → mem c (followers c) ≡ false
not-own-follower = same-table (λ (c : Csr). mem c (followers c)) (λ (c : Csr). false) refl
