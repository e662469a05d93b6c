-- The general registers that the context gives, one by one.
use mathlib.Core.Path.{◌≡◌, refl, sym, ap, ◌∙◌}
use mathlib.Core.List.{List}
use Prim.Native.Nat.{ℕ, zero, suc, ◌+◌, ◌≤◌, ◌<◌}
use native.Mathlib.Nat.{add-zero}
use native.Mathlib.Omega.{arith}
use lib.ListN.{length, get_or, set, length-set}
use lib.Seq.{ext_get_or, get_or-set_same, get_or-set_other}
use native.Mathlib.Decide.{dec_lt}
use Rattle.layout.specs.declared.xlen.Xlen.{Xlen}
use Rattle.layout.specs.declared.xlen.Xlen.TheVariants.{X32, X64}
use Rattle.layout.specs.Width.{bytes}
use Rattle.layout.specs.Geometry.{context_at, page_size}
use Rattle.layout.specs.Words.{word_at}
use Rattle.sret.specs.Context.{context_from, general}

context-length : (xlen : Xlen) (i n : ℕ) (p : List ℕ) → length (context_from xlen i n p) ≡ n
unfolding context_from
context-length xlen i zero p = refl
context-length xlen i (suc n) p = ap suc (context-length xlen (i + 1) n p)

context-word : (xlen : Xlen) (i n : ℕ) (p : List ℕ) (k : ℕ) → k < n
    → get_or (context_from xlen i n p) k 0 ≡ word_at (bytes xlen) p (context_at (bytes xlen) (i + k))
unfolding context_from
context-word xlen i zero p k b = absurd (omega arith)
context-word xlen i (suc n) p zero b = ap (λ (m : ℕ). word_at (bytes xlen) p (context_at (bytes xlen) m)) (sym (add-zero i))
context-word xlen i (suc n) p (suc k) b =
    let e : i + 1 + k ≡ i + suc k = omega arith in
    context-word xlen (i + 1) n p k (omega arith) ∙ ap (λ (m : ℕ). word_at (bytes xlen) p (context_at (bytes xlen) m)) e

-- its words are in the page
pub context-fits : (xlen : Xlen) (i : ℕ) → i < 32 → context_at (bytes xlen) i + bytes xlen ≤ page_size (bytes xlen)
context-fits X32 i b = omega arith
context-fits X64 i b = omega arith

-- X0 is 0, and X1 up to the one before Xi are loaded
pub record Loaded (xlen : Xlen) (p x : List ℕ) (i : ℕ) : Type 0 where
  pub some : 1 ≤ i
  pub most : i ≤ 32
  pub size : length x ≡ 32
  pub zeroth : get_or x 0 0 ≡ 0
  pub words : (k : ℕ) → 1 ≤ k → k < i → get_or x k 0 ≡ word_at (bytes xlen) p (context_at (bytes xlen) k)

-- one register more
pub loaded-more : (xlen : Xlen) (p x : List ℕ) (i v : ℕ) → i < 32 → v ≡ word_at (bytes xlen) p (context_at (bytes xlen) i)
    → Loaded xlen p x i → Loaded xlen p (set x i v) (i + 1)
loaded-more xlen p x i v b e l =
    record {
      some = omega arith;
      most = omega arith;
      size = length-set x i v ∙ l.size;
      zeroth = let s = l.some in get_or-set_other x i 0 v 0 (omega arith) ∙ l.zeroth;
      words = λ k f g. go k f g (dec_lt k i);
    }
  where
    go : (k : ℕ) → 1 ≤ k → k < i + 1 → Dec (k < i) → get_or (set x i v) k 0 ≡ word_at (bytes xlen) p (context_at (bytes xlen) k)
    go k f g (yes m) = get_or-set_other x i k v 0 (omega arith) ∙ l.words k f m
    go k f g (no m) =
        let q : k ≡ i = omega arith in
        let s = l.size in
        rw q (get_or-set_same x i v 0 (omega arith) ∙ e)

-- all of them
pub loaded-all : (xlen : Xlen) (p x : List ℕ) (i : ℕ) → 32 ≤ i → Loaded xlen p x i → x ≡ general xlen p
loaded-all xlen p x i b l = ext_get_or 0 x (general xlen p) (l.size ∙ sym (ap suc (context-length xlen 1 31 p))) go
  where
    go : (k : ℕ) → k < length x → get_or x k 0 ≡ get_or (general xlen p) k 0
    go zero h = l.zeroth
    go (suc k) h =
        let s = l.size in
        let e : suc k ≡ 1 + k = omega arith in
        l.words (suc k) (omega arith) (omega arith) ∙ ap (λ (m : ℕ). word_at (bytes xlen) p (context_at (bytes xlen) m)) e
        ∙ sym (context-word xlen 1 31 p k (omega arith))
