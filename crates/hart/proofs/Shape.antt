-- A hart record's lists' lengths, and that its numbers fit a word of its width.
use mathlib.Core.Path.{◌≡◌, refl}
use Prim.Native.Nat.{ℕ, ◌^◌, ◌<◌}
use lib.Dec.{T, ltb, ltb→lt, lit<}
use lib.ListN.{length, get_or}
use Rattle.layout.specs.declared.xlen.Xlen.{Xlen}
use Rattle.layout.specs.declared.xlen.Xlen.TheVariants.{X32, X64}
use Rattle.layout.specs.Width.{bits}
use Rattle.hart.specs.declared.record.Hart.{Hart}
use Rattle.hart.specs.Stored.{stored_count, fresh_csrs}
use Rattle.hart.specs.Record.{fresh}
use Rattle.hart.proofs.BitLaws.{in-word}
use Rattle.hart.proofs.Tests.{upto-at}

-- 20 stored registers, 32 general ones
pub record Sized (h : Hart) : Type 0 where
  pub csrs : length h.csrs ≡ stored_count
  pub x : length h.x ≡ 32

-- each stored register and the lines fit a word
pub record Words (h : Hart) : Type 0 where
  pub csrs : (k : ℕ) → k < stored_count → get_or h.csrs k 0 < 2 ^ bits h.xlen
  pub lines : h.lines < 2 ^ bits h.xlen

-- a fresh hart has these lengths
pub fresh-sized : (x : Xlen) (n : ℕ) → Sized (fresh x n)
fresh-sized X32 n = record { csrs = refl; x = refl }
fresh-sized X64 n = record { csrs = refl; x = refl }

-- a fresh hart's numbers fit
pub fresh-words : (x : Xlen) (n : ℕ) → Words (fresh x n)
fresh-words x n = record { csrs = λ k lt. ltb→lt (get_or (fresh_csrs x) k 0) (2 ^ bits x) (small x k lt); lines = in-word x (lit< tt) }
  where
    small : (x : Xlen) (k : ℕ) → k < stored_count → T (ltb (get_or (fresh_csrs x) k 0) (2 ^ bits x))
    small X32 = upto-at (λ k. ltb (get_or (fresh_csrs X32) k 0) (2 ^ 32)) stored_count tt
    small X64 = upto-at (λ k. ltb (get_or (fresh_csrs X64) k 0) (2 ^ 64)) stored_count tt
