-- The page in memory.
use Rattle.std.specs.Prelude.{Option, Some, None}
use mathlib.Core.Path.{◌≡◌, refl}
use mathlib.Core.Bool.{true, false≢true, and-eq-true_iff}
use mathlib.Core.List.{List}
use Prim.Native.Nat.{ℕ, ◌+◌}
use native.Mathlib.Omega.{arith}
use lib.Dec.{leb}
use lib.ListN.{length}
use borrow.Author.Tests.{leb-true}
use Rattle.layout.specs.declared.xlen.Xlen.{Xlen}
use Rattle.layout.specs.Width.{bytes}
use Rattle.layout.specs.Geometry.{page_size}
use Rattle.world.specs.World.{page_there, page_offset}
use Rattle.world.proofs.MemoryLaws.{Room}

-- that the page is there goes by memory's length alone
pub there-cong : (xlen : Xlen) (base : ℕ) (m n : List ℕ) (s : Option ℕ) → length m ≡ length n → page_there xlen base m s ≡ page_there xlen base n s
there-cong xlen base m n None e = refl
there-cong xlen base m n (Some x) e = rw e

-- a page that is there has room
pub room : (xlen : Xlen) (base : ℕ) (m : List ℕ) (s : Option ℕ) → page_there xlen base m s ≡ true → Room (page_size (bytes xlen)) (page_offset base s) m
room xlen base m None t = absurd (false≢true t)
room xlen base m (Some x) t =
    let (l, h) = (and-eq-true_iff (leb base x) (leb (x + page_size (bytes xlen)) (base + length m))).0 t in
    omega (arith, leb-true base x l, leb-true (x + page_size (bytes xlen)) (base + length m) h)
