-- A fence entry as a part of the page (01, "Fence entries"), at the register width x.
use Rattle.std.specs.Prelude.{◌≡◌, Bool, cond, ◌&&◌, List, [], ℕ, ◌+◌, ◌*◌, eqb, ltb, length, take, drop}
use Rattle.std.specs.Borrow.{Bor}
use Rattle.layout.specs.declared.xlen.Xlen.{Xlen}
use Rattle.layout.specs.Width.{bytes}
use Rattle.layout.specs.Geometry.{entry_at, entry_count, page_size}

-- entry e is on the page p: the page has 8,192 bytes and the index is at most 119 at XLEN 32; 12,288 and 59 at XLEN 64
abbrev pub is_there : Xlen → List ℕ → ℕ → Bool
is_there x p e = eqb (length p) (page_size (bytes x)) && ltb e (entry_count (bytes x))

-- the four words of entry e; an index above the last or a page of another length gives an empty part
unfoldable pub entry_part : Xlen → List ℕ → ℕ → List ℕ
entry_part x p e = cond (is_there x p e) (take (4 * bytes x) (drop (entry_at (bytes x) e) p)) []

-- how far into the page the part begins; an empty one begins where the page does
unfoldable pub part_start : Xlen → List ℕ → ℕ → ℕ
part_start x p e = cond (is_there x p e) (entry_at (bytes x) e) 0

-- a slice is entry e as that part of the page itself: it has the part's bytes, and lies in the page, where the part begins
pub record PartOf (x : Xlen) (page : Bor (List ℕ)) (e : ℕ) (part : Bor (List ℕ)) : Type 0 where
  pub bytes : part.now ≡ entry_part x page.now e
  pub place : part.ref_ptr ≡ (page.ref_ptr.0, page.ref_ptr.1 + part_start x page.now e)
