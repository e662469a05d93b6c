-- How long the lines and the listing are.
use mathlib.Core.Bool.{Bool, true, false, cond, ◌&&◌}
use mathlib.Core.List.{List}
use Prim.Native.Nat.{ℕ, ◌*◌, ◌≤◌}
use native.Mathlib.Omega.{arith}
use lib.Dec.{eqb}
use lib.ListN.{length, length-append}
use Rattle.text.specs.Ascii.{ascii}
use Rattle.text.proofs.Lengths.{length-hex, length-decimal}
use Rattle.csr.specs.Csrs.{Csr, csr_count, every_csr, turn_order, has}
use Rattle.layout.specs.declared.xlen.Xlen.{Xlen}
use Rattle.layout.specs.declared.xlen.Xlen.TheVariants.{X32, X64}
use Rattle.layout.specs.Width.{bytes}
use Rattle.layout.specs.Geometry.{entry_count, page_size}
use Rattle.fence.specs.Entry.{type_of, order_of, vmid_of, asid_of, readable}
use Rattle.page.specs.Registers.{is_dirty}
use Rattle.page.specs.Entries.{every_entry, entry_word, is_pending}
use Rattle.lister.specs.Marks.{those, dirty_csrs, pending_entries}
use Rattle.lister.specs.Listing.{lines, csr_line, fields, fence_line, totals, page_lines, listing, max_length}
use Rattle.lister.proofs.Chosen.{length-those, those-had, length-lines, entry-count}

-- a word has at most eight bytes
pub bytes-few : (x : Xlen) → bytes x ≤ 8
bytes-few X32 = omega arith
bytes-few X64 = omega arith

-- a page has at most 120 entries
pub entries-few : (x : Xlen) → entry_count (bytes x) ≤ 120
entries-few X32 = omega arith
entries-few X64 = omega arith

pub length-csr : (x : Xlen) (p : List ℕ) (c : Csr) → length (csr_line x p c) ≤ 25
unfolding csr_line
length-csr x p c = simp (length-append, length-hex) (omega (arith, bytes-few x))

pub length_fields : (x : Xlen) (config page count : ℕ) → length (fields x config page count) ≤ 159
unfolding fields
length_fields x config page count =
    simp length-append
    (omega (arith, length-decimal (type_of x config), length-decimal (order_of x config), length-decimal (vmid_of x config), length-decimal (asid_of x config), length-decimal page, length-decimal count))

pub length-fence : (x : Xlen) (p : List ℕ) (e : ℕ) → length (fence_line x p e) ≤ 185
unfolding fence_line
length-fence x p e = simp length-append (omega (arith, length-decimal e, rest (readable x (entry_word x p e 0) (entry_word x p e 2))))
  where
    rest : (b : Bool) → length (cond b (fields x (entry_word x p e 0) (entry_word x p e 1) (entry_word x p e 3)) (ascii " all\n")) ≤ 159
    rest true = length_fields _ _ _ _
    rest false = omega arith

pub length-totals : (csrs fences : ℕ) → length (totals csrs fences) ≤ 56
unfolding totals
length-totals csrs fences = simp length-append (omega (arith, length-decimal csrs, length-decimal fences))

pub length-csrs : (x : Xlen) (p : List ℕ) → length (lines (csr_line x p) (dirty_csrs x p)) ≤ 25 * csr_count
unfolding dirty_csrs
length-csrs x p =
    let few : length (those (is_dirty p) (turn_order x)) ≤ csr_count = rw (← those-had x (is_dirty p) every_csr) (length-those (λ (c : Csr). has x c && is_dirty p c) every_csr) in
    omega (arith, length-lines 25 (csr_line x p) (length-csr x p) (those (is_dirty p) (turn_order x)))

pub length-fences : (x : Xlen) (p : List ℕ) → length (lines (fence_line x p) (pending_entries x p)) ≤ 185 * entry_count (bytes x)
unfolding pending_entries
length-fences x p =
    let few = length-those (is_pending x p) (every_entry x) in
    omega (arith, entry-count x, length-lines 185 (fence_line x p) (length-fence x p) (those (is_pending x p) (every_entry x)))

-- a page's listing
pub length-page : (x : Xlen) (p : List ℕ) → length (page_lines x p) ≤ max_length
unfolding page_lines
length-page x p =
    simp length-append
    (omega (arith, length-csrs x p, length-fences x p, entries-few x, length-totals (length (dirty_csrs x p)) (length (pending_entries x p))))

pub length-listing : (image : List ℕ) → length (listing image) ≤ max_length
unfolding listing
length-listing image = go (eqb (length image) (page_size (bytes X32))) (eqb (length image) (page_size (bytes X64)))
  where
    go : (narrow wide : Bool) → length (cond narrow (page_lines X32 image) (cond wide (page_lines X64 image) (ascii "bad length\n"))) ≤ max_length
    go true wide = length-page X32 image
    go false true = length-page X64 image
    go false false = omega arith
