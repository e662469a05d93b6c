-- The sample of 01 at either width: hvip dirty with 4 and entry 2 = type 2, VMID 5, page 16, count 1.
use mathlib.Core.Path.{◌≡◌, refl}
use mathlib.Core.List.{List, ◌++◌}
use Prim.Native.Nat.{ℕ, ◌+◌, ◌*◌}
use lib.ListN.{replicate}
use Rattle.text.specs.Ascii.{ascii}
use Rattle.text.specs.Numerals.{glyph, hex, last_digits}
use Rattle.layout.specs.Geometry.{csr_at, entry_at, index_of, page_size}
use Rattle.layout.specs.Words.{put_word}
use Rattle.layout.specs.Dirty.{set_dirty}
use Rattle.page.specs.Registers.{is_dirty, csr_word}
use Rattle.page.specs.Entries.{entry_word, is_pending}
use Rattle.lister.specs.Marks.{those, dirty_csrs, pending_entries}
use Rattle.lister.specs.Listing.{lines, csr_line, fields, fence_line, totals, page_lines, listing}

-- hvip dirty with 4, where a word has w bytes
marked : ℕ → List ℕ
marked w = put_word w (set_dirty (replicate (page_size w) 0) (index_of 0x645)) (csr_at w (index_of 0x645)) 4

-- and entry 2 pending with this Config
page : ℕ → ℕ → List ℕ
page w config = put_word w (put_word w (put_word w (marked w) (entry_at w 2) config) (entry_at w 2 + w) 16) (entry_at w 2 + 3 * w) 1

sample : listing (page 8 0x8200000000050000)
    ≡ ascii "csr 645 0000000000000004\n" ++ ascii "fence 2 type 2 order 0 vmid 5 asid 0 page 16 count 1\n" ++ ascii "dirty 1 pending 1\n"
unfolding glyph hex last_digits is_dirty csr_word entry_word is_pending those dirty_csrs pending_entries lines csr_line fields fence_line totals page_lines listing marked page
sample = refl

-- at XLEN 32 hvip's word stands at 0x1514
narrow-place : csr_at 4 (index_of 0x645) ≡ 0x1514
narrow-place = refl

narrow-sample : listing (page 4 0x82000A00)
    ≡ ascii "csr 645 00000004\n" ++ ascii "fence 2 type 2 order 0 vmid 5 asid 0 page 16 count 1\n" ++ ascii "dirty 1 pending 1\n"
unfolding glyph hex last_digits is_dirty csr_word entry_word is_pending those dirty_csrs pending_entries lines csr_line fields fence_line totals page_lines listing marked page
narrow-sample = refl
