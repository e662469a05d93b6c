-- 01's sample tickets T1 to T12 as one list: what the definitions give, and what 01 says; and the claim about the list.
use Rattle.std.specs.Prelude.{◌≡◌, cond, List, [], ◌∷◌, ◌++◌, map, ℕ, zero, suc, ◌+◌, ◌-◌, ◌*◌, ◌^◌, ℤ, pos, neg_ℤ, replicate, set, Some}
use Rattle.csr.specs.Csrs.{Csr, Hstatus, Hgeip, Hgeie, Hideleg, Hvip, Hip, Vsip, Hgatp, number, turn_order}
use Rattle.layout.specs.declared.xlen.Xlen.TheVariants.{X64}
use Rattle.layout.specs.Geometry.{csr_at, entry_at, page_size}
use Rattle.layout.specs.Words.{put_word}
use Rattle.layout.specs.Dirty.{dirty, set_dirty}
use Rattle.hart.specs.declared.record.Hart.{Hart}
use Rattle.hart.specs.Bits.{all_ones}
use Rattle.hart.specs.Dropped.{report_of, report_words}
use Rattle.hart.specs.Record.{fresh, with_lines, with_shmem}
use Rattle.hart.specs.Registers.{read, write}
use Rattle.fence.specs.Entry.{decoded}
use Rattle.fence.specs.Names.{names}
use Rattle.fence.specs.Slots.{slot_word}
use Rattle.page.specs.Registers.{index, csr_word, put_csr}
use Rattle.page.specs.Entries.{entry_word}
use Rattle.world.specs.Memory.{part_at}
use Rattle.world.specs.World.{World, lent}
use Rattle.checks.specs.Fids.{eid_nacl, fid_csr, fid_fence}
use Rattle.checks.specs.Codes.{code_of}
use Rattle.checks.specs.Checks.{call_answer}
use Rattle.nacl.specs.Calls.{call_left}

-- a page of zeros
abbrev pub blank : List ℕ
blank = replicate (page_size 8) 0

-- the numbers of those of these registers that are dirty on the page
abbrev dirty_of : List Csr → List ℕ → List ℤ
dirty_of [] page = []
dirty_of (c ∷ cs) page = cond (dirty page (index c)) (pos (number c) ∷ dirty_of cs page) (dirty_of cs page)

-- where a register stands: its index, its word, and the registers that this one bit of a page marks
abbrev places : Csr → ℕ → ℕ → List ℤ
places c byte bit = pos (index c) ∷ pos (csr_at 8 (index c)) ∷ dirty_of (turn_order X64) (set blank byte (2 ^ bit))

-- a fresh hart with all features, its page at the start of a memory of these bytes, and this table
abbrev pub lent_fresh : List ℕ → List ℕ → World
lent_fresh memory table = lent (with_shmem (fresh X64 15) (Some 0x80000000)) 0x80000000 memory table

-- the page at the start of memory
abbrev pub first_page : World → List ℕ
first_page w = part_at (page_size 8) 0 w.memory

-- the code of FID 2 with this number
abbrev code_of_sync : ℕ → List ℤ
code_of_sync n = code_of (call_answer eid_nacl fid_csr n 0 0 (lent_fresh blank [])) ∷ []

-- a fresh hart with hvip written 0xFFFF
abbrev hvip_written : Hart
hvip_written = write Hvip 0xFFFF (fresh X64 0)

-- a fresh hart with line 3 up, VGEIN 3, hgeie 0x08, hvip 0
abbrev line_three_up : Hart
line_three_up = write Hgeie 0x08 (write Hstatus (3 * 2 ^ 12) (with_lines (fresh X64 0) (2 ^ 3)))

-- a fresh hart with hgatp written 0x9000000000000007
abbrev hgatp_written : Hart
hgatp_written = write Hgatp 0x9000000000000007 (fresh X64 0)

-- hvip dirty with 0, hip dirty with 4
abbrev pub two_dirty : List ℕ
two_dirty = (put_csr X64) Hip 4 ((put_csr X64) Hvip 0 (set_dirty (set_dirty blank (index Hvip)) (index Hip)))

-- after FID 2 with all-ones on this page
abbrev pub all_csrs_left : List ℕ → World
all_csrs_left page = call_left eid_nacl fid_csr (all_ones X64) 0 0 (lent_fresh page [])

-- the words of hvip and hip
abbrev pub hvip_and_hip : List ℕ → List ℤ
hvip_and_hip page = pos ((csr_word X64) page Hvip) ∷ pos ((csr_word X64) page Hip) ∷ []

-- a page with this Config, Page_Number and Page_Count in entry 0
abbrev pub fence_page : ℕ → ℕ → ℕ → List ℕ
fence_page config first count =
    put_word 8 (put_word 8 (put_word 8 blank (entry_at 8 0) config) (entry_at 8 0 + 8) first) (entry_at 8 0 + 24) count

-- after FID 3 with index 0 on this page and this table
abbrev pub fence_left : List ℕ → List ℕ → World
fence_left page table = call_left eid_nacl fid_fence 0 0 0 (lent_fresh page table)

-- a used slot with this guest physical page
abbrev pub used_slot : ℕ → List ℕ
used_slot page = 2 ^ 63 ∷ 0 ∷ page ∷ 0 ∷ []

-- word 0 of the first four slots
abbrev pub first_words : List ℕ → List ℤ
first_words t = pos (slot_word t 0 0) ∷ pos (slot_word t 1 0) ∷ pos (slot_word t 2 0) ∷ pos (slot_word t 3 0) ∷ []

-- T10's Config: Pending, type 0, Order 9
abbrev pub config_of_ten : ℕ
config_of_ten = 2 ^ 63 + 9 * 2 ^ 48

-- T10's page, and slots of four guest physical pages
abbrev pub tenth : World
tenth = fence_left (fence_page config_of_ten 1 1) (used_slot 511 ++ (used_slot 512 ++ (used_slot 1023 ++ used_slot 1024)))

-- T11's, and a slot of page 0
abbrev pub eleventh : World
eleventh = fence_left (fence_page (2 ^ 63) (2 ^ 64 - 1) 2) (used_slot 0)

-- T12's, and no slots
abbrev pub twelfth : World
twelfth = fence_left (fence_page 0x8200000000050000 0 0) []

-- n pages from page p on
abbrev pages_from : ℕ → ℕ → List ℕ
pages_from p zero = []
pages_from p (suc n) = p ∷ pages_from (p + 1) n

-- 1 for each of these guest physical pages that T10's entry names
abbrev named_by_ten : List ℕ → List ℤ
named_by_ten pages = map (λ p. cond (names (decoded X64 config_of_ten 1 0 1) (2 ^ 63) 0 p) (pos 1) (pos 0)) pages

-- one of 01's sample tickets, or a sample of 02: what is given, and what the paper wants
pub record Sample : Type 0 where
  pub given : List ℤ
  pub wanted : List ℤ

-- 01's sample tickets T1 to T12, and what two writes say (02, Req 07)
abbrev pub samples : List Sample
samples =
    -- T1 hip: index 0x144, word 0x1A20, bit 4 of 0xFA8, which marks 0x644 alone
    record { given = places Hip 0xFA8 4; wanted = pos 0x144 ∷ pos 0x1A20 ∷ pos 0x644 ∷ [] }
    -- T2 hgeip: 0x312, 0x2890, bit 2 of 0xFE2, which marks 0xE12 alone
    ∷ record { given = places Hgeip 0xFE2 2; wanted = pos 0x312 ∷ pos 0x2890 ∷ pos 0xE12 ∷ [] }
    -- T3 sync 0x344: -3
    ∷ record { given = code_of_sync 0x344; wanted = neg_ℤ (pos 3) ∷ [] }
    -- T4 0x1644: -3
    ∷ record { given = code_of_sync 0x1644; wanted = neg_ℤ (pos 3) ∷ [] }
    -- T5 0x6A8 (hcontext): -3
    ∷ record { given = code_of_sync 0x6A8; wanted = neg_ℤ (pos 3) ∷ [] }
    -- T6 hvip written 0xFFFF: 0x444; hideleg 0x004 then gives vsip 0x002
    ∷ record {
      given = pos (read Hvip hvip_written) ∷ pos (read Vsip (write Hideleg 0x004 hvip_written)) ∷ [];
      wanted = pos 0x444 ∷ pos 0x002 ∷ [];
    }
    -- T7 line 3 up, VGEIN 3, hgeie 0x08, hvip 0: hip 0x1400
    ∷ record { given = pos (read Hvip line_three_up) ∷ pos (read Hip line_three_up) ∷ []; wanted = pos 0 ∷ pos 0x1400 ∷ [] }
    -- T8 fresh hgatp written 0x9000000000000007: 4
    ∷ record { given = pos (read Hgatp hgatp_written) ∷ []; wanted = pos 4 ∷ [] }
    -- and this write says 680 9000000000000003 (02, Req 07)
    ∷ record {
      given = map (λ (n : ℕ). pos n) (report_words (report_of Hgatp 0x9000000000000007 hgatp_written));
      wanted = pos 0x680 ∷ pos 0x9000000000000003 ∷ [];
    }
    -- hstatus written 0 says 600 0000000200000000: bits given 0 that read 1 are said too
    ∷ record {
      given = map (λ (n : ℕ). pos n) (report_words (report_of Hstatus 0 (write Hstatus 0 (fresh X64 0))));
      wanted = pos 0x600 ∷ pos 0x200000000 ∷ [];
    }
    -- T9 hvip dirty with 0, hip dirty with 4, all-ones: both words 4
    ∷ record { given = hvip_and_hip (first_page (all_csrs_left two_dirty)); wanted = pos 4 ∷ pos 4 ∷ [] }
    -- T10 Order 9, Page_Number 1, Page_Count 1: pages 512 to 1023; 511 and 1024 stay
    ∷ record { given = named_by_ten (pages_from 0 2048); wanted = replicate 512 (pos 0) ++ (replicate 512 (pos 1) ++ replicate 1024 (pos 0)) }
    ∷ record { given = first_words tenth.table; wanted = pos (2 ^ 63) ∷ pos 0 ∷ pos 0 ∷ pos (2 ^ 63) ∷ [] }
    -- T11 Page_Number 2^64-1, Page_Count 2, Order 0: not page 0
    ∷ record { given = pos (slot_word eleventh.table 0 0) ∷ []; wanted = pos (2 ^ 63) ∷ [] }
    -- T12 Config 0x8200000000050000 becomes 0x0200000000050000
    ∷ record { given = pos ((entry_word X64) (first_page twelfth) 0 0) ∷ []; wanted = pos 0x0200000000050000 ∷ [] }
    ∷ []

-- the claim: of every sample what is given is what the paper wants
unfoldable pub SamplesHold : Type 0
SamplesHold = map (λ (t : Sample). t.given) samples ≡ map (λ (t : Sample). t.wanted) samples
