-- A record as a block of words: the stored registers but htimedeltah; the lines, whether a page is set, its address, V, the mode, pc, sepc, SIE,
-- SPIE, SPP and the features; X0 to X31; the width, 32 or 64; htimedeltah; stvec, scause and stval; the count of writes that dropped
-- bits.
use Rattle.std.specs.Prelude.{Bool, cond, ◌&&◌, ◌||◌, List, [], ◌∷◌, ◌++◌, ℕ, ◌+◌, ◌%◌, eqb, leb, ℤ, pos, neg_ℤ, length, take, drop, get_or, Option, Some, None}
use Rattle.layout.specs.declared.xlen.Xlen.{Xlen}
use Rattle.layout.specs.declared.xlen.Xlen.TheVariants.{X32, X64}
use Rattle.layout.specs.Width.{bits}
use Rattle.csr.specs.Csrs.{Htimedeltah}
use Rattle.hart.specs.declared.record.Hart.{Hart}
use Rattle.hart.specs.declared.record.Mode.{Mode}
use Rattle.hart.specs.declared.record.Mode.TheVariants.{U, S}
use Rattle.hart.specs.Stored.{held, place_of}
use Rattle.hart.specs.Record.{fresh, mode_of}
use Rattle.hart.specs.Dropped.{most_dropped}

-- how many stored registers stand first: those before htimedeltah, 19
abbrev pub first_count : ℕ
first_count = place_of Htimedeltah

-- how many words stand between them and the general registers
abbrev pub middle_count : ℕ
middle_count = 11

-- where the general registers begin
abbrev pub general_at : ℕ
general_at = first_count + middle_count

-- how many there are
abbrev pub general_count : ℕ
general_count = 32

-- where the width stands
abbrev pub width_at : ℕ
width_at = general_at + general_count

-- how many words stand from there on
abbrev pub last_count : ℕ
last_count = 6

-- how many words a block has: 68
abbrev pub block_length : ℕ
block_length = width_at + last_count

-- word k of those after the first stored registers
abbrev pub middle_word : List ℕ → ℕ → ℕ
middle_word b k = get_or b (first_count + k) 0

-- word k of those after the general registers
abbrev pub last_word : List ℕ → ℕ → ℕ
last_word b k = get_or b (width_at + k) 0

-- the width's word
abbrev pub width_word : List ℕ → ℕ
width_word b = last_word b 0

-- htimedeltah's word
abbrev pub high_word : List ℕ → ℕ
high_word b = last_word b 1

-- stvec's word
abbrev pub stvec_word : List ℕ → ℕ
stvec_word b = last_word b 2

-- scause's word
abbrev pub scause_word : List ℕ → ℕ
scause_word b = last_word b 3

-- stval's word
abbrev pub stval_word : List ℕ → ℕ
stval_word b = last_word b 4

-- where the count stands, the last word
abbrev pub count_at : ℕ
count_at = width_at + 5

-- the count's word
abbrev pub count_word : List ℕ → ℕ
count_word b = last_word b 5

-- the count that a word names: its low 32 bits
abbrev pub count_of : ℕ → ℕ
count_of w = w % 0x100000000

-- a flag's word: 1 for true
abbrev pub flag_word : Bool → ℕ
flag_word t = cond t 1 0

-- the flag that a word names
abbrev pub flag_of : ℕ → Bool
flag_of w = eqb w 1

-- a flag's word is 0 or 1
abbrev pub is_flag : ℕ → Bool
is_flag w = leb w 1

-- the page that two words name: whether it is set, and its address
abbrev pub page_of : ℕ → ℕ → Option ℕ
page_of set at = cond (flag_of set) (Some at) None

-- 1 where a page is set
abbrev pub set_word : Option ℕ → ℕ
set_word None = 0
set_word (Some a) = 1

-- the page's address, 0 where none is set
abbrev pub page_word : Option ℕ → ℕ
page_word None = 0
page_word (Some a) = a

-- the mode's word: 0 is U, 1 is S
abbrev pub mode_word : Mode → ℕ
mode_word U = 0
mode_word S = 1

-- the width that a word names
abbrev pub xlen_of : ℕ → Xlen
xlen_of w = cond (eqb w 32) X32 X64

-- a width's word is 32 or 64
abbrev pub is_width : ℕ → Bool
is_width w = eqb w 32 || eqb w 64

-- the words between the first stored and the general registers
abbrev pub middle : Hart → List ℕ
middle h =
    h.lines ∷ set_word h.shmem ∷ page_word h.shmem ∷ flag_word h.virt ∷ mode_word h.mode ∷ h.pc ∷ h.sepc ∷ flag_word h.sie ∷
    flag_word h.spie ∷ flag_word h.spp ∷ h.features ∷ []

-- the words after the general registers
abbrev pub last : Hart → List ℕ
last h = bits h.xlen ∷ held Htimedeltah h.csrs ∷ h.stvec ∷ h.scause ∷ h.stval ∷ h.dropped ∷ []

-- the block of a record
unfoldable pub block_of : Hart → List ℕ
block_of h = take first_count h.csrs ++ (middle h ++ (h.x ++ last h))

-- the record of a block
unfoldable pub record_of : List ℕ → Hart
record_of b =
    record {
      xlen = xlen_of (width_word b);
      csrs = take first_count b ++ (high_word b ∷ []);
      lines = middle_word b 0;
      shmem = page_of (middle_word b 1) (middle_word b 2);
      virt = flag_of (middle_word b 3);
      mode = mode_of (flag_of (middle_word b 4));
      pc = middle_word b 5;
      sepc = middle_word b 6;
      stvec = stvec_word b;
      scause = scause_word b;
      stval = stval_word b;
      sie = flag_of (middle_word b 7);
      spie = flag_of (middle_word b 8);
      spp = flag_of (middle_word b 9);
      dropped = count_of (count_word b);
      features = middle_word b 10;
      x = take general_count (drop general_at b);
    }

-- a block that is some record's: its length, each flag and the mode 0 or 1, address 0 where no page is set, the count below 2^32, and the width
-- 32 or 64
unfoldable pub well_formed : List ℕ → Bool
well_formed b =
    eqb (length b) block_length && is_flag (middle_word b 1) && (flag_of (middle_word b 1) || eqb (middle_word b 2) 0) && is_flag (middle_word b 3)
    && is_flag (middle_word b 4) && is_flag (middle_word b 7) && is_flag (middle_word b 8) && is_flag (middle_word b 9)
    && leb (count_word b) most_dropped && is_width (width_word b)

-- a fresh hart can be stored: the block has its length, and the width is 32 or 64
abbrev pub can_be_fresh : ℕ → List ℕ → Bool
can_be_fresh xlen b = eqb (length b) block_length && is_width xlen

-- 0 where it can, else -1
abbrev pub fresh_code : ℕ → List ℕ → ℤ
fresh_code xlen b = cond (can_be_fresh xlen b) (pos 0) (neg_ℤ (pos 1))

-- and then the block is left alone
abbrev pub fresh_block : ℕ → ℕ → List ℕ → List ℕ
fresh_block xlen features b = cond (can_be_fresh xlen b) (block_of (fresh (xlen_of xlen) features)) b
