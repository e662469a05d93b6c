-- Codes and the order in which they are checked (01).
use Rattle.std.specs.Prelude.{Bool, true, false, cond, not, ◌&&◌, ◌||◌, List, ℕ, ◌/◌, ◌%◌, ◌^◌, eqb, leb, ltb, length, Ok, Err, Option, Some, None}
use Rattle.std.specs.Int.Bits.{bit_and}
use Rattle.layout.specs.declared.xlen.Xlen.{Xlen}
use Rattle.layout.specs.declared.xlen.Xlen.TheVariants.{X32, X64}
use Rattle.layout.specs.Width.{bytes}
use Rattle.layout.specs.Geometry.{entry_count}
use Rattle.csr.specs.Csrs.{lookup}
use Rattle.hart.specs.Bits.{all_ones}
use Rattle.hart.specs.Features.{has_feature}
use Rattle.hart.specs.Record.{is_s}
use Rattle.hart.specs.WellMade.{well_made}
use Rattle.checks.specs.declared.answer.Success.TheVariants.{Value, Resumed}
use Rattle.checks.specs.declared.answer.Refusal.TheVariants.{Failed, NotSupported, InvalidParam, InvalidAddress, NoShmem}
use Rattle.checks.specs.Codes.{Answer}
use Rattle.world.specs.World.{World, width, in_memory, page_there}
use Rattle.checks.specs.Fids.{eid_nacl, fid_probe, fid_set, fid_csr, fid_fence, fid_sret}

-- EID, FID, arguments and a trap's words are XLEN bits: at XLEN 32 the low 32 of a wider number
abbrev pub cut : Xlen → ℕ → ℕ
cut X32 a = a % 2 ^ 32
cut X64 a = a

-- the table's length is a multiple of 4 and at most 1,024
abbrev pub table_well_made : List ℕ → Bool
table_well_made t = eqb (length t % 4) 0 && leb (length t) 1024

-- check 1 passes: the table and the record are well made
unfoldable pub check1 : World → Bool
check1 w = table_well_made w.table && well_made w.hart

-- check 2 passes: V off and mode S
unfoldable pub check2 : World → Bool
check2 w = not w.hart.virt && is_s w.hart.mode

-- check 3 passes: this EID, and a FID up to 4
abbrev pub is_call : ℕ → ℕ → Bool
is_call eid fid = eqb eid eid_nacl && leb fid fid_sret

-- check 3 of the stoppable form passes: this EID, and FID 2 or 3
abbrev pub is_sync : ℕ → ℕ → Bool
is_sync eid fid = eqb eid eid_nacl && (eqb fid fid_csr || eqb fid fid_fence)

-- the call's feature: FID 2 has feature 0, FID 3 feature 1, FID 4 feature 2
abbrev pub feature_of : ℕ → ℕ
feature_of fid = cond (eqb fid fid_csr) 0 (cond (eqb fid fid_fence) 1 2)

-- check 4 passes: the call's feature is present; probe and set need none
abbrev pub feature_there : ℕ → ℕ → Bool
feature_there features fid = ltb fid fid_csr || has_feature features (feature_of fid)

-- set with both all-ones: the page is dropped
abbrev pub is_drop : Xlen → ℕ → ℕ → Bool
is_drop x lo hi = eqb lo (all_ones x) && eqb hi (all_ones x)

-- FID 1: flags 0, and lo 4096-aligned unless the page is dropped
abbrev pub good_set : Xlen → ℕ → ℕ → ℕ → Bool
good_set x lo hi flags = eqb flags 0 && (is_drop x lo hi || eqb (lo % 4096) 0)

-- the number is implemented
abbrev pub is_found : Option ℕ → Bool
is_found (Some t) = true
is_found None = false

-- FID 2: all-ones, or a number n with n AND 0x300 = 0x200, n < 0x1000, n implemented
abbrev pub good_csr : Xlen → ℕ → Bool
good_csr x n = eqb n (all_ones x) || (eqb (bit_and n 0x300) 0x200 && ltb n 0x1000 && is_found (lookup x n))

-- FID 3: all-ones or an index below 60, at XLEN 32 below 120
abbrev pub good_entry : Xlen → ℕ → Bool
good_entry x e = eqb e (all_ones x) || ltb e (entry_count (bytes x))

-- check 5 passes: the parameters are good; probe and SRET take any
abbrev pub check5 : Xlen → ℕ → ℕ → ℕ → ℕ → Bool
check5 x fid a0 a1 a2 = cond (eqb fid fid_set) (good_set x a0 a1 a2) (cond (eqb fid fid_csr) (good_csr x a0) (cond (eqb fid fid_fence) (good_entry x a0) true))

-- check 6 passes: for set, and not for a drop, hi is 0 and the 12,288 bytes from lo, at XLEN 32 8,192, lie wholly in L1 memory
abbrev pub check6 : Xlen → ℕ → List ℕ → ℕ → ℕ → ℕ → Bool
check6 x base memory fid lo hi = cond (eqb fid fid_set) (is_drop x lo hi || (eqb hi 0 && in_memory x base memory lo)) true

-- check 7 passes: a page is set and lies wholly in L1 memory
unfoldable pub check7 : World → Bool
check7 w = page_there (width w) w.base w.memory w.hart.shmem

-- probe: the argument's low 32 bits; 1 if that feature is present, else 0
abbrev pub probed : ℕ → ℕ → ℕ
probed features a = features / 2 ^ (a % 2 ^ 32) % 2

-- an accepted call: probe answers its value, SRET says resumed, the others value 0
abbrev pub success : ℕ → ℕ → ℕ → Answer
success features fid a = cond (eqb fid fid_probe) (Ok (Value (probed features a))) (cond (eqb fid fid_sret) (Ok Resumed) (Ok (Value 0)))

-- the checks in their order, each passed or not; the first that fails gives the code
abbrev pub decide : Bool → Bool → Bool → Bool → Bool → Bool → Bool → Answer → Answer
decide one two three four five six seven ok =
    cond (not one) (Err Failed)
    (cond (not two) (Err NotSupported)
    (cond (not three) (Err NotSupported)
    (cond (not four) (Err NotSupported)
    (cond (not five) (Err InvalidParam)
    (cond (not six) (Err InvalidAddress)
    (cond (not seven) (Err NoShmem) ok))))))

-- what a call is answered, where check 3 comes out as `three`; FID 2 to 4 need the page
unfoldable pub answer_by : Bool → ℕ → ℕ → ℕ → ℕ → World → Answer
answer_by three fid a0 a1 a2 w =
    decide (check1 w) (check2 w) three (feature_there w.hart.features fid) (check5 (width w) fid a0 a1 a2)
    (check6 (width w) w.base w.memory fid a0 a1) (ltb fid fid_csr || check7 w)
    (success w.hart.features fid a0)

-- what a call is answered
unfoldable pub call_answer : ℕ → ℕ → ℕ → ℕ → ℕ → World → Answer
call_answer eid fid a0 a1 a2 w = answer_by (is_call eid fid) fid a0 a1 a2 w

-- what the stoppable form is answered; it gets one parameter
unfoldable pub sync_answer : ℕ → ℕ → ℕ → World → Answer
sync_answer eid fid a w = answer_by (is_sync eid fid) fid a 0 0 w
