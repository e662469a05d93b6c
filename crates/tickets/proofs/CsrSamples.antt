-- T9, from the call down to the registers' turns, which are computed.
use mathlib.Core.List.{List, [], ◌∷◌, map}
use mathlib.Core.Path.{◌≡◌, refl, ap, ◌∙◌}
use mathlib.Core.Bool.{true}
use Prim.Native.Nat.{ℕ}
use native.Mathlib.Omega.{arith}
use lib.IntN.{pos}
use Rattle.layout.specs.declared.xlen.Xlen.TheVariants.{X64}
use Rattle.layout.specs.Geometry.{page_size}
use Rattle.csr.specs.Csrs.{turn_order}
use Rattle.hart.specs.Bits.{all_ones}
use Rattle.hart.specs.WellMade.{leaves}
use Rattle.page.specs.Registers.{IsPage, is_dirty, clear_mark, csr_word, put_csr}
use Rattle.world.specs.Memory.{part_at, with_part}
use Rattle.world.specs.World.{World}
use Rattle.world.specs.State.{state_from}
use Rattle.world.proofs.MemoryLaws.{part-with}
use Rattle.turns.specs.Marks.{Dirty}
use Rattle.turns.specs.Turn.{write_from_word, clear_its_bit, store_reading, served, store_clean, csr_turn, turns}
use Rattle.checks.specs.Fids.{eid_nacl, fid_csr}
use Rattle.checks.specs.Codes.{accepted}
use Rattle.checks.specs.Checks.{check1, check2, check7, answer_by, call_answer}
use Rattle.stops.specs.Sync.{synced}
use Rattle.nacl.specs.Calls.{done}
use Rattle.nacl.proofs.CallLaws.{left}
use Rattle.tickets.specs.Samples.{lent_fresh, first_page, two_dirty, all_csrs_left, hvip_and_hip}

-- the page is a page
long : IsPage X64 two_dirty
unfolding put_csr
long = refl

-- the call is accepted
taken : accepted (call_answer eid_nacl fid_csr (all_ones X64) 0 0 (lent_fresh two_dirty [])) ≡ true
unfolding call_answer answer_by check1 check2 check7 leaves put_csr
taken = refl

-- the page is all of memory
whole-page : part_at (page_size 8) 0 two_dirty ≡ two_dirty
unfolding part_at put_csr
whole-page = refl

-- the page that the turns make of a page
turned : List ℕ → List ℕ
turned p = (turns X64 (map Dirty (turn_order X64)) (state_from (lent_fresh two_dirty []).hart p [])).page

turned-page : IsPage X64 (turned two_dirty)
unfolding turned turns csr_turn store_clean store_reading served write_from_word clear_its_bit is_dirty clear_mark csr_word put_csr
turned-page = refl

computed : hvip_and_hip (turned two_dirty) ≡ pos 4 ∷ pos 4 ∷ []
unfolding turned turns csr_turn store_clean store_reading served write_from_word clear_its_bit is_dirty clear_mark csr_word put_csr
computed = refl

-- what the call leaves
after : (all_csrs_left two_dirty).memory ≡ with_part (page_size 8) 0 (turned two_dirty) two_dirty
unfolding turned done synced
after =
    ap (λ (w : World). w.memory) (left eid_nacl fid_csr (all_ones X64) 0 0 (lent_fresh two_dirty []) taken)
    ∙ ap (λ (p : List ℕ). with_part (page_size 8) 0 (turned p) two_dirty) whole-page

pub nine : hvip_and_hip (first_page (all_csrs_left two_dirty)) ≡ pos 4 ∷ pos 4 ∷ []
nine =
    ap (λ (m : List ℕ). hvip_and_hip (part_at (page_size 8) 0 m)) after
    ∙ ap hvip_and_hip (part-with (page_size 8) 0 two_dirty (omega (arith, long)) (turned two_dirty) turned-page) ∙ computed
