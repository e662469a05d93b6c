-- T10, T11 and T12, from the call down to the entry's turn, which is computed.
use mathlib.Core.List.{List, [], ◌∷◌, ◌++◌}
use mathlib.Core.Path.{◌≡◌, refl, ap, ◌∙◌}
use mathlib.Core.Bool.{true}
use Prim.Native.Nat.{ℕ, ◌-◌, ◌^◌}
use native.Mathlib.Omega.{arith}
use lib.IntN.{pos}
use Rattle.layout.specs.declared.xlen.Xlen.TheVariants.{X64}
use Rattle.layout.specs.Geometry.{page_size}
use Rattle.hart.specs.WellMade.{leaves}
use Rattle.fence.specs.Slots.{slot_word}
use Rattle.page.specs.Registers.{IsPage}
use Rattle.page.specs.Entries.{entry_word, is_pending, fence_at, clear_entry}
use Rattle.world.specs.Memory.{part_at}
use Rattle.world.specs.World.{World}
use Rattle.world.specs.State.{State, state_of, with_state}
use Rattle.world.proofs.MemoryLaws.{part_length, part-with}
use Rattle.turns.specs.Turn.{entry_turn, turns}
use Rattle.turns.proofs.FenceTurns.{turn-page}
use Rattle.checks.specs.Fids.{eid_nacl, fid_fence}
use Rattle.checks.specs.Codes.{accepted}
use Rattle.checks.specs.Checks.{table_well_made, check1, check2, check7, answer_by, call_answer}
use Rattle.stops.specs.Sync.{synced}
use Rattle.nacl.specs.Calls.{done}
use Rattle.nacl.proofs.CallLaws.{left}
use Rattle.tickets.specs.Samples.{lent_fresh, first_page, fence_page, fence_left, used_slot, first_words, config_of_ten, tenth, eleventh, twelfth}

module _ (p t : List ℕ) (g : IsPage X64 p) (k : table_well_made t ≡ true) where
  -- the call is accepted
  taken : accepted (call_answer eid_nacl fid_fence 0 0 0 (lent_fresh p t)) ≡ true
  unfolding call_answer answer_by check1 check2 check7 leaves
  taken = rw (g, k)

  -- what the entry's turn leaves
  turned : State
  turned = entry_turn X64 0 (state_of (lent_fresh p t))

  turned-page : IsPage X64 turned.page
  unfolding turned
  turned-page = turn-page X64 0 (state_of (lent_fresh p t)) (part_length (page_size 8) 0 p (omega (arith, g)))

  -- is what the call leaves
  after : fence_left p t ≡ with_state (lent_fresh p t) turned
  unfolding turned done synced turns
  after = left eid_nacl fid_fence 0 0 0 (lent_fresh p t) taken

  table-after : (fence_left p t).table ≡ turned.table
  table-after = ap (λ (w : World). w.table) after

  page-after : first_page (fence_left p t) ≡ turned.page
  page-after = ap first_page after ∙ part-with (page_size 8) 0 p (omega (arith, g)) turned.page turned-page

pub ten : first_words tenth.table ≡ pos (2 ^ 63) ∷ pos 0 ∷ pos 0 ∷ pos (2 ^ 63) ∷ []
unfolding turned part_at entry_turn is_pending fence_at entry_word clear_entry
ten =
    ap first_words
    (table-after (fence_page config_of_ten 1 1) (used_slot 511 ++ (used_slot 512 ++ (used_slot 1023 ++ used_slot 1024))) refl refl)

pub eleven : pos (slot_word eleventh.table 0 0) ∷ [] ≡ pos (2 ^ 63) ∷ []
unfolding turned part_at entry_turn is_pending fence_at entry_word clear_entry
eleven = ap (λ (t : List ℕ). pos (slot_word t 0 0) ∷ []) (table-after (fence_page (2 ^ 63) (2 ^ 64 - 1) 2) (used_slot 0) refl refl)

pub twelve : pos (entry_word X64 (first_page twelfth) 0 0) ∷ [] ≡ pos 0x0200000000050000 ∷ []
unfolding turned part_at entry_turn is_pending fence_at entry_word clear_entry
twelve = ap (λ (p : List ℕ). pos (entry_word X64 p 0 0) ∷ []) (page-after (fence_page 0x8200000000050000 0 0) [] refl refl)
