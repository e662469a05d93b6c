-- What a trap does to the page, and the state that it leaves.
use mathlib.Core.Path.{◌≡◌, refl, sym, ap, ◌∙◌}
use mathlib.Core.Bool.{Bool, true, false, cond}
use Prim.Native.Nat.{ℕ}
use Rattle.layout.specs.declared.xlen.Xlen.{Xlen}
use Rattle.layout.specs.Width.{bytes}
use Rattle.layout.specs.Geometry.{swap_at}
use Rattle.layout.specs.Words.{word_at}
use Rattle.layout.proofs.WordLaws.{length-put}
use Rattle.csr.specs.Csrs.{Hstatus}
use Rattle.hart.specs.declared.trap.Trap.{Trap}
use Rattle.hart.specs.Registers.{read, write}
use Rattle.hart.specs.Trap.{trapped}
use Rattle.page.specs.Registers.{IsPage}
use Rattle.world.specs.World.{World}
use Rattle.world.specs.State.{State, state_of, with_state}
use Rattle.world.proofs.StateLaws.{page-length}
use Rattle.checks.specs.Codes.{accepted}
use Rattle.checks.specs.Checks.{check7}
use Rattle.turns.specs.Clean.{trap_words}
use Rattle.sret.specs.Sret.{swaps, swapped, autoswapped}
use Rattle.sret.proofs.Bytes.{clean-length}
use Rattle.trap.specs.Trap.{trap_stored}
use Rattle.nacl.specs.Traps.{trap_taken, trap_answer, trap_done, trap_left}
use Rattle.claims.specs.Events.{state_in}
use Rattle.claims.proofs.Left.{room-there}
use Rattle.claims.proofs.Turned.{clean-rest, put_in}

module _ (xlen : Xlen) (s : State) where
  -- the record is swapped, or the same
  pub stored-hart : (trap_stored xlen s).hart
      ≡ cond (swaps xlen s.hart.features s.page) (write Hstatus (word_at (bytes xlen) s.page (swap_at (bytes xlen))) s.hart) s.hart
  unfolding trap_stored autoswapped swapped
  stored-hart = (clean-rest xlen trap_words (autoswapped xlen s)).0 ∙ go (swaps xlen s.hart.features s.page)
    where
      go : (b : Bool) → (cond b (swapped xlen s) s).hart ≡ cond b (write Hstatus (word_at (bytes xlen) s.page (swap_at (bytes xlen))) s.hart) s.hart
      go true = refl
      go false = refl

  -- the table is the same
  pub stored-table : (trap_stored xlen s).table ≡ s.table
  unfolding trap_stored autoswapped swapped
  stored-table = (clean-rest xlen trap_words (autoswapped xlen s)).1 ∙ go (swaps xlen s.hart.features s.page)
    where
      go : (b : Bool) → (cond b (swapped xlen s) s).table ≡ s.table
      go true = refl
      go false = refl

  -- the page keeps its length
  pub swapped-page : IsPage xlen s.page → IsPage xlen (autoswapped xlen s).page
  unfolding autoswapped swapped
  swapped-page g = go (swaps xlen s.hart.features s.page)
    where
      go : (b : Bool) → IsPage xlen (cond b (swapped xlen s) s).page
      go true = length-put (bytes xlen) s.page (swap_at (bytes xlen)) (read Hstatus s.hart) ∙ g
      go false = g

  pub stored-page : IsPage xlen s.page → IsPage xlen (trap_stored xlen s).page
  unfolding trap_stored
  stored-page g = clean-length xlen trap_words (autoswapped xlen s) ∙ swapped-page g

module _ (t : Trap) (w : World) (y : accepted (trap_answer w) ≡ true) (there : check7 w ≡ true) where
  -- the page lies where it did
  pub still-there : check7 (trap_taken t w) ≡ true
  unfolding check7 trapped
  still-there = there

  pub taken-page : IsPage w.hart.xlen (state_of (trap_taken t w)).page
  unfolding trapped
  taken-page = page-length w (room-there w there)

  -- an accepted trap with a page in memory leaves this
  trap-put : trap_left t w ≡ with_state (trap_taken t w) (trap_stored w.hart.xlen (state_of (trap_taken t w)))
  unfolding trap_left trap_done trapped
  trap-put = rw (y, still-there)

  pub trap-state : state_in w (trap_left t w) ≡ trap_stored w.hart.xlen (state_of (trap_taken t w))
  unfolding trapped
  trap-state =
      ap (state_in w) trap-put
      ∙ put_in (trap_taken t w) (trap_stored w.hart.xlen (state_of (trap_taken t w))) (room-there (trap_taken t w) still-there) (stored-page w.hart.xlen (state_of (trap_taken t w)) taken-page)
