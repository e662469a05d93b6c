-- A state lent by a world and put back into it.
use mathlib.Core.Path.{◌≡◌, ap, ◌∙◌}
use mathlib.Core.List.{List}
use Prim.Native.Nat.{ℕ}
use lib.ListN.{length}
use Rattle.layout.specs.declared.xlen.Xlen.{Xlen}
use Rattle.layout.specs.Width.{bytes}
use Rattle.layout.specs.Geometry.{page_size}
use Rattle.world.specs.Memory.{part_at, with_part}
use Rattle.world.specs.World.{World, lent, page_there, page_offset, offset}
use Rattle.world.specs.State.{State, state_from, state_of, with_state}
use Rattle.world.proofs.MemoryLaws.{Room, part_length, with-length, with-same, part-with, with-with}
use Rattle.world.proofs.WorldLaws.{there-cong}

-- what was lent, put back
pub put_same : (w : World) → with_state w (state_of w) ≡ w
put_same w = ap (λ (m : List ℕ). lent w.hart w.base m w.table) (with-same (page_size (bytes w.hart.xlen)) (offset w) w.memory)

-- a world with room for its page
module _ (w : World) (r : Room (page_size (bytes w.hart.xlen)) (offset w) w.memory) where
  pub page-length : length (state_of w).page ≡ page_size (bytes w.hart.xlen)
  page-length = part_length (page_size (bytes w.hart.xlen)) (offset w) w.memory r

  -- memory keeps its length
  pub put-length : (s : State) → length s.page ≡ page_size (bytes w.hart.xlen) → length (with_state w s).memory ≡ length w.memory
  put-length s g = with-length (page_size (bytes w.hart.xlen)) (offset w) w.memory r s.page g

  -- a state whose page is where the world's is
  module _ (s : State) (x : s.hart.xlen ≡ w.hart.xlen) (e : s.hart.shmem ≡ w.hart.shmem) (g : length s.page ≡ page_size (bytes w.hart.xlen)) where
    pub same-offset : offset (with_state w s) ≡ offset w
    same-offset = ap (page_offset w.base) e

    -- it can be taken out again
    pub taken_out : state_of (with_state w s) ≡ s
    taken_out =
        ap (λ (p : List ℕ). state_from s.hart p s.table)
        (ap (λ (y : Xlen). part_at (page_size (bytes y)) (offset (with_state w s)) (with_state w s).memory) x
        ∙ ap (λ (o : ℕ). part_at (page_size (bytes w.hart.xlen)) o (with_state w s).memory) same-offset ∙ part-with (page_size (bytes w.hart.xlen)) (offset w) w.memory r s.page g)

    -- and another put in its place
    pub put-over : (t : State) → with_state (with_state w s) t ≡ with_state w t
    put-over t =
        ap (λ (m : List ℕ). lent t.hart w.base m t.table)
        (ap (λ (y : Xlen). with_part (page_size (bytes y)) (offset (with_state w s)) t.page (with_state w s).memory) x
        ∙ ap (λ (o : ℕ). with_part (page_size (bytes w.hart.xlen)) o t.page (with_state w s).memory) same-offset
        ∙ with-with (page_size (bytes w.hart.xlen)) (offset w) w.memory r s.page g t.page)

    -- the page is there if it was
    pub still-there : page_there s.hart.xlen w.base (with_state w s).memory s.hart.shmem ≡ page_there w.hart.xlen w.base w.memory w.hart.shmem
    still-there =
        there-cong s.hart.xlen w.base (with_state w s).memory w.memory s.hart.shmem (put-length s g)
        ∙ ap (λ (y : Xlen). page_there y w.base w.memory s.hart.shmem) x ∙ ap (page_there w.hart.xlen w.base w.memory) e

    -- and there is room for it
    pub still-room : Room (page_size (bytes s.hart.xlen)) (offset (with_state w s)) (with_state w s).memory
    still-room = rw (x, same-offset, put-length s g) r
