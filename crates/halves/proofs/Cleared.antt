-- After both synchronizations of everything no mark of the page is set, if each register that was dirty is one that the width has.
use mathlib.Core.Path.{◌≡◌, refl, ap, ◌∙◌}
use mathlib.Core.Bool.{true, false}
use mathlib.Core.List.Memᴰ
use mathlib.Core.Logic.{⊎_elim}
use Prim.Native.Nat.{ℕ}
use Rattle.layout.specs.Width.{bytes}
use Rattle.layout.specs.Geometry.{page_size}
use Rattle.csr.specs.Csrs.{Csr, has}
use Rattle.hart.specs.declared.record.Hart.{Hart}
use Rattle.hart.specs.Bits.{all_ones}
use Rattle.page.specs.Registers.{is_dirty}
use Rattle.world.specs.Memory.{part_at}
use Rattle.world.specs.World.{World, width, page_offset}
use Rattle.turns.specs.Marks.{Mark, Dirty, Pending, is_marked}
use Rattle.turns.proofs.Truth.{either}
use Rattle.checks.specs.Fids.{fid_csr, fid_fence}
use Rattle.checks.specs.Codes.{accepted}
use Rattle.checks.specs.Checks.{call_answer}
use Rattle.stops.proofs.Singly.{ones-ask}
use Rattle.claims.specs.Events.{Call, page_in}
use Rattle.claims.specs.Claims.{IsMark}
use Rattle.claims.proofs.Edits.{in_order}
use Rattle.claims.proofs.Fields.{other-fields-stay}
use Rattle.claims.proofs.Marks.{other-marks-stay}
use Rattle.claims.proofs.Served.{cleared-marks-served}
use Rattle.halves.specs.Both.{after_csrs, after_both}
use Rattle.halves.proofs.Unnamed.{none-pending}

module _ (eid : ℕ) (w : World) (csrs : accepted (call_answer eid fid_csr (all_ones (width w)) 0 0 w) ≡ true)
    (fences : accepted (call_answer eid fid_fence (all_ones (width w)) 0 0 (after_csrs eid w)) ≡ true)
    (had : (c : Csr) → is_dirty (page_in w w) c ≡ true → has (width w) c ≡ true) where
  abbrev u : World
  u = after_csrs eid w

  -- the record keeps the width and the place of the page
  same_width : width u ≡ width w
  same_width = ap (λ (h : Hart). h.xlen) ((other-fields-stay w).csr eid (all_ones (width w)) 0 0)

  same-page : (v : World) → page_in u v ≡ page_in w v
  same-page v =
      ap (λ (h : Hart). part_at (page_size (bytes h.xlen)) (page_offset u.base h.shmem) v.memory) ((other-fields-stay w).csr eid (all_ones (width w)) 0 0)
      ∙ ap (λ (b : ℕ). part_at (page_size (bytes (width w))) (page_offset b w.hart.shmem) v.memory) ((other-fields-stay w).base (Call eid fid_csr (all_ones (width w)) 0 0))

  -- after the first no register is dirty
  clean : (c : Csr) → is_dirty (page_in w u) c ≡ false
  clean c =
      ⊎_elim
      (λ t. (cleared-marks-served eid fid_csr (all_ones (width w)) 0 0 w refl).cleared csrs (Dirty c) (rw (ones-ask (width w)).0 (Memᴰ.map Dirty (in_order (width w) c (had c t)))))
      (λ n. (other-marks-stay (Call eid fid_csr (all_ones (width w)) 0 0) w (Dirty c) refl tt).none-set n) (either (is_dirty (page_in w w) c))

  pub none-marked : (m : Mark) → IsMark (width w) m → is_marked (width w) (page_in w (after_both eid w)) m ≡ false
  none-marked (Dirty c) k =
      rw (same-page u, same-page (after_both eid w)) at (other-marks-stay (Call eid fid_fence (all_ones (width w)) 0 0) u (Dirty c) refl tt).none-set (clean c)
  none-marked (Pending e) k = rw (same-page (after_both eid w)) at (none-pending eid u (width w) same_width fences e k)
