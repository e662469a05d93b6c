-- The turns of fence entries leave the record and the dirty bits as they are; the table and the page keep their lengths.
use mathlib.Core.Path.{◌≡◌, refl, ap, ◌∙◌, subst}
use mathlib.Core.List.{List, map}
use Prim.Native.Nat.{ℕ, ◌<◌}
use native.Mathlib.Nat.{add-zero}
use native.Mathlib.Omega.{arith}
use Rattle.csr.specs.Csrs.{Csr, number}
use Rattle.layout.specs.declared.xlen.Xlen.{Xlen}
use Rattle.layout.specs.Width.{bytes}
use Rattle.layout.specs.Geometry.{entry_at, entry_count}
use Rattle.layout.specs.Words.{put_word}
use Rattle.layout.specs.Dirty.{dirty}
use Rattle.layout.proofs.PageLaws.{entry-put-dirty}
use Rattle.layout.proofs.IndexLaws.{index-lt}
use Rattle.fence.specs.Entry.{clear_pending}
use Rattle.page.specs.Registers.{index, is_dirty}
use Rattle.page.specs.Entries.{entry_word, clear_entry}
use Rattle.world.specs.State.{State}
use Rattle.turns.specs.Marks.{Pending}
use Rattle.turns.specs.Turn.{entry_turn, turns}
use Rattle.turns.proofs.Numbers.{Entries}
use Rattle.turns.proofs.FenceTurns.{turn-keep, turns-keep, turns-hart}
use Rattle.turns.proofs.FenceInvariant.{Reached, whole, part}

pub entry-dirty : (xlen : Xlen) (e : ℕ) (p : List ℕ) (c : Csr) → e < entry_count (bytes xlen) → is_dirty (clear_entry xlen e p) c ≡ is_dirty p c
unfolding clear_entry is_dirty
entry-dirty xlen e p c b =
    subst (λ (o : ℕ). dirty (put_word (bytes xlen) p o (clear_pending xlen (entry_word xlen p e 0))) (index c) ≡ dirty p (index c)) (omega arith)
    (entry-put-dirty (bytes xlen) p e 0 (clear_pending xlen (entry_word xlen p e 0)) b (omega arith) (index c) (index-lt (number c)))

pub turn-dirty : (xlen : Xlen) (e : ℕ) (s : State) (c : Csr) → e < entry_count (bytes xlen) → is_dirty (entry_turn xlen e s).page c ≡ is_dirty s.page c
turn-dirty xlen e s c b = turn-keep xlen (λ (p : List ℕ). is_dirty p c ≡ is_dirty s.page c) e s (λ q. entry-dirty xlen e s.page c b) refl

pub turns-dirty : (xlen : Xlen) (es : List ℕ) (s : State) (c : Csr) → Entries xlen es → is_dirty (turns xlen (map Pending es) s).page c ≡ is_dirty s.page c
turns-dirty xlen es s c b = turns-keep xlen (λ (p : List ℕ). is_dirty p c ≡ is_dirty s.page c) es s (λ e p m q. entry-dirty xlen e p c (b e m) ∙ q) refl

module _ (xlen : Xlen) (done rest : List ℕ) (s₀ : State) where
  -- under a fence synchronization the record stays
  pub same-hart : (s : State) → Reached xlen done rest s₀ s → s.hart ≡ s₀.hart
  same-hart s (whole q) = ap (λ (x : State). x.hart) q ∙ turns-hart xlen done s₀
  same-hart s (part e more pre post w t n u) = ap (λ (x : State). x.hart) u ∙ turns-hart xlen done s₀

  -- and every dirty bit
  pub same-dirty : Entries xlen done → (s : State) → Reached xlen done rest s₀ s → (c : Csr) → is_dirty s.page c ≡ is_dirty s₀.page c
  same-dirty en s (whole q) c = ap (λ (x : State). is_dirty x.page c) q ∙ turns-dirty xlen done s₀ c en
  same-dirty en s (part e more pre post w t n u) c = ap (λ (x : State). is_dirty x.page c) u ∙ turns-dirty xlen done s₀ c en
