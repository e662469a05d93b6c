-- What a whole fence synchronization leaves of the table: a slot that a pending entry names is four zero words, every other slot is as it was.
use mathlib.Core.Path.{◌≡◌, refl, sym, ap, ◌∙◌}
use mathlib.Core.Bool.{true, false, cond}
use mathlib.Core.List.{List, [], ◌∷◌, map}
use mathlib.Core.Logic.{◌⊎◌, inl, inr}
use Prim.Native.Nat.{ℕ, ◌<◌}
use Rattle.layout.specs.declared.xlen.Xlen.{Xlen}
use Rattle.fence.specs.declared.entry.Fence.{Fence}
use Rattle.fence.specs.Slots.{slot_count, slot_word}
use Rattle.fence.proofs.Several.{remove_all, any_names, remove_all-word}
use Rattle.page.specs.Registers.{IsPage}
use Rattle.page.specs.Entries.{is_pending, fence_at}
use Rattle.world.specs.State.{State}
use Rattle.turns.specs.Marks.{Pending}
use Rattle.turns.specs.Turn.{entry_turn, turns}
use Rattle.turns.proofs.Truth.{either}
use Rattle.turns.proofs.Numbers.{mem, distinct, Entries, mem-first, mem-more, distinct-rest, distinct_apart}
use Rattle.turns.proofs.FenceTurns.{turn-page, turn-other, turn-fence, turn-pending, turn-idle}

-- the pending ones of these entries, decoded
unfoldable pub pending_fences : (xlen : Xlen) → List ℕ → List ℕ → List Fence
pending_fences xlen [] p = []
pending_fences xlen (e ∷ es) p = cond (is_pending xlen p e) (fence_at xlen p e ∷ pending_fences xlen es p) (pending_fences xlen es p)

pending-cong : (xlen : Xlen) (es : List ℕ) (p q : List ℕ) → ((d : ℕ) → mem d es ≡ true → is_pending xlen p d ≡ is_pending xlen q d)
    → ((d : ℕ) → mem d es ≡ true → fence_at xlen p d ≡ fence_at xlen q d) → pending_fences xlen es p ≡ pending_fences xlen es q
unfolding pending_fences
pending-cong xlen [] p q a b = refl
pending-cong xlen (e ∷ es) p q a b =
    rw (a e (mem-first e es), b e (mem-first e es), pending-cong xlen es p q (λ d m. a d (mem-more d e es m)) (λ d m. b d (mem-more d e es m)))

-- the table after the turns: what the pending entries name is removed
pub table-left : (xlen : Xlen) (es : List ℕ) (s : State) → Entries xlen es → distinct es ≡ true → IsPage xlen s.page
    → (turns xlen (map Pending es) s).table ≡ remove_all (pending_fences xlen es s.page) s.table
unfolding turns pending_fences
table-left xlen [] s b d g = refl
table-left xlen (e ∷ es) s b d g =
    table-left xlen es (entry_turn xlen e s) (λ x m. b x (mem-more x e es m)) (distinct-rest e es d) (turn-page xlen e s g)
    ∙ ap (λ (fs : List Fence). remove_all fs (entry_turn xlen e s).table) (pending-cong xlen es (entry_turn xlen e s).page s.page
    (λ x m. turn-other xlen e x s (b e (mem-first e es)) (b x (mem-more x e es m)) g (distinct_apart e es d x m))
    (λ x m. turn-fence xlen e x s (b e (mem-first e es)) (b x (mem-more x e es m)) g))
    ∙ go (either (is_pending xlen s.page e))
  where
    rest : List Fence
    rest = pending_fences xlen es s.page

    go : (is_pending xlen s.page e ≡ true) ⊎ (is_pending xlen s.page e ≡ false)
        → remove_all rest (entry_turn xlen e s).table ≡ remove_all (cond (is_pending xlen s.page e) (fence_at xlen s.page e ∷ rest) rest) s.table
    go (inl t) = ap (λ (x : State). remove_all rest x.table) (sym (turn-pending xlen e s _ t refl)) ∙ rw t
    go (inr n) = ap (λ (x : State). remove_all rest x.table) (turn-idle xlen e s n) ∙ rw n

-- slot by slot
pub slot-left : (xlen : Xlen) (es : List ℕ) (s : State) (j k : ℕ) → Entries xlen es → distinct es ≡ true → IsPage xlen s.page → j < slot_count s.table → k < 4
    → slot_word (turns xlen (map Pending es) s).table j k ≡ cond (any_names (pending_fences xlen es s.page) s.table j) 0 (slot_word s.table j k)
slot-left xlen es s j k b d g h m = ap (λ (t : List ℕ). slot_word t j k) (table-left xlen es s b d g) ∙ remove_all-word (pending_fences xlen es s.page) s.table j h k m
