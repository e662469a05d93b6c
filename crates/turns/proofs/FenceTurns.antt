-- What the turns of fence entries leave: the record, which entries are Pending, what each says, and the table.
use mathlib.Core.Path.{◌≡◌, refl, sym, ap, ◌∙◌, subst}
use mathlib.Core.Bool.{Bool, true, false, cond, true≢false, false≢true}
use mathlib.Core.List.{List, [], ◌∷◌, ◌++◌, map}
use mathlib.Core.Logic.{◌⊎◌, inl, inr, ⊎_elim}
use Prim.Native.Nat.{ℕ, ◌/◌, ◌<◌}
use lib.Dec.{eqb}
use lib.ListN.{length, take, drop}
use lib.Seq.{take-append_seam, drop-append_seam}
use borrow.Author.Tests.{eqb-true}
use Rattle.layout.specs.declared.xlen.Xlen.{Xlen}
use Rattle.layout.specs.Width.{bytes}
use Rattle.layout.specs.Geometry.{entry_count}
use Rattle.fence.specs.declared.entry.Fence.{Fence}
use Rattle.fence.specs.Table.{names_slot, remove_slots, named, remove_named}
use Rattle.fence.specs.Slots.{slot_count}
use Rattle.fence.proofs.Named.{remove_slots-append}
use Rattle.fence.proofs.Removal as Removal
use Rattle.page.specs.Registers.{IsPage}
use Rattle.page.specs.Entries.{is_pending, fence_at, clear_entry}
use Rattle.page.proofs.EntryLaws.{page-done, pending-same, pending-other, fence-done}
use Rattle.world.specs.State.{State}
use Rattle.turns.specs.Marks.{Pending}
use Rattle.turns.specs.Turn.{entry_turn, turns}
use Rattle.turns.proofs.Truth.{either}
use Rattle.turns.proofs.Numbers.{mem, Entries, mem-more, mem-first, mem-rest, mem-apart}

-- the state with this table and this page
abbrev pub at : State → List ℕ → List ℕ → State
at s t p = record { hart = s.hart; page = p; table = t }

-- the state with these slots removed
abbrev pub without : List ℕ → State → State
without is s = at s (remove_slots s.table is) s.page

-- ---- what turns keep

-- of the page: what each clearing of Pending keeps
pub turn-keep : (xlen : Xlen) (P : List ℕ → Type 0) (e : ℕ) (s : State) → (P s.page → P (clear_entry xlen e s.page)) → P s.page → P (entry_turn xlen e s).page
unfolding entry_turn
turn-keep xlen P e s f a = go (is_pending xlen s.page e)
  where
    go : (k : Bool) → P (cond k (at s (remove_named (fence_at xlen s.page e) s.table) (clear_entry xlen e s.page)) s).page
    go true = f a
    go false = a

pub turns-keep : (xlen : Xlen) (P : List ℕ → Type 0) (es : List ℕ) (s : State) → ((e : ℕ) (p : List ℕ) → mem e es ≡ true → P p → P (clear_entry xlen e p)) → P s.page
    → P (turns xlen (map Pending es) s).page
unfolding turns
turns-keep xlen P [] s f a = a
turns-keep xlen P (e ∷ es) s f a =
    turns-keep xlen P es (entry_turn xlen e s) (λ d p m. f d p (mem-more d e es m)) (turn-keep xlen P e s (f e s.page (mem-first e es)) a)

-- of the table: what each removal keeps
pub turn-keep-table : (xlen : Xlen) (P : List ℕ → Type 0) (e : ℕ) (s : State) → ((f : Fence) (t : List ℕ) → P t → P (remove_named f t)) → P s.table
    → P (entry_turn xlen e s).table
unfolding entry_turn
turn-keep-table xlen P e s f a = go (is_pending xlen s.page e)
  where
    go : (k : Bool) → P (cond k (at s (remove_named (fence_at xlen s.page e) s.table) (clear_entry xlen e s.page)) s).table
    go true = f (fence_at xlen s.page e) s.table a
    go false = a

pub turns-keep-table : (xlen : Xlen) (P : List ℕ → Type 0) (es : List ℕ) (s : State) → ((f : Fence) (t : List ℕ) → P t → P (remove_named f t)) → P s.table
    → P (turns xlen (map Pending es) s).table
unfolding turns
turns-keep-table xlen P [] s f a = a
turns-keep-table xlen P (e ∷ es) s f a = turns-keep-table xlen P es (entry_turn xlen e s) f (turn-keep-table xlen P e s f a)

-- the whole record
pub turn-hart : (xlen : Xlen) (e : ℕ) (s : State) → (entry_turn xlen e s).hart ≡ s.hart
unfolding entry_turn
turn-hart xlen e s = go (is_pending xlen s.page e)
  where
    go : (k : Bool) → (cond k (at s (remove_named (fence_at xlen s.page e) s.table) (clear_entry xlen e s.page)) s).hart ≡ s.hart
    go true = refl
    go false = refl

pub turns-hart : (xlen : Xlen) (es : List ℕ) (s : State) → (turns xlen (map Pending es) s).hart ≡ s.hart
unfolding turns
turns-hart xlen [] s = refl
turns-hart xlen (e ∷ es) s = turns-hart xlen es (entry_turn xlen e s) ∙ turn-hart xlen e s

-- ---- the page

pub turn-page : (xlen : Xlen) (e : ℕ) (s : State) → IsPage xlen s.page → IsPage xlen (entry_turn xlen e s).page
turn-page xlen e s g = turn-keep xlen (IsPage xlen) e s (page-done xlen e s.page) g

pub turns-page : (xlen : Xlen) (es : List ℕ) (s : State) → IsPage xlen s.page → IsPage xlen (turns xlen (map Pending es) s).page
turns-page xlen es s g = turns-keep xlen (IsPage xlen) es s (λ e p m. page-done xlen e p) g

-- an entry's turn makes it not Pending, and leaves the others
turn-same : (xlen : Xlen) (e : ℕ) (s : State) → e < entry_count (bytes xlen) → IsPage xlen s.page → is_pending xlen (entry_turn xlen e s).page e ≡ false
unfolding entry_turn
turn-same xlen e s b g = go (either (is_pending xlen s.page e))
  where
    go : (is_pending xlen s.page e ≡ true) ⊎ (is_pending xlen s.page e ≡ false)
        → is_pending xlen (cond (is_pending xlen s.page e) (at s (remove_named (fence_at xlen s.page e) s.table) (clear_entry xlen e s.page)) s).page e ≡ false
    go (inl t) = rw t (pending-same xlen e s.page b g)
    go (inr n) = rw n n

module _ (xlen : Xlen) (e d : ℕ) (s : State) (b : e < entry_count (bytes xlen)) (c : d < entry_count (bytes xlen)) (g : IsPage xlen s.page) where
  pub turn-other : eqb d e ≡ false → is_pending xlen (entry_turn xlen e s).page d ≡ is_pending xlen s.page d
  turn-other n = turn-keep xlen (λ (p : List ℕ). is_pending xlen p d ≡ is_pending xlen s.page d) e s (λ q. pending-other xlen e d s.page b c g n) refl

  pub turn-fence : fence_at xlen (entry_turn xlen e s).page d ≡ fence_at xlen s.page d
  turn-fence = turn-keep xlen (λ (p : List ℕ). fence_at xlen p d ≡ fence_at xlen s.page d) e s (λ q. fence-done xlen e d s.page b c g) refl

-- what is not Pending stays so
not-pending : (xlen : Xlen) (e d : ℕ) (p : List ℕ) → e < entry_count (bytes xlen) → d < entry_count (bytes xlen) → IsPage xlen p → is_pending xlen p d ≡ false → is_pending xlen (clear_entry xlen e p) d ≡ false
not-pending xlen e d p b c g n =
    ⊎_elim (λ q. subst (λ (x : ℕ). is_pending xlen (clear_entry xlen e p) x ≡ false) (sym (eqb-true d e q)) (pending-same xlen e p b g))
    (λ q. pending-other xlen e d p b c g q ∙ n) (either (eqb d e))

turns-idle-keep : (xlen : Xlen) (es : List ℕ) (d : ℕ) (s : State) → Entries xlen es → d < entry_count (bytes xlen) → IsPage xlen s.page → is_pending xlen s.page d ≡ false
    → is_pending xlen (turns xlen (map Pending es) s).page d ≡ false
turns-idle-keep xlen es d s b c g n =
    (turns-keep xlen (λ (p : List ℕ). IsPage xlen p × (is_pending xlen p d ≡ false)) es s
    (λ e p m w. (page-done xlen e p w.0, not-pending xlen e d p (b e m) c w.0 w.1)) (g, n)).1

-- after the turns none of the entries is Pending
pub turns-done : (xlen : Xlen) (es : List ℕ) (d : ℕ) (s : State) → Entries xlen es → IsPage xlen s.page → mem d es ≡ true → is_pending xlen (turns xlen (map Pending es) s).page d ≡ false
unfolding turns
turns-done xlen [] d s b g m = absurd (false≢true m)
turns-done xlen (e ∷ es) d s b g m =
    ⊎_elim
    (λ q. turns-idle-keep xlen es d (entry_turn xlen e s) (λ x k. b x (mem-more x e es k)) (b d m) (turn-page xlen e s g)
    (subst (λ (x : ℕ). is_pending xlen (entry_turn xlen e s).page x ≡ false) (sym (eqb-true d e q)) (turn-same xlen e s (b e (mem-first e es)) g)))
    (λ q. turns-done xlen es d (entry_turn xlen e s) (λ x k. b x (mem-more x e es k)) (turn-page xlen e s g) (mem-rest d e es q m)) (either (eqb d e))

module _ (xlen : Xlen) (es : List ℕ) (d : ℕ) (s : State) (b : Entries xlen es) (c : d < entry_count (bytes xlen)) (g : IsPage xlen s.page) where
  -- and the others are as they were
  pub turns-other : mem d es ≡ false → is_pending xlen (turns xlen (map Pending es) s).page d ≡ is_pending xlen s.page d
  turns-other n = (turns-keep xlen (λ (p : List ℕ). IsPage xlen p × (is_pending xlen p d ≡ is_pending xlen s.page d)) es s step (g, refl)).1
    where
      step : (e : ℕ) (p : List ℕ) → mem e es ≡ true → IsPage xlen p × (is_pending xlen p d ≡ is_pending xlen s.page d)
          → IsPage xlen (clear_entry xlen e p) × (is_pending xlen (clear_entry xlen e p) d ≡ is_pending xlen s.page d)
      step e p m w = (page-done xlen e p w.0, pending-other xlen e d p (b e m) c w.0 (mem-apart d e es (λ q. true≢false (sym m ∙ sym q ∙ n))) ∙ w.1)

  -- what an entry says stays
  pub turns-fence : fence_at xlen (turns xlen (map Pending es) s).page d ≡ fence_at xlen s.page d
  turns-fence =
      (turns-keep xlen (λ (p : List ℕ). IsPage xlen p × (fence_at xlen p d ≡ fence_at xlen s.page d)) es s
      (λ e p m w. (page-done xlen e p w.0, fence-done xlen e d p (b e m) c w.0 ∙ w.1)) (g, refl)).1

-- ---- the table

pub turn-length : (xlen : Xlen) (e : ℕ) (s : State) → length (entry_turn xlen e s).table ≡ length s.table
turn-length xlen e s = turn-keep-table xlen (λ (t : List ℕ). length t ≡ length s.table) e s (λ f t q. Removal.length-remove_named f t ∙ q) refl

pub turns-length : (xlen : Xlen) (es : List ℕ) (s : State) → length (turns xlen (map Pending es) s).table ≡ length s.table
turns-length xlen es s = turns-keep-table xlen (λ (t : List ℕ). length t ≡ length s.table) es s (λ f t q. Removal.length-remove_named f t ∙ q) refl

-- removals make an entry name nothing new
pub remove_slots-new : (f : Fence) (t is : List ℕ) (j : ℕ) → names_slot f t j ≡ false → names_slot f (remove_slots t is) j ≡ false
remove_slots-new f t is j n =
    ⊎_elim (λ e. absurd (true≢false (sym (Removal.slots-names f t is j e) ∙ n))) (λ e. e) (either (names_slot f (remove_slots t is) j))

turns-new : (xlen : Xlen) (f : Fence) (es : List ℕ) (s : State) (j : ℕ) → names_slot f s.table j ≡ false → names_slot f (turns xlen (map Pending es) s).table j ≡ false
turns-new xlen f es s j n = turns-keep-table xlen (λ (t : List ℕ). names_slot f t j ≡ false) es s (λ d t q. remove_slots-new f t (named d t) j q) n

-- the turn of a pending entry leaves nothing that it names
turn-none : (xlen : Xlen) (e : ℕ) (s : State) (j : ℕ) → is_pending xlen s.page e ≡ true → j < slot_count s.table
    → names_slot (fence_at xlen s.page e) (entry_turn xlen e s).table j ≡ false
unfolding entry_turn
turn-none xlen e s j t b = rw t (Removal.remove_named-done (fence_at xlen s.page e) s.table j b)

-- nor do the turns of several
pub turns-none : (xlen : Xlen) (es : List ℕ) (d : ℕ) (s : State) (j : ℕ) → Entries xlen es → IsPage xlen s.page → mem d es ≡ true → is_pending xlen s.page d ≡ true
    → j < slot_count s.table → names_slot (fence_at xlen s.page d) (turns xlen (map Pending es) s).table j ≡ false
unfolding turns
turns-none xlen [] d s j b g m t k = absurd (false≢true m)
turns-none xlen (e ∷ es) d s j b g m t k =
    ⊎_elim
    (λ q. let x : d ≡ e = eqb-true d e q in
    turns-new xlen (fence_at xlen s.page d) es (entry_turn xlen e s) j
    (subst (λ (y : ℕ). names_slot (fence_at xlen s.page y) (entry_turn xlen e s).table j ≡ false) (sym x)
    (turn-none xlen e s j (subst (λ (y : ℕ). is_pending xlen s.page y ≡ true) x t) k)))
    (λ q. subst (λ (f : Fence). names_slot f (turns xlen (map Pending es) (entry_turn xlen e s)).table j ≡ false) (turn-fence xlen e d s (b e (mem-first e es)) (b d m) g)
    (turns-none xlen es d (entry_turn xlen e s) j (λ x w. b x (mem-more x e es w)) (turn-page xlen e s g) (mem-rest d e es q m)
    (turn-other xlen e d s (b e (mem-first e es)) (b d m) g q ∙ t) (subst (λ (c : ℕ). j < c / 4) (sym (turn-length xlen e s)) k)))
    (either (eqb d e))

-- ---- turns that do nothing, turns begun, and turns put together

-- the turns of entries that are not Pending do nothing
pub turn-idle : (xlen : Xlen) (e : ℕ) (s : State) → is_pending xlen s.page e ≡ false → entry_turn xlen e s ≡ s
unfolding entry_turn
turn-idle xlen e s n = rw n

pub turns-idle : (xlen : Xlen) (es : List ℕ) (s : State) → ((e : ℕ) → mem e es ≡ true → is_pending xlen s.page e ≡ false) → turns xlen (map Pending es) s ≡ s
unfolding turns
turns-idle xlen [] s n = refl
turns-idle xlen (e ∷ es) s n = ap (turns xlen (map Pending es)) (turn-idle xlen e s (n e (mem-first e es))) ∙ turns-idle xlen es s (λ d m. n d (mem-more d e es m))

-- the turn of a pending entry
pub turn-pending : (xlen : Xlen) (e : ℕ) (b : State) (all : List ℕ) → is_pending xlen b.page e ≡ true → named (fence_at xlen b.page e) b.table ≡ all
    → at b (remove_slots b.table all) (clear_entry xlen e b.page) ≡ entry_turn xlen e b
unfolding entry_turn
turn-pending xlen e b all t n = rw t (ap (λ (x : List ℕ). at b (remove_slots b.table x) (clear_entry xlen e b.page)) (sym n))

-- with some of the named slots removed, from the first on, the others are named
pub named-rest : (f : Fence) (t pre post : List ℕ) → named f t ≡ pre ++ post → named f (remove_slots t pre) ≡ post
named-rest f t pre post n =
    subst (λ (l : List ℕ). named f (remove_slots t l) ≡ post) (take-append_seam pre post)
    (subst (λ (l : List ℕ). named f (remove_slots t (take (length pre) l)) ≡ drop (length pre) l) n (Removal.named-rest f t (length pre))
    ∙ drop-append_seam pre post)

-- the rest of a turn that was stopped among its removals is the rest of the turn
pub turn-part : (xlen : Xlen) (e : ℕ) (b : State) (pre post : List ℕ) → is_pending xlen b.page e ≡ true → named (fence_at xlen b.page e) b.table ≡ pre ++ post
    → entry_turn xlen e (without pre b) ≡ entry_turn xlen e b
unfolding entry_turn
turn-part xlen e b pre post t n =
    rw (t, named-rest (fence_at xlen b.page e) b.table pre post n, n)
    (ap (λ (x : List ℕ). at b x (clear_entry xlen e b.page)) (sym (remove_slots-append b.table pre post)))

pub first-turn : (xlen : Xlen) (e : ℕ) (more : List ℕ) (b : State) (pre post : List ℕ) → is_pending xlen b.page e ≡ true → named (fence_at xlen b.page e) b.table ≡ pre ++ post
    → turns xlen (map Pending (e ∷ more)) (without pre b) ≡ turns xlen (map Pending (e ∷ more)) b
unfolding turns
first-turn xlen e more b pre post t n = ap (turns xlen (map Pending more)) (turn-part xlen e b pre post t n)

-- the turns of some entries, and then of others
pub entry_turns-append : (xlen : Xlen) (es ds : List ℕ) (s : State) → turns xlen (map Pending (es ++ ds)) s ≡ turns xlen (map Pending ds) (turns xlen (map Pending es) s)
unfolding turns
entry_turns-append xlen [] ds s = refl
entry_turns-append xlen (e ∷ es) ds s = entry_turns-append xlen es ds (entry_turn xlen e s)

-- and of one more
pub turns_more : (xlen : Xlen) (done : List ℕ) (e : ℕ) (s : State) → turns xlen (map Pending (done ++ (e ∷ []))) s ≡ entry_turn xlen e (turns xlen (map Pending done) s)
unfolding turns
turns_more xlen done e s = entry_turns-append xlen done (e ∷ []) s
