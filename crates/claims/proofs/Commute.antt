-- Turns of registers and turns of fence entries go in either order, and all of them done twice are once.
use mathlib.Core.Path.{◌≡◌, refl, sym, ap, ◌∙◌, subst}
use mathlib.Core.Bool.{Bool, true, false, cond}
use mathlib.Core.List.{List, [], ◌∷◌, map}
use mathlib.Core.Logic.{inl}
use Prim.Native.Nat.{ℕ, ◌+◌, ◌*◌, ◌<◌}
use native.Mathlib.Omega.{arith}
use Rattle.layout.specs.declared.xlen.Xlen.{Xlen}
use Rattle.layout.specs.Width.{bytes}
use Rattle.layout.specs.Geometry.{csr_at, entry_at, entry_count}
use Rattle.layout.specs.Words.{put_word}
use Rattle.layout.proofs.WordLaws.{put-put-comm}
use Rattle.layout.proofs.DirtyLaws.{put-clear, word-clear}
use Rattle.layout.proofs.PageLaws.{csr-put-entry, entry-off}
use Rattle.layout.proofs.IndexLaws.{index-lt}
use Rattle.csr.specs.Csrs.{Csr, followers, number}
use Rattle.hart.specs.Registers.{read}
use Rattle.fence.specs.declared.entry.Fence.{Fence}
use Rattle.fence.specs.Entry.{clear_pending}
use Rattle.fence.specs.Table.{remove_named}
use Rattle.page.specs.Registers.{IsPage, index, is_dirty, clear_mark, put_csr}
use Rattle.page.specs.Entries.{entry_word, is_pending, fence_at, clear_entry}
use Rattle.world.specs.State.{State, state_from}
use Rattle.turns.specs.Marks.{Mark, Dirty, Pending}
use Rattle.turns.specs.Steps.{total}
use Rattle.turns.specs.Turn.{write_from_word, clear_its_bit, store_reading, served, store_clean, csr_turn, entry_turn, turns}
use Rattle.turns.proofs.FenceApart.{entry-dirty}
use Rattle.turns.proofs.Numbers.{Entries, mem-first, mem-more}
use Rattle.turns.proofs.Preserved.{Preserved, csrs-preserved, entries-preserved}
use Rattle.turns.proofs.Turns.{turn-page, turns-page, enough}
use Rattle.claims.proofs.Places.{config-ends}
use Rattle.claims.proofs.Turned.{turned, Askable, entry-stays}
use Rattle.claims.proofs.Words.{word-done}

-- ---- one register and one entry

-- the state that the turn of a pending entry leaves, of an entry that says f
abbrev done : Xlen → ℕ → Fence → State → State
done x e f s = state_from s.hart (clear_entry x e s.page) (remove_named f s.table)

module _ (x : Xlen) (e : ℕ) (b : e < entry_count (bytes x)) where
  -- a register's word is stored before or after Pending is cleared
  put-done : (c : Csr) (v : ℕ) (p : List ℕ) → put_csr x c v (clear_entry x e p) ≡ clear_entry x e (put_csr x c v p)
  unfolding put_csr clear_entry entry_word
  put-done c v p =
      put-put-comm (bytes x) (bytes x) p (csr_at (bytes x) (index c)) v (entry_at (bytes x) e) (clear_pending x (entry_word x p e 0)) (inl (omega (arith, config-ends x e b)))
      ∙ ap (λ (w : ℕ). put_word (bytes x) (put_csr x c v p) (entry_at (bytes x) e) (clear_pending x w)) (sym (csr-put-entry (bytes x) p (index c) v e 0 b (omega arith)))

  -- and its bit cleared
  clear-done : (c : Csr) (p : List ℕ) → clear_mark c (clear_entry x e p) ≡ clear_entry x e (clear_mark c p)
  unfolding clear_mark clear_entry entry_word
  clear-done c p =
      sym (put-clear (bytes x) p (entry_at (bytes x) e) (clear_pending x (entry_word x p e 0)) (index c) (index-lt (number c)) (inl (config-ends x e b)))
      ∙ ap (λ (w : ℕ). put_word (bytes x) (clear_mark c p) (entry_at (bytes x) e) (clear_pending x w))
      (sym (word-clear (bytes x) p (index c) (entry_at (bytes x) e + bytes x * 0) (index-lt (number c)) (entry-off (bytes x) e 0 b (omega arith))))

  module _ (f : Fence) where
    -- (C), and each store of (D)
    store-done : (c : Csr) (s : State) → store_reading x c (done x e f s) ≡ done x e f (store_reading x c s)
    unfolding store_reading
    store-done c s = ap (λ (p : List ℕ). state_from s.hart p (remove_named f s.table)) (put-done c (read c s.hart) s.page)

    -- (A) and (B)
    served-done : (c : Csr) (s : State) → served x c (done x e f s) ≡ done x e f (served x c s)
    unfolding served clear_its_bit write_from_word
    served-done c s = rw (entry-dirty x e s.page c b, word-done x e c s.page b, clear-done c s.page) (go (is_dirty s.page c))
      where
        t : State
        t = clear_its_bit c (write_from_word x c s)

        go : (k : Bool) → cond k (done x e f t) (done x e f s) ≡ done x e f (cond k t s)
        go true = refl
        go false = refl

    -- (D)
    clean-done : (cs : List Csr) (s : State) → store_clean x cs (done x e f s) ≡ done x e f (store_clean x cs s)
    unfolding store_clean
    clean-done [] s = refl
    clean-done (c ∷ cs) s = rw (entry-dirty x e s.page c b, store-done c s) (go (is_dirty s.page c) (clean-done cs s) (clean-done cs (store_reading x c s)))
      where
        t : State
        t = store_reading x c s

        go : (k : Bool) → store_clean x cs (done x e f s) ≡ done x e f (store_clean x cs s) → store_clean x cs (done x e f t) ≡ done x e f (store_clean x cs t)
            → store_clean x cs (cond k (done x e f s) (done x e f t)) ≡ done x e f (store_clean x cs (cond k s t))
        go true p q = p
        go false p q = q

    -- the register's turn
    csr-done : (c : Csr) (s : State) → csr_turn x c (done x e f s) ≡ done x e f (csr_turn x c s)
    unfolding csr_turn
    csr-done c s =
        ap (λ (t : State). store_clean x (followers c) (store_reading x c t)) (served-done c s)
        ∙ ap (store_clean x (followers c)) (store-done c (served x c s)) ∙ clean-done (followers c) (store_reading x c (served x c s))

  -- a register's turn and the entry's
  pair-commute : (c : Csr) (s : State) → IsPage x s.page → csr_turn x c (entry_turn x e s) ≡ entry_turn x e (csr_turn x c s)
  unfolding entry_turn turns
  pair-commute c s g =
      let (p, q) = entry-stays x (c ∷ []) s g refl e b in
      rw (p, q) (go (is_pending x s.page e))
    where
      f : Fence
      f = fence_at x s.page e

      go : (k : Bool) → csr_turn x c (cond k (done x e f s) s) ≡ cond k (done x e f (csr_turn x c s)) (csr_turn x c s)
      go true = csr-done f c s
      go false = refl

  -- the turns of registers and the entry's
  csrs-commute : (cs : List Csr) (s : State) → IsPage x s.page → turns x (map Dirty cs) (entry_turn x e s) ≡ entry_turn x e (turns x (map Dirty cs) s)
  unfolding turns
  csrs-commute [] s g = refl
  csrs-commute (c ∷ cs) s g = ap (turns x (map Dirty cs)) (pair-commute c s g) ∙ csrs-commute cs (csr_turn x c s) (turn-page x (Dirty c) s g)

-- ---- any registers and any entries

-- their turns go in either order
pub turns-commute : (x : Xlen) (cs : List Csr) (es : List ℕ) (s : State) → IsPage x s.page → Entries x es
    → turns x (map Dirty cs) (turns x (map Pending es) s) ≡ turns x (map Pending es) (turns x (map Dirty cs) s)
unfolding turns
turns-commute x cs [] s g b = refl
turns-commute x cs (e ∷ es) s g b =
    turns-commute x cs es (entry_turn x e s) (turn-page x (Pending e) s g) (λ d m. b d (mem-more d e es m))
    ∙ ap (turns x (map Pending es)) (csrs-commute x e (b e (mem-first e es)) cs s g)

-- turns whose stops preserve an invariant, done twice, are once
twice : (x : Xlen) (cs : List Csr) (ms : List Mark) (s : State) → IsPage x s.page → Preserved x cs ms s → turns x ms (turns x ms s) ≡ turns x ms s
twice x cs ms s g k =
    let n : ℕ = total x ms s in
    k.ends (turns x ms s) (subst k.Holds (enough x n ms s g (omega arith)) (k.stop-keeps n s k.start))

-- registers in turn order and then entries, done twice, are once
pub turned-twice : (x : Xlen) (cs : List Csr) (es : List ℕ) (s : State) → IsPage x s.page → Askable x cs es → turned x cs es (turned x cs es s) ≡ turned x cs es s
turned-twice x cs es s g k =
    let u = turns x (map Dirty cs) s in
    let h = turns-page x (map Dirty cs) s g in
    ap (turns x (map Pending es))
    (turns-commute x cs es u h k.entries ∙ ap (turns x (map Pending es)) (twice x cs (map Dirty cs) s g (csrs-preserved x cs s g k.csrs-once k.in_order)))
    ∙ twice x [] (map Pending es) u h (entries-preserved x es u h k.entries)
