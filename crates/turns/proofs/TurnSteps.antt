-- The steps of a register's turn make the turn.
use mathlib.Core.Path.{◌≡◌, refl, sym, ◌∙◌}
use mathlib.Core.Bool.{true, false, cond}
use mathlib.Core.List.{List, [], ◌∷◌, ◌++◌}
use mathlib.Core.Logic.{◌⊎◌, inl, inr}
use Prim.Native.Nat.{ℕ}
use Rattle.layout.specs.declared.xlen.Xlen.{Xlen}
use Rattle.csr.specs.Csrs.{Csr, followers}
use Rattle.hart.specs.declared.record.Hart.{Hart}
use Rattle.hart.specs.Registers.{read, write}
use Rattle.page.specs.Registers.{is_dirty, clear_mark, csr_word, put_csr, IsPage}
use Rattle.world.specs.State.{State}
use Rattle.turns.specs.Turn.{write_from_word, clear_its_bit, store_reading, served, store_clean, csr_turn}
use Rattle.turns.specs.Steps.{Write, Clear, Store, after, clean_stores, csr_steps, run}
use Rattle.hart.proofs.Frame.{member as mem}
use Rattle.page.proofs.RegisterLaws.{same}
use Rattle.turns.proofs.Model.{Laws, not-own-follower}
use Rattle.turns.proofs.Puts
use Rattle.turns.proofs.Closed
use Rattle.turns.proofs.Truth.{either}

module _ (xlen : Xlen) (L : Laws xlen) where
  -- the stores of D, on a page with the same bits, are D
  stores-are : (fs : List Csr) (q : List ℕ) (s : State) → IsPage xlen s.page → ((f : Csr) → mem f fs ≡ true → is_dirty q f ≡ is_dirty s.page f)
      → run xlen (clean_stores fs q) s ≡ store_clean xlen fs s
  unfolding clean_stores store_clean run after store_reading
  stores-are [] q s g e = refl
  stores-are (f ∷ fs) q s g e = go (either (is_dirty s.page f)) (stores-are fs q s g (λ d m. e d (Puts.mem-more d f fs m))) (stores-are fs q (store_reading xlen f s) (L.page-put f (read f s.hart) s.page g) later)
    where
      later : (d : Csr) → mem d fs ≡ true → is_dirty q d ≡ is_dirty (store_reading xlen f s).page d
      later d m = e d (Puts.mem-more d f fs m) ∙ sym (L.dirty-put f d (read f s.hart) s.page g)

      first : is_dirty q f ≡ is_dirty s.page f
      first = e f (rw (Puts.same_refl f))

      go : (is_dirty s.page f ≡ true) ⊎ (is_dirty s.page f ≡ false) → run xlen (clean_stores fs q) s ≡ store_clean xlen fs s
          → run xlen (clean_stores fs q) (store_reading xlen f s) ≡ store_clean xlen fs (store_reading xlen f s)
          → run xlen (cond (is_dirty q f) (clean_stores fs q) (Store f ∷ clean_stores fs q)) s ≡ store_clean xlen fs (cond (is_dirty s.page f) s (store_reading xlen f s))
      go (inl d) i j = rw (first, d) i
      go (inr d) i j = rw (first, d) j

  -- a follower of c is not c
  follower-other : (c f : Csr) → mem f (followers c) ≡ true → same f c ≡ false
  follower-other c f m = Closed.apart xlen L c f (followers c) (not-own-follower c) m

  -- the steps of a turn make the turn
  pub turn-steps : (c : Csr) (s : State) → IsPage xlen s.page → run xlen (csr_steps c s.page) s ≡ csr_turn xlen c s
  unfolding csr_steps csr_turn served run after store_reading clear_its_bit write_from_word
  turn-steps c s g = go (either (is_dirty s.page c))
    where
      h : Hart
      h = write c (csr_word xlen s.page c) s.hart

      q : List ℕ
      q = clear_mark c s.page

      go : (is_dirty s.page c ≡ true) ⊎ (is_dirty s.page c ≡ false)
          → run xlen (cond (is_dirty s.page c) (Write c ∷ Clear c ∷ []) [] ++ (Store c ∷ clean_stores (followers c) s.page)) s
          ≡ store_clean xlen (followers c) (store_reading xlen c (cond (is_dirty s.page c) (clear_its_bit c (write_from_word xlen c s)) s))
      go (inl d) =
          rw d (stores-are (followers c) s.page (Closed.over s h (put_csr xlen c (read c h) q)) (L.page-put c (read c h) q (L.page-clear c s.page g))
          (λ f m. sym (L.dirty-put c f (read c h) q (L.page-clear c s.page g) ∙ L.dirty-clear-other c f s.page g (follower-other c f m))))
      go (inr d) =
          rw d (stores-are (followers c) s.page (Closed.over s s.hart (put_csr xlen c (read c s.hart) s.page)) (L.page-put c (read c s.hart) s.page g)
          (λ f m. sym (L.dirty-put c f (read c s.hart) s.page g)))
