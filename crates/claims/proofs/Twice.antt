-- The turns of what the features offer, done twice: the second time they change nothing, and say nothing.
use mathlib.Core.Path.{◌≡◌, refl, ap₂, ◌∙◌}
use mathlib.Core.Bool.{Bool, true, false, cond}
use mathlib.Core.List.{List, [], ◌∷◌, ◌++◌, map}
use Prim.Native.Nat.{ℕ}
use Rattle.layout.specs.declared.xlen.Xlen.{Xlen}
use Rattle.csr.specs.Csrs.{Csr, turn_order}
use Rattle.hart.specs.Features.{has_feature}
use Rattle.hart.specs.Dropped.{Report}
use Rattle.hart.proofs.Frame.{member as mem}
use Rattle.page.specs.Registers.{IsPage, is_dirty}
use Rattle.page.specs.Entries.{every_entry}
use Rattle.page.proofs.RegisterLaws.{page-put, page-clear, dirty-put}
use Rattle.world.specs.State.{State}
use Rattle.turns.specs.Marks.{Dirty, Pending}
use Rattle.turns.specs.Turn.{csr_turn, turns}
use Rattle.turns.specs.Steps.{steps}
use Rattle.turns.specs.Reports.{reports}
use Rattle.turns.proofs.Closed.{clear-keeps}
use Rattle.turns.proofs.FenceApart.{turns-dirty}
use Rattle.turns.proofs.Holds.{laws}
use Rattle.turns.proofs.Leaves.{turns-keep, marks-clear}
use Rattle.turns.proofs.Numbers.{every-below}
use Rattle.turns.proofs.Puts.{mem-more, same_refl}
use Rattle.turns.proofs.Reported.{write_says}
use Rattle.turns.proofs.Turns.{turn-page, turns-page}
use Rattle.sret.specs.Sret.{csrs_offered}
use Rattle.claims.proofs.Commute.{turned-twice}
use Rattle.claims.proofs.Inside.{both_done}
use Rattle.claims.proofs.SaidBits.{turn-says}
use Rattle.claims.proofs.SinglyCounted.{reports-turns}
use Rattle.claims.proofs.Turned.{order-once, offered-askable}

-- a register's turn keeps a clean bit clean
turn-clean : (x : Xlen) (c d : Csr) (s : State) → IsPage x s.page → is_dirty s.page d ≡ false → is_dirty (csr_turn x c s).page d ≡ false
unfolding turns
turn-clean x c d s g n =
    (turns-keep x (λ p. IsPage x p × (is_dirty p d ≡ false)) (λ e v p q. (page-put x e v p q.0, dirty-put x e d v p q.0 ∙ q.1))
    (λ e p q. (page-clear x e p q.0, clear-keeps x (laws x) e d p q.0 q.1)) (c ∷ []) s g refl (g, n)).1

-- turns of clean registers say nothing
quiet-clean : (x : Xlen) (cs : List Csr) (s : State) → IsPage x s.page → ((d : Csr) → mem d cs ≡ true → is_dirty s.page d ≡ false)
    → reports x (steps x (map Dirty cs) s) s ≡ []
unfolding turns
quiet-clean x [] s g k = unfold steps reports in refl
quiet-clean x (c ∷ cs) s g k =
    reports-turns x (Dirty c ∷ []) (map Dirty cs) s g ∙ ap₂ (λ (rs qs : List Report). rs ++ qs) (turn-says x c s ∙ own)
    (quiet-clean x cs (csr_turn x c s) (turn-page x (Dirty c) s g) (λ d m. turn-clean x c d s g (k d (mem-more d c cs m))))
  where
    own : cond (is_dirty s.page c) (write_says x c s) [] ≡ []
    own = rw (k c (rw (same_refl c)))

module _ (x : Xlen) (s : State) (g : IsPage x s.page) where
  -- what is offered, done again, changes nothing
  pub done-again : (f : ℕ) → both_done x f (both_done x f s) ≡ both_done x f s
  done-again f = go (has_feature f 0) (has_feature f 1)
    where
      go : (b d : Bool) → let t = turns x (cond d (map Pending (every_entry x)) []) (turns x (cond b (map Dirty (turn_order x)) []) s) in
          turns x (cond d (map Pending (every_entry x)) []) (turns x (cond b (map Dirty (turn_order x)) []) t) ≡ t
      go true true = turned-twice x (turn_order x) (every_entry x) s g (offered-askable x true true)
      go true false = turned-twice x (turn_order x) [] s g (offered-askable x true false)
      go false true = turned-twice x [] (every_entry x) s g (offered-askable x false true)
      go false false = turned-twice x [] [] s g (offered-askable x false false)

  -- the registers are clean then
  clean_after : (d : Bool) (c : Csr) → mem c (turn_order x) ≡ true
      → is_dirty (turns x (cond d (map Pending (every_entry x)) []) (turns x (map Dirty (turn_order x)) s)).page c ≡ false
  clean_after d c m = go d ∙ marks-clear x (turn_order x) s c g (order-once x) m
    where
      u : State
      u = turns x (map Dirty (turn_order x)) s

      go : (d : Bool) → is_dirty (turns x (cond d (map Pending (every_entry x)) []) u).page c ≡ is_dirty u.page c
      go true = turns-dirty x (every_entry x) u c (every-below x)
      go false = turns-dirty x [] u c (offered-askable x true false).entries

  -- so it says nothing
  pub quiet-again : (f : ℕ) → reports x (steps x (csrs_offered x f) (both_done x f s)) (both_done x f s) ≡ []
  quiet-again f = go (has_feature f 0) (has_feature f 1)
    where
      go : (b d : Bool) → let t = turns x (cond d (map Pending (every_entry x)) []) (turns x (cond b (map Dirty (turn_order x)) []) s) in
          reports x (steps x (cond b (map Dirty (turn_order x)) []) t) t ≡ []
      go true d =
          quiet-clean x (turn_order x) _ (turns-page x (cond d (map Pending (every_entry x)) []) _ (turns-page x (map Dirty (turn_order x)) s g)) (clean_after d)
      go false d = unfold steps reports in refl
