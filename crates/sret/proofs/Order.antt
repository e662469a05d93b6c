-- The parts of SRET, in 01's order.
use mathlib.Core.Path.{◌≡◌, sym, ap, ◌∙◌}
use mathlib.Core.Bool.{Bool, true, false}
use mathlib.Core.List.{List, [], ◌∷◌}
use Prim.Native.Nat.{ℕ}
use Rattle.layout.specs.declared.xlen.Xlen.{Xlen}
use Rattle.layout.specs.Width.{bytes}
use Rattle.layout.specs.Geometry.{swap_at}
use Rattle.layout.specs.Words.{word_at, put_word}
use Rattle.csr.specs.Csrs.{Hstatus, Hip, Vsip}
use Rattle.hart.specs.declared.record.Hart.{Hart}
use Rattle.hart.specs.Record.{with_general, returned}
use Rattle.hart.specs.Registers.{read, write}
use Rattle.page.specs.Registers.{IsPage}
use Rattle.world.specs.State.{State, state_from}
use Rattle.turns.specs.Turn.{turns}
use Rattle.turns.specs.Clean.{store_clean_words}
use Rattle.turns.proofs.Made.{turns-append}
use Rattle.sync.proofs.Choice.{first, second}
use Rattle.sret.specs.Context.{general}
use Rattle.sret.specs.Sret.{csrs_offered, entries_offered, offered_done, context_loaded, swaps, swapped, autoswapped, resumed, sret}
use Rattle.sret.proofs.Widths.{synced-width, loaded-width, swapped-width, returned-width}

module _ (xlen : Xlen) (h : Hart) (p t : List ℕ) {b : Bool} (e : b ≡ swaps xlen h.features p) where
  -- the swap is made
  pub swap-made : b ≡ true → {old new at : ℕ} {g : Hart} {q : List ℕ} → old ≡ read Hstatus h → at ≡ swap_at (bytes xlen)
      → new ≡ word_at (bytes xlen) p at → q ≡ put_word (bytes xlen) p at old → g ≡ write Hstatus new h → state_from g q t ≡ autoswapped xlen (state_from h p t)
  unfolding autoswapped swapped
  swap-made y {old} {q = q} o at n s w =
      ap (λ (x : Hart). state_from x q t) (w ∙ ap (λ (v : ℕ). write Hstatus v h) (n ∙ ap (word_at (bytes xlen) p) at))
      ∙ ap (λ (x : List ℕ). state_from (write Hstatus (word_at (bytes xlen) p (swap_at (bytes xlen))) h) x t)
      (s ∙ ap (λ (a : ℕ). put_word (bytes xlen) p a old) at ∙ ap (put_word (bytes xlen) p (swap_at (bytes xlen))) o) ∙ first _ _ e y

  -- it is not
  pub swap-left : b ≡ false → state_from h p t ≡ autoswapped xlen (state_from h p t)
  unfolding autoswapped
  swap-left n = second _ _ e n

-- SRET from its parts; the swap goes by the width of the record that it is given
pub all_done_lem : (h : Hart) (p t : List ℕ) {h₁ h₂ h₃ h₄ : Hart} {x p₁ p₂ p₃ p₄ t₂ : List ℕ}
    → IsPage h.xlen p → state_from h₁ p₁ t ≡ turns h.xlen (csrs_offered h.xlen h.features) (state_from h p t)
    → state_from h₁ p₂ t₂ ≡ turns h.xlen (entries_offered h.xlen h.features) (state_from h₁ p₁ t)
    → x ≡ general h.xlen p₂ → h₂ ≡ with_general h₁ x
    → state_from h₃ p₃ t₂ ≡ autoswapped h₂.xlen (state_from h₂ p₂ t₂) → h₄ ≡ returned h₃
    → state_from h₄ p₄ t₂ ≡ store_clean_words h₄.xlen (Hstatus ∷ Hip ∷ Vsip ∷ []) (state_from h₄ p₃ t₂)
    → state_from h₄ p₄ t₂ ≡ sret h.xlen (state_from h p t)
unfolding sret resumed context_loaded offered_done
all_done_lem h p t {h₁} {h₂} {h₃} {h₄} {x} {p₁} {p₂} {p₃} {p₄} {t₂} g registers entries context loaded swap back words =
    words ∙ ap (λ (y : Xlen). store_clean_words y (Hstatus ∷ Hip ∷ Vsip ∷ []) (state_from h₄ p₃ t₂)) at_back
    ∙ ap (λ (g : Hart). store_clean_words xlen (Hstatus ∷ Hip ∷ Vsip ∷ []) (state_from g p₃ t₂)) back
    ∙ ap (resumed xlen) (swap ∙ ap (λ (y : Xlen). autoswapped y (state_from h₂ p₂ t₂)) at_load)
    ∙ ap (λ (g : Hart). resumed xlen (autoswapped xlen (state_from g p₂ t₂))) (loaded ∙ ap (with_general h₁) context)
    ∙ ap (λ (s : State). resumed xlen (autoswapped xlen (context_loaded xlen s))) (entries ∙ ap (turns xlen (entries_offered xlen h.features)) registers ∙ both)
  where
    xlen : Xlen
    xlen = h.xlen

    at_load : h₂.xlen ≡ h.xlen
    at_load = loaded-width h₁ x loaded ∙ synced-width xlen (csrs_offered xlen h.features) h p t g registers

    at_back : h₄.xlen ≡ h.xlen
    at_back = returned-width h₃ back ∙ swapped-width h₂.xlen h₂ p₂ t₂ swap ∙ at_load

    both : turns xlen (entries_offered xlen h.features) (turns xlen (csrs_offered xlen h.features) (state_from h p t)) ≡ offered_done xlen (state_from h p t)
    both = sym (turns-append xlen (csrs_offered xlen h.features) (entries_offered xlen h.features) (state_from h p t))
