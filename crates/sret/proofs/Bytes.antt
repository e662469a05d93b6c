-- What of the page SRET leaves as it was: its length, and whatever each part of SRET keeps.
use mathlib.Core.Path.{◌≡◌, refl, sym, ◌∙◌, subst}
use mathlib.Core.Bool.{Bool, true, false, cond}
use mathlib.Core.List.{List, [], ◌∷◌, ◌++◌, map}
use Prim.Native.Nat.{ℕ}
use lib.ListN.{length}
use Rattle.layout.specs.declared.xlen.Xlen.{Xlen}
use Rattle.layout.specs.Width.{bytes}
use Rattle.layout.specs.Geometry.{csr_at, swap_at}
use Rattle.layout.specs.Words.{put_word}
use Rattle.layout.proofs.WordLaws.{length-put}
use Rattle.csr.specs.Csrs.{Csr, Hstatus, Hip, Vsip, turn_order}
use Rattle.hart.specs.Features.{has_feature}
use Rattle.hart.specs.Record.{returned}
use Rattle.hart.specs.Registers.{read}
use Rattle.page.specs.Registers.{IsPage, index, put_csr}
use Rattle.page.specs.Entries.{every_entry}
use Rattle.world.specs.State.{State, state_from}
use Rattle.turns.specs.Marks.{Dirty, Pending}
use Rattle.turns.specs.Turn.{store_reading, turns}
use Rattle.turns.specs.Clean.{unclean, store_clean_words}
use Rattle.turns.proofs.Made.{turns-append}
use Rattle.turns.proofs.Turns.{turns-page}
use Rattle.sret.specs.Sret.{csrs_offered, entries_offered, offered_done, context_loaded, swaps, swapped, autoswapped, resumed, sret}

-- ---- a property of pages that each part of SRET keeps

module _ (xlen : Xlen) (P : List ℕ → Type 0) where
  -- the clean words
  module _ (store : (c : Csr) (s : State) → P s.page → P (store_reading xlen c s).page) where
    pub clean-keep : (cs : List Csr) (s : State) → P s.page → P (store_clean_words xlen cs s).page
    unfolding store_clean_words
    clean-keep [] s k = k
    clean-keep (c ∷ cs) s k =
        clean-keep cs (cond (unclean s.hart.features s.page c) s (store_reading xlen c s)) (go (unclean s.hart.features s.page c))
      where
        go : (b : Bool) → P (cond b s (store_reading xlen c s)).page
        go true = k
        go false = store c s k

    -- the swap, the return and the clean words
    module _ (put : (v : ℕ) (p : List ℕ) → P p → P (put_word (bytes xlen) p (swap_at (bytes xlen)) v)) where
      swap-keep : (s : State) → P s.page → P (autoswapped xlen s).page
      unfolding autoswapped swapped
      swap-keep s k = go (swaps xlen s.hart.features s.page)
        where
          go : (b : Bool) → P (cond b (swapped xlen s) s).page
          go true = put (read Hstatus s.hart) s.page k
          go false = k

      pub resumed-keep : (s : State) → P s.page → P (resumed xlen (autoswapped xlen (context_loaded xlen s))).page
      unfolding resumed context_loaded
      resumed-keep s k =
          let t = autoswapped xlen (context_loaded xlen s) in
          clean-keep (Hstatus ∷ Hip ∷ Vsip ∷ []) (state_from (returned t.hart) t.page t.table) (swap-keep (context_loaded xlen s) k)

  -- the two synchronizations
  pub offered-keep : (s : State) → (P s.page → P (turns xlen (map Dirty (turn_order xlen)) s).page)
      → ((t : State) → P t.page → P (turns xlen (map Pending (every_entry xlen)) t).page) → P s.page → P (offered_done xlen s).page
  unfolding offered_done
  offered-keep s csrs entries k =
      subst (λ (t : State). P t.page) (sym (turns-append xlen (csrs_offered xlen s.hart.features) (entries_offered xlen s.hart.features) s))
      (fences (has_feature s.hart.features 1) (turns xlen (csrs_offered xlen s.hart.features) s) (registers (has_feature s.hart.features 0)))
    where
      registers : (b : Bool) → P (turns xlen (cond b (map Dirty (turn_order xlen)) []) s).page
      registers true = csrs k
      registers false = unfold turns in k

      fences : (b : Bool) (t : State) → P t.page → P (turns xlen (cond b (map Pending (every_entry xlen)) []) t).page
      fences true t h = entries t h
      fences false t h = unfold turns in h

-- ---- the length

store_length : (xlen : Xlen) (c : Csr) (s : State) → length (store_reading xlen c s).page ≡ length s.page
unfolding store_reading put_csr
store_length xlen c s = length-put (bytes xlen) s.page (csr_at (bytes xlen) (index c)) (read c s.hart)

-- clean words keep the page's length
pub clean-length : (xlen : Xlen) (cs : List Csr) (s : State) → length (store_clean_words xlen cs s).page ≡ length s.page
clean-length xlen cs s = clean-keep xlen (λ p. length p ≡ length s.page) (λ c t k. store_length xlen c t ∙ k) cs s refl

pub offered-page : (xlen : Xlen) (s : State) → IsPage xlen s.page → IsPage xlen (offered_done xlen s).page
unfolding offered_done
offered-page xlen s g = turns-page xlen (csrs_offered xlen s.hart.features ++ entries_offered xlen s.hart.features) s g

-- SRET keeps it
pub sret-page : (xlen : Xlen) (s : State) → IsPage xlen s.page → IsPage xlen (sret xlen s).page
unfolding sret
sret-page xlen s g =
    resumed-keep xlen (IsPage xlen) (λ c u k. store_length xlen c u ∙ k) (λ v p k. length-put (bytes xlen) p (swap_at (bytes xlen)) v ∙ k)
    (offered_done xlen s) (offered-page xlen s g)
