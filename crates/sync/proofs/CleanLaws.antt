-- The clean words, one register after the other.
use mathlib.Core.Path.{◌≡◌, refl, sym, ap, ap₂, ◌∙◌}
use mathlib.Core.Bool.{Bool, true, false, cond}
use mathlib.Core.List.{List, [], ◌∷◌}
use Prim.Native.Nat.{ℕ}
use Rattle.layout.specs.declared.xlen.Xlen.{Xlen}
use Rattle.csr.specs.Csrs.{Csr}
use Rattle.hart.specs.declared.record.Hart.{Hart}
use Rattle.hart.specs.Registers.{reading, read}
use Rattle.page.specs.Registers.{put_csr}
use Rattle.world.specs.State.{State, state_from}
use Rattle.turns.specs.Turn.{store_reading}
use Rattle.turns.specs.Clean.{unclean, store_clean_words}
use Rattle.sync.proofs.Choice.{first, second}

module _ (c : Csr) (h : Hart) (p t : List ℕ) {b : Bool} (e : b ≡ unclean h.features p c) where
  -- a clean word gets the reading
  pub clean-stored : {q : List ℕ} → b ≡ false → q ≡ put_csr h.xlen c (read c h) p → state_from h q t ≡ store_clean_words h.xlen (c ∷ []) (state_from h p t)
  unfolding store_clean_words store_reading
  clean-stored n s = rw s (second _ _ e n)

  -- any other stays
  pub unclean-left : b ≡ true → state_from h p t ≡ store_clean_words h.xlen (c ∷ []) (state_from h p t)
  unfolding store_clean_words
  unclean-left y = first _ _ e y

-- three registers, one after the other
pub three-stored : (x : Xlen) (a b c : Csr) (h : Hart) (p t : List ℕ) {q r s : List ℕ} → state_from h q t ≡ store_clean_words x (a ∷ []) (state_from h p t)
    → state_from h r t ≡ store_clean_words x (b ∷ []) (state_from h q t) → state_from h s t ≡ store_clean_words x (c ∷ []) (state_from h r t)
    → state_from h s t ≡ store_clean_words x (a ∷ b ∷ c ∷ []) (state_from h p t)
unfolding store_clean_words
three-stored x a b c h p t f g k = k ∙ ap (store_clean_words x (c ∷ [])) (g ∙ ap (store_clean_words x (b ∷ [])) f)

-- two registers, and then others
pub two-and-others : (x : Xlen) (a b : Csr) (cs : List Csr) (h : Hart) (p t : List ℕ) {q r s : List ℕ}
    → state_from h q t ≡ store_clean_words x (a ∷ []) (state_from h p t) → state_from h r t ≡ store_clean_words x (b ∷ []) (state_from h q t)
    → state_from h s t ≡ store_clean_words x cs (state_from h r t) → state_from h s t ≡ store_clean_words x (a ∷ b ∷ cs) (state_from h p t)
unfolding store_clean_words
two-and-others x a b cs h p t f g k = k ∙ ap (store_clean_words x cs) (g ∙ ap (store_clean_words x (b ∷ [])) f)

-- a state with another hart
abbrev of_hart : Hart → State → State
of_hart k s = state_from k s.page s.table

-- what is stored goes by the features, the stored registers and the lines alone
same-clean : (x : Xlen) (cs : List Csr) (h k : Hart) (p t : List ℕ) → k.features ≡ h.features → k.csrs ≡ h.csrs → k.lines ≡ h.lines
    → store_clean_words x cs (state_from k p t) ≡ of_hart k (store_clean_words x cs (state_from h p t))
unfolding store_clean_words store_reading
same-clean x [] h k p t f e l = refl
same-clean x (c ∷ cs) h k p t f e l =
    let test : unclean k.features p c ≡ unclean h.features p c = ap (λ (n : ℕ). unclean n p c) f in
    rw test (go (unclean h.features p c) (λ q. same-clean x cs h k q t f e l))
  where
    same : read c k ≡ read c h
    same = ap₂ (reading c) e l

    go : (b : Bool) → ((q : List ℕ) → store_clean_words x cs (state_from k q t) ≡ of_hart k (store_clean_words x cs (state_from h q t)))
        → store_clean_words x cs (cond b (state_from k p t) (store_reading x c (state_from k p t)))
        ≡ of_hart k (store_clean_words x cs (cond b (state_from h p t) (store_reading x c (state_from h p t))))
    go true rest = rest p
    go false rest = rw same (rest (put_csr x c (read c h) p))

-- what holds of one hart holds of any with these three
pub clean-of : (x : Xlen) (cs : List Csr) (h k : Hart) (p t : List ℕ) {q : List ℕ} → k.features ≡ h.features → k.csrs ≡ h.csrs → k.lines ≡ h.lines
    → state_from h q t ≡ store_clean_words x cs (state_from h p t) → state_from k q t ≡ store_clean_words x cs (state_from k p t)
clean-of x cs h k p t f e l s = ap (of_hart k) s ∙ sym (same-clean x cs h k p t f e l)
