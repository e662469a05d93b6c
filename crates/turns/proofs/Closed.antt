-- What the turns of some registers leave, in closed form.
use mathlib.Core.Path.{◌≡◌, refl, sym, ap, ◌∙◌}
use mathlib.Core.Bool.{Bool, true, false, cond, true≢false, false≢true}
use mathlib.Core.List.{List, [], ◌∷◌, ◌++◌, map}
use mathlib.Core.Logic.{◌⊎◌, inl, inr, ⊎_elim}
use Prim.Native.Nat.{ℕ}
use Rattle.layout.specs.declared.xlen.Xlen.{Xlen}
use Rattle.csr.specs.Csrs.{Csr, followers}
use Rattle.hart.specs.declared.record.Hart.{Hart}
use Rattle.hart.specs.Registers.{read, write}
use Rattle.page.specs.Registers.{is_dirty, clear_mark, csr_word, put_csr, IsPage}
use Rattle.world.specs.State.{State}
use Rattle.turns.specs.Turn.{write_from_word, clear_its_bit, store_reading, served, store_clean, csr_turn, turns}
use Rattle.hart.proofs.Frame.{member as mem}
use Rattle.page.proofs.RegisterLaws.{same}
use Rattle.turns.proofs.Model.{Laws}
use Rattle.turns.proofs.Puts
use Rattle.turns.proofs.Truth.{either}
use Rattle.turns.specs.Marks.{Dirty}

-- the record after the dirty ones among these registers are written from their words, in order
unfoldable pub writes : (xlen : Xlen) → List Csr → List ℕ → Hart → Hart
writes xlen [] p h = h
writes xlen (c ∷ cs) p h = writes xlen cs p (cond (is_dirty p c) (write c (csr_word xlen p c) h) h)

-- those of the registers whose bit is clear
unfoldable pub clean : List Csr → List ℕ → List Csr
clean [] p = []
clean (f ∷ fs) p = cond (is_dirty p f) (clean fs p) (f ∷ clean fs p)

-- the registers whose words the turns store
unfoldable pub stored : List Csr → List ℕ → List Csr
stored [] p = []
stored (c ∷ cs) p = (c ∷ clean (followers c) (clear_mark c p)) ++ stored cs (clear_mark c p)

-- a state
abbrev pub over : State → Hart → List ℕ → State
over s h p = record { hart = h; page = p; table = s.table }

-- no register stands twice in the list
abbrev pub distinct : List Csr → Bool
distinct [] = true
distinct (c ∷ cs) = cond (mem c cs) false (distinct cs)

pub distinct_head : (c : Csr) (cs : List Csr) → distinct (c ∷ cs) ≡ true → mem c cs ≡ false
distinct_head c cs d = ⊎_elim (λ m. absurd (false≢true (rw m at d))) (λ n. n) (either (mem c cs))

pub distinct_tail : (c : Csr) (cs : List Csr) → distinct (c ∷ cs) ≡ true → distinct cs ≡ true
distinct_tail c cs d = ⊎_elim (λ m. absurd (false≢true (rw m at d))) (λ n. rw n at d) (either (mem c cs))

module _ (xlen : Xlen) (L : Laws xlen) where
  -- a member of a list in which c is not is not c
  pub apart : (c d : Csr) (cs : List Csr) → mem c cs ≡ false → mem d cs ≡ true → same d c ≡ false
  apart c d cs n m =
      ⊎_elim (λ e. absurd (true≢false (sym m ∙ ap (λ (x : Csr). mem x cs) (L.same-eq d c e) ∙ n))) (λ w. w) (either (same d c))

  -- a clean follower's place in the list of the clean ones
  pub clean-mem : (f : Csr) (fs : List Csr) (p : List ℕ) → mem f fs ≡ true → is_dirty p f ≡ false → mem f (clean fs p) ≡ true
  unfolding clean
  clean-mem f [] p m n = absurd (false≢true m)
  clean-mem f (g ∷ fs) p m n = go (either (same f g)) (either (is_dirty p g)) (clean-mem f fs p)
    where
      go : (same f g ≡ true) ⊎ (same f g ≡ false) → (is_dirty p g ≡ true) ⊎ (is_dirty p g ≡ false) → (mem f fs ≡ true → is_dirty p f ≡ false → mem f (clean fs p) ≡ true)
          → mem f (cond (is_dirty p g) (clean fs p) (g ∷ clean fs p)) ≡ true
      go (inl e) (inl d) ih = absurd (true≢false (sym d ∙ ap (is_dirty p) (sym (L.same-eq f g e)) ∙ n))
      go (inl e) (inr d) ih = rw (d, e)
      go (inr e) (inl d) ih = rw d (ih (Puts.mem-rest f g fs e m) n)
      go (inr e) (inr d) ih = rw (d, e) (ih (Puts.mem-rest f g fs e m) n)

  -- a member of the list of the clean ones is clean
  pub mem-clean : (f : Csr) (fs : List Csr) (p : List ℕ) → mem f (clean fs p) ≡ true → is_dirty p f ≡ false
  unfolding clean
  mem-clean f [] p m = absurd (false≢true m)
  mem-clean f (g ∷ fs) p m = go (either (is_dirty p g)) (mem-clean f fs p)
    where
      go : (is_dirty p g ≡ true) ⊎ (is_dirty p g ≡ false) → (mem f (clean fs p) ≡ true → is_dirty p f ≡ false) → is_dirty p f ≡ false
      go (inl d) ih = ih (rw d at m)
      go (inr d) ih =
          ⊎_elim (λ e. ap (is_dirty p) (L.same-eq f g e) ∙ d)
          (λ n. ih (Puts.mem-rest f g (clean fs p) n (rw d at m))) (either (same f g))

  -- a member of the list of the clean ones is a member
  pub clean_sub : (f : Csr) (fs : List Csr) (p : List ℕ) → mem f (clean fs p) ≡ true → mem f fs ≡ true
  unfolding clean
  clean_sub f [] p m = m
  clean_sub f (g ∷ fs) p m = go (either (is_dirty p g)) (clean_sub f fs p)
    where
      go : (is_dirty p g ≡ true) ⊎ (is_dirty p g ≡ false) → (mem f (clean fs p) ≡ true → mem f fs ≡ true) → mem f (g ∷ fs) ≡ true
      go (inl d) ih = Puts.mem-more f g fs (ih (rw d at m))
      go (inr d) ih = ⊎_elim (λ e. rw e) (λ n. rw n (ih (Puts.mem-rest f g (clean fs p) n (rw d at m)))) (either (same f g))

  -- which are clean goes by the bits alone
  pub clean-cong : (fs : List Csr) (p q : List ℕ) → ((d : Csr) → is_dirty p d ≡ is_dirty q d) → clean fs p ≡ clean fs q
  unfolding clean
  clean-cong [] p q e = refl
  clean-cong (f ∷ fs) p q e = rw (e f, clean-cong fs p q e)

  -- D stores the readings of the clean followers
  pub store_clean-is : (fs : List Csr) (s : State) → IsPage xlen s.page
      → store_clean xlen fs s ≡ record { hart = s.hart; page = Puts.put_all xlen (clean fs s.page) s.hart s.page; table = s.table }
  unfolding store_clean clean Puts.put_all store_reading
  store_clean-is [] s g = refl
  store_clean-is (f ∷ fs) s g = go (either (is_dirty s.page f)) (store_clean-is fs s g) (store_clean-is fs (store_reading xlen f s) (L.page-put f (read f s.hart) s.page g))
    where
      go : (is_dirty s.page f ≡ true) ⊎ (is_dirty s.page f ≡ false)
          → store_clean xlen fs s ≡ record { hart = s.hart; page = Puts.put_all xlen (clean fs s.page) s.hart s.page; table = s.table }
          → store_clean xlen fs (store_reading xlen f s) ≡ record { hart = s.hart; page = Puts.put_all xlen (clean fs (put_csr xlen f (read f s.hart) s.page)) s.hart (put_csr xlen f (read f s.hart) s.page); table = s.table }
          → store_clean xlen fs (cond (is_dirty s.page f) s (store_reading xlen f s)) ≡ record { hart = s.hart; page = Puts.put_all xlen (cond (is_dirty s.page f) (clean fs s.page) (f ∷ clean fs s.page)) s.hart s.page; table = s.table }
      go (inl d) i j = rw d i
      go (inr d) i j =
          rw d (j ∙ ap (λ (l : List Csr). record { hart = s.hart; page = Puts.put_all xlen l s.hart (put_csr xlen f (read f s.hart) s.page); table = s.table })
          (clean-cong fs (put_csr xlen f (read f s.hart) s.page) s.page (λ d. L.dirty-put f d (read f s.hart) s.page g)))

  -- (A) and (B): the record written if dirty, the bit clear
  pub served-is : (c : Csr) (s : State) → IsPage xlen s.page
      → served xlen c s ≡ record { hart = cond (is_dirty s.page c) (write c (csr_word xlen s.page c) s.hart) s.hart; page = clear_mark c s.page; table = s.table }
  unfolding served write_from_word clear_its_bit
  served-is c s g = go (either (is_dirty s.page c))
    where
      go : (is_dirty s.page c ≡ true) ⊎ (is_dirty s.page c ≡ false)
          → cond (is_dirty s.page c) (clear_its_bit c (write_from_word xlen c s)) s ≡ record { hart = cond (is_dirty s.page c) (write c (csr_word xlen s.page c) s.hart) s.hart; page = clear_mark c s.page; table = s.table }
      go (inl d) = rw d
      go (inr d) = rw d (ap (over s s.hart) (sym (L.clear-clean c s.page g d)))

  -- the record after (A)
  abbrev pub written : Csr → List ℕ → Hart → Hart
  written c p h = cond (is_dirty p c) (write c (csr_word xlen p c) h) h

  -- a register's turn
  pub turn_is : (c : Csr) (s : State) → IsPage xlen s.page
      → csr_turn xlen c s ≡ over s (written c s.page s.hart) (Puts.put_all xlen (c ∷ clean (followers c) (clear_mark c s.page)) (written c s.page s.hart) (clear_mark c s.page))
  unfolding csr_turn store_reading Puts.put_all
  turn_is c s g =
      ap (λ (t : State). store_clean xlen (followers c) (store_reading xlen c t)) (served-is c s g)
      ∙ store_clean-is (followers c) (over s h (put_csr xlen c (read c h) q)) (L.page-put c (read c h) q k)
      ∙ ap (λ (l : List Csr). over s h (Puts.put_all xlen l h (put_csr xlen c (read c h) q)))
      (clean-cong (followers c) (put_csr xlen c (read c h) q) q (λ d. L.dirty-put c d (read c h) q k))
    where
      h : Hart
      h = written c s.page s.hart

      q : List ℕ
      q = clear_mark c s.page

      k : IsPage xlen q
      k = L.page-clear c s.page g

  -- the writes go by the bits and the words of the dirty ones among them
  pub writes-cong : (cs : List Csr) (p q : List ℕ) (h : Hart)
      → ((d : Csr) → mem d cs ≡ true → is_dirty p d ≡ is_dirty q d)
      → ((d : Csr) → mem d cs ≡ true → is_dirty q d ≡ true → csr_word xlen p d ≡ csr_word xlen q d) → writes xlen cs p h ≡ writes xlen cs q h
  unfolding writes
  writes-cong [] p q h e w = refl
  writes-cong (c ∷ cs) p q h e w =
      ap (writes xlen cs p) (go (either (is_dirty q c)))
      ∙ writes-cong cs p q (written c q h) (λ d m. e d (Puts.mem-more d c cs m)) (λ d m. w d (Puts.mem-more d c cs m))
    where
      first : mem c (c ∷ cs) ≡ true
      first = rw (Puts.same_refl c)

      go : (is_dirty q c ≡ true) ⊎ (is_dirty q c ≡ false) → written c p h ≡ written c q h
      go (inl d) = rw (e c first, d, w c first d)
      go (inr d) = rw (e c first, d)

  -- so does which words are stored, by the bits alone
  pub stored-cong : (cs : List Csr) (p q : List ℕ) → IsPage xlen p → IsPage xlen q → ((d : Csr) → is_dirty p d ≡ is_dirty q d) → stored cs p ≡ stored cs q
  unfolding stored
  stored-cong [] p q g k e = refl
  stored-cong (c ∷ cs) p q g k e =
      rw (clean-cong (followers c) (clear_mark c p) (clear_mark c q) f, stored-cong cs (clear_mark c p) (clear_mark c q) (L.page-clear c p g) (L.page-clear c q k) f)
    where
      f : (d : Csr) → is_dirty (clear_mark c p) d ≡ is_dirty (clear_mark c q) d
      f d =
          ⊎_elim
          (λ s. ap (is_dirty (clear_mark c p)) (L.same-eq d c s) ∙ L.dirty-clear-same c p g ∙ sym (L.dirty-clear-same c q k)
          ∙ ap (is_dirty (clear_mark c q)) (sym (L.same-eq d c s)))
          (λ n. L.dirty-clear-other c d p g n ∙ e d ∙ sym (L.dirty-clear-other c d q k n)) (either (same d c))

  -- a bit that is clear stays clear
  pub clear-keeps : (c d : Csr) (p : List ℕ) → IsPage xlen p → is_dirty p d ≡ false → is_dirty (clear_mark c p) d ≡ false
  clear-keeps c d p g n =
      ⊎_elim (λ s. ap (is_dirty (clear_mark c p)) (L.same-eq d c s) ∙ L.dirty-clear-same c p g)
      (λ s. L.dirty-clear-other c d p g s ∙ n) (either (same d c))

  -- the turns to come store a clean register's reading, or leave it as it is
  pub kept : (cs : List Csr) (p q : List ℕ) (h : Hart) (d : Csr) → IsPage xlen q
      → is_dirty q d ≡ false → (mem d (stored cs q) ≡ true) ⊎ (read d (writes xlen cs p h) ≡ read d h)
  unfolding stored writes
  kept [] p q h d g n = inr refl
  kept (c ∷ cs) p q h d g n =
      go (either (same d c)) (either (mem d (followers c)))
      (kept cs p (clear_mark c q) (written c p h) d (L.page-clear c q g) (clear-keeps c d q g n))
    where
      own : List Csr
      own = c ∷ clean (followers c) (clear_mark c q)

      go : (same d c ≡ true) ⊎ (same d c ≡ false) → (mem d (followers c) ≡ true) ⊎ (mem d (followers c) ≡ false)
          → (mem d (stored cs (clear_mark c q)) ≡ true) ⊎ (read d (writes xlen cs p (written c p h)) ≡ read d (written c p h))
          → (mem d (own ++ stored cs (clear_mark c q)) ≡ true) ⊎ (read d (writes xlen cs p (written c p h)) ≡ read d h)
      go (inl s) f ih = inl (rw s)
      go (inr s) (inl f) ih =
          inl (Puts.mem-left d own (stored cs (clear_mark c q)) (rw s (clean-mem d (followers c) (clear_mark c q) f (clear-keeps c d q g n))))
      go (inr s) (inr f) (inl m) = inl (Puts.mem-right d own (stored cs (clear_mark c q)) m)
      go (inr s) (inr f) (inr r) = inr (r ∙ same-reading (is_dirty p c))
        where
          same-reading : (b : Bool) → read d (cond b (write c (csr_word xlen p c) h) h) ≡ read d h
          same-reading true = L.read-write c d (csr_word xlen p c) h s f
          same-reading false = refl

  -- the turns: the record with the dirty registers' words written in order, their bits clear, and the stored words at their readings
  pub closed : (cs : List Csr) (s : State) → IsPage xlen s.page → distinct cs ≡ true
      → turns xlen (map Dirty cs) s ≡ over s (writes xlen cs s.page s.hart) (Puts.put_all xlen (stored cs s.page) (writes xlen cs s.page s.hart) (Puts.clear_all cs s.page))
  unfolding turns writes stored Puts.put_all Puts.clear_all
  closed [] s g d = refl
  closed (c ∷ cs) s g d = ap (turns xlen (map Dirty cs)) (turn_is c s g) ∙ closed cs (over s h p₁) g₁ (distinct_tail c cs d) ∙ step
    where
      h : Hart
      h = written c s.page s.hart

      q : List ℕ
      q = clear_mark c s.page

      own : List Csr
      own = c ∷ clean (followers c) q

      p₁ : List ℕ
      p₁ = Puts.put_all xlen own h q

      gq : IsPage xlen q
      gq = L.page-clear c s.page g

      g₁ : IsPage xlen p₁
      g₁ = Puts.put_all-page xlen L own h q gq

      -- the turn's own stores are to clean registers
      own-clean : (e : Csr) → mem e own ≡ true → is_dirty q e ≡ false
      own-clean e m =
          ⊎_elim (λ w. ap (is_dirty q) (L.same-eq e c w) ∙ L.dirty-clear-same c s.page g)
          (λ w. mem-clean e (followers c) q (Puts.mem-rest e c (clean (followers c) q) w m)) (either (same e c))

      bits : (e : Csr) → mem e cs ≡ true → is_dirty p₁ e ≡ is_dirty s.page e
      bits e m = Puts.put_all-dirty xlen L own h q e gq ∙ L.dirty-clear-other c e s.page g (apart c e cs (distinct_head c cs d) m)

      words : (e : Csr) → mem e cs ≡ true → is_dirty s.page e ≡ true → csr_word xlen p₁ e ≡ csr_word xlen s.page e
      words e m t = Puts.put_all-word xlen L own h q e gq not_own ∙ L.word-clear c e s.page g
        where
          not_own : mem e own ≡ false
          not_own =
              ⊎_elim (λ w. absurd (true≢false (sym t ∙ sym (L.dirty-clear-other c e s.page g (apart c e cs (distinct_head c cs d) m)) ∙ own-clean e w)))
              (λ w. w) (either (mem e own))

      same_writes : writes xlen cs p₁ h ≡ writes xlen cs s.page h
      same_writes = writes-cong cs p₁ s.page h bits words

      same-stored : stored cs p₁ ≡ stored cs q
      same-stored = stored-cong cs p₁ q g₁ gq (λ e. Puts.put_all-dirty xlen L own h q e gq)

      step : over s (writes xlen cs p₁ h) (Puts.put_all xlen (stored cs p₁) (writes xlen cs p₁ h) (Puts.clear_all cs p₁))
          ≡ over s (writes xlen cs s.page h) (Puts.put_all xlen (own ++ stored cs q) (writes xlen cs s.page h) (Puts.clear_all cs q))
      step =
          rw (same_writes, same-stored)
          (ap (over s (writes xlen cs s.page h))
          (ap (Puts.put_all xlen (stored cs q) (writes xlen cs s.page h)) (Puts.clear_all-put xlen L cs own h q gq)
          ∙ Puts.update xlen L (stored cs q) own (writes xlen cs s.page h) h (Puts.clear_all cs q) (Puts.clear_all-page xlen L cs q gq)
          (λ e m. kept cs s.page q h e gq (own-clean e m))
          ∙ sym (Puts.put_all-append xlen own (stored cs q) (writes xlen cs s.page h) (Puts.clear_all cs q))))
