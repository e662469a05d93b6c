-- The invariant between the start of a list of stops and the present state of a register synchronization: each step of each run keeps it, and
-- the whole call ends the same from every state that has it.
use mathlib.Core.Path.{◌≡◌, refl, sym, ap, ◌∙◌, subst}
use mathlib.Core.Bool.{true, false, cond, ◌||◌, true≢false, false≢true}
use mathlib.Core.List.{List, [], ◌∷◌, ◌++◌, append_assoc, map}
use mathlib.Core.Logic.{◌⊎◌, inl, inr, ⊎_elim}
use Prim.Native.Nat.{ℕ}
use Rattle.layout.specs.declared.xlen.Xlen.{Xlen}
use Rattle.csr.specs.Csrs.{Csr, followers}
use Rattle.hart.specs.declared.record.Hart.{Hart}
use Rattle.hart.specs.Registers.{read, write}
use Rattle.page.specs.Registers.{is_dirty, clear_mark, csr_word, put_csr, IsPage}
use Rattle.world.specs.State.{State}
use Rattle.turns.specs.Turn.{write_from_word, clear_its_bit, store_reading, csr_turn, turns}
use Rattle.turns.specs.Marks.{Dirty}
use Rattle.turns.specs.Steps.{Step, Write, Clear, Store, after, clean_stores, csr_steps, steps, stopped, run}
use Rattle.hart.proofs.Frame.{member as mem}
use Rattle.page.proofs.RegisterLaws.{same}
use Rattle.turns.proofs.Model.{Laws}
use Rattle.turns.proofs.Puts
use Rattle.turns.proofs.Closed.{writes, clean, stored, distinct}
use Rattle.turns.proofs.Closed
use Rattle.turns.proofs.Along.{Along}
use Rattle.turns.proofs.Along as Run
use Rattle.turns.proofs.TurnSteps.{turn-steps}
use Rattle.turns.proofs.Truth.{either}

-- the record is the start's with the writes of `done` made, then at most one more, that of the next register
pub data Made (xlen : Xlen) (done rest : List Csr) (s₀ : State) (h : Hart) : Type 0 where
  whole : h ≡ writes xlen done s₀.page s₀.hart → Made xlen done rest s₀ h
  one_more : (c : Csr) (more : List Csr) → rest ≡ c ∷ more → is_dirty s₀.page c ≡ true
      → h ≡ write c (csr_word xlen s₀.page c) (writes xlen done s₀.page s₀.hart) → Made xlen done rest s₀ h

-- s, from the start s₀ of the synchronization of cs: the marks of `done` are dealt with, those of `rest` are not
pub record Inv (xlen : Xlen) (cs done rest : List Csr) (s₀ s : State) : Type 0 where
  pub split : cs ≡ done ++ rest
  pub page : IsPage xlen s.page
  pub table : s.table ≡ s₀.table
  pub done-clear : (d : Csr) → mem d done ≡ true → is_dirty s.page d ≡ false
  pub rest-same : (d : Csr) → mem d done ≡ false → is_dirty s.page d ≡ is_dirty s₀.page d
  pub words : (d : Csr) → is_dirty s.page d ≡ true → csr_word xlen s.page d ≡ csr_word xlen s₀.page d
  pub other : (h : Hart) → Puts.put_all xlen (stored cs s₀.page) h (Puts.clear_all cs s.page) ≡ Puts.put_all xlen (stored cs s₀.page) h (Puts.clear_all cs s₀.page)
  pub made : Made xlen done rest s₀ s.hart

-- the steps after A and B
two-more : (xlen : Xlen) (c : Csr) (xs : List Step) (s t : State) → run xlen (Write c ∷ Clear c ∷ Store c ∷ xs) s ≡ t → run xlen (Store c ∷ xs) (clear_its_bit c (write_from_word xlen c s)) ≡ t
unfolding run after
two-more xlen c xs s t e = e

-- what is in neither is not in the two joined
pub not_left : (d : Csr) (cs ds : List Csr) → mem d (cs ++ ds) ≡ false → mem d cs ≡ false
not_left d cs ds n = ⊎_elim (λ m. absurd (true≢false (sym (Puts.mem-left d cs ds m) ∙ n))) (λ w. w) (either (mem d cs))

not_right : (d : Csr) (cs ds : List Csr) → mem d (cs ++ ds) ≡ false → mem d ds ≡ false
not_right d cs ds n = ⊎_elim (λ m. absurd (true≢false (sym (Puts.mem-right d cs ds m) ∙ n))) (λ w. w) (either (mem d ds))

not-head : (d c : Csr) (cs : List Csr) → mem d (c ∷ cs) ≡ false → same d c ≡ false
not-head d c cs n = ⊎_elim (λ e. absurd (true≢false (rw e at n))) (λ w. w) (either (same d c))

writes-append : (xlen : Xlen) (cs ds : List Csr) (p : List ℕ) (h : Hart) → writes xlen (cs ++ ds) p h ≡ writes xlen ds p (writes xlen cs p h)
unfolding writes
writes-append xlen [] ds p h = refl
writes-append xlen (c ∷ cs) ds p h = writes-append xlen cs ds p (cond (is_dirty p c) (write c (csr_word xlen p c) h) h)

module _ (xlen : Xlen) (L : Laws xlen) where
  -- the members of the second part are not in the first
  pub distinct_apart : (done rest : List Csr) (d : Csr) → distinct (done ++ rest) ≡ true → mem d rest ≡ true → mem d done ≡ false
  distinct_apart [] rest d w m = refl
  distinct_apart (e ∷ done) rest d w m = go (either (same d e)) (distinct_apart done rest d (Closed.distinct_tail e (done ++ rest) w) m)
    where
      go : (same d e ≡ true) ⊎ (same d e ≡ false) → mem d done ≡ false → (same d e || mem d done) ≡ false
      go (inl s) n =
          absurd (true≢false (sym (subst (λ (x : Csr). mem x (done ++ rest) ≡ true) (L.same-eq d e s) (Puts.mem-right d done rest m))
          ∙ Closed.distinct_head e (done ++ rest) w))
      go (inr s) n = rw s n

  -- a write made again changes nothing
  writes_again : (c : Csr) (cs : List Csr) (p : List ℕ) (h : Hart) → is_dirty p c ≡ true → writes xlen (c ∷ cs) p (write c (csr_word xlen p c) h) ≡ writes xlen (c ∷ cs) p h
  unfolding writes
  writes_again c cs p h t = rw t (ap (writes xlen cs p) (L.write-twice c (csr_word xlen p c) h))

  -- the call stores each register that it serves
  pub stored-own : (cs : List Csr) (c : Csr) (p : List ℕ) → mem c cs ≡ true → mem c (stored cs p) ≡ true
  unfolding stored
  stored-own [] c p m = absurd (false≢true m)
  stored-own (e ∷ cs) c p m = go (either (same c e)) (stored-own cs c (clear_mark e p))
    where
      go : (same c e ≡ true) ⊎ (same c e ≡ false) → (mem c cs ≡ true → mem c (stored cs (clear_mark e p)) ≡ true)
          → mem c (e ∷ (clean (followers e) (clear_mark e p) ++ stored cs (clear_mark e p))) ≡ true
      go (inl s) ih = rw s
      go (inr s) ih = rw s (Puts.mem-right c (clean (followers e) (clear_mark e p)) (stored cs (clear_mark e p)) (ih (Puts.mem-rest c e cs s m)))

  -- and each follower of one of them that is clean
  pub stored-follower : (cs : List Csr) (c f : Csr) (p : List ℕ) → IsPage xlen p → mem c cs ≡ true → mem f (followers c) ≡ true → is_dirty p f ≡ false
      → mem f (stored cs p) ≡ true
  unfolding stored
  stored-follower [] c f p g m w n = absurd (false≢true m)
  stored-follower (e ∷ cs) c f p g m w n =
      go (either (same c e)) (stored-follower cs c f (clear_mark e p) (L.page-clear e p g))
    where
      own : List Csr
      own = clean (followers e) (clear_mark e p)

      go : (same c e ≡ true) ⊎ (same c e ≡ false)
          → (mem c cs ≡ true → mem f (followers c) ≡ true → is_dirty (clear_mark e p) f ≡ false → mem f (stored cs (clear_mark e p)) ≡ true)
          → mem f (e ∷ (own ++ stored cs (clear_mark e p))) ≡ true
      go (inl s) ih =
          Puts.mem-more f e (own ++ stored cs (clear_mark e p))
          (Puts.mem-left f own (stored cs (clear_mark e p))
          (Closed.clean-mem xlen L f (followers e) (clear_mark e p) (subst (λ (x : Csr). mem f (followers x) ≡ true) (L.same-eq c e s) w)
          (Closed.clear-keeps xlen L e f p g n)))
      go (inr s) ih =
          Puts.mem-more f e (own ++ stored cs (clear_mark e p))
          (Puts.mem-right f own (stored cs (clear_mark e p)) (ih (Puts.mem-rest c e cs s m) w (Closed.clear-keeps xlen L e f p g n)))

  -- what the call stores besides the registers that it serves: clean followers of theirs
  stored-why : (cs : List Csr) (d : Csr) (p : List ℕ) → IsPage xlen p → mem d (stored cs p) ≡ true → mem d cs ≡ false
      → (c : Csr) × (mem c cs ≡ true) × (mem d (followers c) ≡ true) × (is_dirty p d ≡ false)
  unfolding stored
  stored-why [] d p g m n = absurd (false≢true m)
  stored-why (e ∷ cs) d p g m n =
      ⊎_elim
      (λ w. let k : mem d (clean (followers e) (clear_mark e p)) ≡ true = Puts.mem-rest d e (clean (followers e) (clear_mark e p)) not-e w in
      (e, rw (Puts.same_refl e), Closed.clean_sub xlen L d (followers e) (clear_mark e p) k, sym bit ∙ Closed.mem-clean xlen L d (followers e) (clear_mark e p) k))
      (λ w. let (c, u, f, z) = stored-why cs d (clear_mark e p) (L.page-clear e p g) w (rw not-e at n) in (c, Puts.mem-more c e cs u, f, sym bit ∙ z))
      (Puts.mem-join d (e ∷ clean (followers e) (clear_mark e p)) (stored cs (clear_mark e p)) m)
    where
      not-e : same d e ≡ false
      not-e = not-head d e cs n

      bit : is_dirty (clear_mark e p) d ≡ is_dirty p d
      bit = L.dirty-clear-other e d p g not-e

  -- so it goes by the bits of the registers that the call does not serve
  stored-sub : (cs : List Csr) (p q : List ℕ) → IsPage xlen p → IsPage xlen q → ((d : Csr) → mem d cs ≡ false → is_dirty p d ≡ is_dirty q d)
      → (d : Csr) → mem d (stored cs p) ≡ true → mem d (stored cs q) ≡ true
  stored-sub cs p q g k e d m =
      ⊎_elim (λ t. stored-own cs d q t)
      (λ n. let (c, u, f, z) = stored-why cs d p g m n in stored-follower cs c d q k u f (sym (e d n) ∙ z)) (either (mem d cs))

  -- writes of clean registers are none
  writes-clean : (cs : List Csr) (p : List ℕ) (h : Hart) → ((c : Csr) → mem c cs ≡ true → is_dirty p c ≡ false) → writes xlen cs p h ≡ h
  unfolding writes
  writes-clean [] p h n = refl
  writes-clean (c ∷ cs) p h n = rw (n c (rw (Puts.same_refl c))) (writes-clean cs p h (λ d m. n d (Puts.mem-more d c cs m)))

  module _ (cs : List Csr) (s₀ : State) (g₀ : IsPage xlen s₀.page) (dis : distinct cs ≡ true) where
    -- a store of a clean register that the call stores
    store_step : (done rest : List Csr) (s : State) (c : Csr) → Inv xlen cs done rest s₀ s → mem c (stored cs s₀.page) ≡ true → is_dirty s.page c ≡ false
        → Inv xlen cs done rest s₀ (store_reading xlen c s)
    unfolding store_reading
    store_step done rest s c i m n =
        record {
          split = i.split;
          page = L.page-put c v s.page i.page;
          table = i.table;
          done-clear = λ d k. bits d ∙ i.done-clear d k;
          rest-same = λ d k. bits d ∙ i.rest-same d k;
          words = λ d k. L.word-put c d v s.page i.page (not-c d (sym (bits d) ∙ k)) ∙ i.words d (sym (bits d) ∙ k);
          other = λ h. ap (Puts.put_all xlen (stored cs s₀.page) h) (Puts.clear_all-one xlen L cs c v s.page i.page)
              ∙ Puts.absorb xlen L (stored cs s₀.page) h (Puts.clear_all cs s.page) c v (Puts.clear_all-page xlen L cs s.page i.page) m ∙ i.other h;
          made = i.made;
        }
      where
        v : ℕ
        v = read c s.hart

        bits : (d : Csr) → is_dirty (put_csr xlen c v s.page) d ≡ is_dirty s.page d
        bits d = L.dirty-put c d v s.page i.page

        not-c : (d : Csr) → is_dirty s.page d ≡ true → same d c ≡ false
        not-c d k = ⊎_elim (λ e. absurd (true≢false (sym k ∙ ap (is_dirty s.page) (L.same-eq d c e) ∙ n))) (λ w. w) (either (same d c))

    -- the register whose mark comes next is not among those dealt with
    next-new : (done : List Csr) (c : Csr) (more : List Csr) → cs ≡ done ++ (c ∷ more) → mem c done ≡ false
    next-new done c more e = distinct_apart done (c ∷ more) c (subst (λ (l : List Csr). distinct l ≡ true) e dis) (rw (Puts.same_refl c))

    -- the next register was dirty at the start
    dirty-then : (done more : List Csr) (s : State) (c : Csr) → Inv xlen cs done (c ∷ more) s₀ s → is_dirty s.page c ≡ true → is_dirty s₀.page c ≡ true
    dirty-then done more s c i t = sym (i.rest-same c (next-new done c more i.split)) ∙ t

    -- (A) of the next register makes its write, the first time or again
    write-made : (done more : List Csr) (s : State) (c : Csr) → Inv xlen cs done (c ∷ more) s₀ s → is_dirty s.page c ≡ true
        → write c (csr_word xlen s.page c) s.hart ≡ write c (csr_word xlen s₀.page c) (writes xlen done s₀.page s₀.hart)
    write-made done more s c i t = ap (λ (x : ℕ). write c x s.hart) (i.words c t) ∙ again i.made
      where
        base : Hart
        base = writes xlen done s₀.page s₀.hart

        again : Made xlen done (c ∷ more) s₀ s.hart → write c (csr_word xlen s₀.page c) s.hart ≡ write c (csr_word xlen s₀.page c) base
        again (whole e) = ap (write c (csr_word xlen s₀.page c)) e
        again (one_more d ds e k w) =
            let q : c ≡ d = cc in
            ap (write c (csr_word xlen s₀.page c)) (w ∙ ap (λ (x : Csr). write x (csr_word xlen s₀.page x) base) (sym q))
            ∙ L.write-twice c (csr_word xlen s₀.page c) base

    write_step : (done more : List Csr) (s : State) (c : Csr) → Inv xlen cs done (c ∷ more) s₀ s → is_dirty s.page c ≡ true
        → Inv xlen cs done (c ∷ more) s₀ (write_from_word xlen c s)
    unfolding write_from_word
    write_step done more s c i t =
        record {
          split = i.split;
          page = i.page;
          table = i.table;
          done-clear = i.done-clear;
          rest-same = i.rest-same;
          words = i.words;
          other = i.other;
          made = one_more c more refl (dirty-then done more s c i t) (write-made done more s c i t);
        }

    -- (B) of the next register, whose write is made
    clear_step : (done more : List Csr) (s : State) (c : Csr) → Inv xlen cs done (c ∷ more) s₀ s → is_dirty s₀.page c ≡ true
        → s.hart ≡ write c (csr_word xlen s₀.page c) (writes xlen done s₀.page s₀.hart) → Inv xlen cs (done ++ (c ∷ [])) more s₀ (clear_its_bit c s)
    unfolding clear_its_bit writes
    clear_step done more s c i t w =
        record {
          split = i.split ∙ sym (append_assoc done (c ∷ []) more);
          page = L.page-clear c s.page i.page;
          table = i.table;
          done-clear = λ d k. ⊎_elim (λ m. Closed.clear-keeps xlen L c d s.page i.page (i.done-clear d m)) (λ m. here d m) (Puts.mem-join d done (c ∷ []) k);
          rest-same = λ d k. L.dirty-clear-other c d s.page i.page (not-head d c [] (not_right d done (c ∷ []) k)) ∙ i.rest-same d (not_left d done (c ∷ []) k);
          words = λ d k. L.word-clear c d s.page i.page ∙ i.words d (was d k);
          other = λ h. ap (Puts.put_all xlen (stored cs s₀.page) h) (Puts.clear_all-clear xlen L cs c s.page i.page served-c) ∙ i.other h;
          made = whole (w ∙ sym (writes-append xlen done (c ∷ []) s₀.page s₀.hart ∙ last));
        }
      where
        was : (d : Csr) → is_dirty (clear_mark c s.page) d ≡ true → is_dirty s.page d ≡ true
        was d k =
            ⊎_elim (λ e. e) (λ n. absurd (true≢false (sym k ∙ Closed.clear-keeps xlen L c d s.page i.page n))) (either (is_dirty s.page d))

        last : writes xlen (c ∷ []) s₀.page (writes xlen done s₀.page s₀.hart) ≡ write c (csr_word xlen s₀.page c) (writes xlen done s₀.page s₀.hart)
        last = rw t

        served-c : mem c cs ≡ true
        served-c = subst (λ (l : List Csr). mem c l ≡ true) (sym i.split) (Puts.mem-right c done (c ∷ more) (rw (Puts.same_refl c)))

        here : (d : Csr) → mem d (c ∷ []) ≡ true → is_dirty (clear_mark c s.page) d ≡ false
        here d m = ⊎_elim (λ e. ap (is_dirty (clear_mark c s.page)) (L.same-eq d c e) ∙ L.dirty-clear-same c s.page i.page) (λ n. absurd (false≢true (rw n at m))) (either (same d c))

    -- a clean register's turn deals with its mark
    pass-clean : (done more : List Csr) (s : State) (c : Csr) → Inv xlen cs done (c ∷ more) s₀ s → is_dirty s.page c ≡ false
        → Inv xlen cs (done ++ (c ∷ [])) more s₀ s
    unfolding writes
    pass-clean done more s c i n =
        record {
          split = i.split ∙ sym (append_assoc done (c ∷ []) more);
          page = i.page;
          table = i.table;
          done-clear = λ d k. ⊎_elim (i.done-clear d) (λ m. ap (is_dirty s.page) (L.same-eq d c (only d m)) ∙ n) (Puts.mem-join d done (c ∷ []) k);
          rest-same = λ d k. i.rest-same d (not_left d done (c ∷ []) k);
          words = i.words;
          other = i.other;
          made = whole (made-whole i.made ∙ sym (writes-append xlen done (c ∷ []) s₀.page s₀.hart ∙ last));
        }
      where
        only : (d : Csr) → mem d (c ∷ []) ≡ true → same d c ≡ true
        only d m = ⊎_elim (λ e. e) (λ w. absurd (false≢true (rw w at m))) (either (same d c))

        clean₀ : is_dirty s₀.page c ≡ false
        clean₀ = sym (i.rest-same c (next-new done c more i.split)) ∙ n

        last : writes xlen (c ∷ []) s₀.page (writes xlen done s₀.page s₀.hart) ≡ writes xlen done s₀.page s₀.hart
        last = rw clean₀

        made-whole : Made xlen done (c ∷ more) s₀ s.hart → s.hart ≡ writes xlen done s₀.page s₀.hart
        made-whole (whole e) = e
        made-whole (one_more d ds e k w) =
            let q : c ≡ d = cc in
            absurd (true≢false (sym k ∙ ap (is_dirty s₀.page) (sym q) ∙ clean₀))

    -- whatever the marks dealt with, the invariant holds
    abbrev pub Holds : State → Type 0
    Holds s = (done : List Csr) × (rest : List Csr) × Inv xlen cs done rest s₀ s

    -- D of a register that is dealt with
    stores-along : (fs : List Csr) (done rest : List Csr) (q : List ℕ) (s : State) → Inv xlen cs done rest s₀ s
        → ((f : Csr) → mem f fs ≡ true → is_dirty q f ≡ false → (mem f (stored cs s₀.page) ≡ true) × (is_dirty s.page f ≡ false))
        → Along xlen (Inv xlen cs done rest s₀) (clean_stores fs q) s
    unfolding Along clean_stores after
    stores-along [] done rest q s i u = i
    stores-along (f ∷ fs) done rest q s i u = go (either (is_dirty q f)) (stores-along fs done rest q s i (λ d m. u d (Puts.mem-more d f fs m)))
        (λ j. stores-along fs done rest q (store_reading xlen f s) j later)
      where
        later : (d : Csr) → mem d fs ≡ true → is_dirty q d ≡ false → (mem d (stored cs s₀.page) ≡ true) × (is_dirty (store_reading xlen f s).page d ≡ false)
        later d m n = ((u d (Puts.mem-more d f fs m) n).0, unfold store_reading in (L.dirty-put f d (read f s.hart) s.page i.page ∙ (u d (Puts.mem-more d f fs m) n).1))

        go : (is_dirty q f ≡ true) ⊎ (is_dirty q f ≡ false) → Along xlen (Inv xlen cs done rest s₀) (clean_stores fs q) s
            → (Inv xlen cs done rest s₀ (store_reading xlen f s) → Along xlen (Inv xlen cs done rest s₀) (clean_stores fs q) (store_reading xlen f s))
            → Along xlen (Inv xlen cs done rest s₀) (cond (is_dirty q f) (clean_stores fs q) (Store f ∷ clean_stores fs q)) s
        go (inl d) a b = rw d a
        go (inr d) a b = rw d (i, b (store_step done rest s f i (u f (rw (Puts.same_refl f)) d).0 (u f (rw (Puts.same_refl f)) d).1))

    -- a register that is dealt with is one that the call serves
    served-done : (done rest : List Csr) (s : State) (c : Csr) → Inv xlen cs done rest s₀ s → mem c done ≡ true → mem c cs ≡ true
    served-done done rest s c i m = subst (λ (l : List Csr). mem c l ≡ true) (sym i.split) (Puts.mem-left c done rest m)

    -- C and D of a register that is dealt with
    dealt-along : (done rest : List Csr) (q : List ℕ) (s : State) (c : Csr) → Inv xlen cs done rest s₀ s → mem c done ≡ true
        → ((f : Csr) → mem f (followers c) ≡ true → is_dirty q f ≡ false → is_dirty s.page f ≡ false)
        → Along xlen (Inv xlen cs done rest s₀) (Store c ∷ clean_stores (followers c) q) s
    unfolding Along after
    dealt-along done rest q s c i m u = (
      i,
      stores-along (followers c) done rest q (store_reading xlen c s)
          (store_step done rest s c i (stored-own cs c s₀.page (served-done done rest s c i m)) (i.done-clear c m))
          (λ f w n. (in-stored f w (u f w n), unfold store_reading in (L.dirty-put c f (read c s.hart) s.page i.page ∙ u f w n))),
    )
      where
        in-stored : (f : Csr) → mem f (followers c) ≡ true → is_dirty s.page f ≡ false → mem f (stored cs s₀.page) ≡ true
        in-stored f w n =
            ⊎_elim (λ t. stored-own cs f s₀.page t)
            (λ t. stored-follower cs c f s₀.page g₀ (served-done done rest s c i m) w
            (sym (i.rest-same f (not_left f done rest (subst (λ (l : List Csr). mem f l ≡ false) i.split t))) ∙ n))
            (either (mem f cs))

    -- the turn of a register that is dealt with
    done-turn : (done rest : List Csr) (s : State) (c : Csr) → Inv xlen cs done rest s₀ s → mem c done ≡ true
        → Along xlen (Inv xlen cs done rest s₀) (csr_steps c s.page) s
    unfolding csr_steps
    done-turn done rest s c i m = rw (i.done-clear c m) (dealt-along done rest s.page s c i m (λ f w n. n))

    -- the turn of the next register
    next-turn : (done more : List Csr) (s : State) (c : Csr) → Inv xlen cs done (c ∷ more) s₀ s
        → Along xlen Holds (csr_steps c s.page) s × Inv xlen cs (done ++ (c ∷ [])) more s₀ (csr_turn xlen c s)
    next-turn done more s c i = ⊎_elim dirty-turn clean-turn (either (is_dirty s.page c))
      where
        done₁ : List Csr
        done₁ = done ++ (c ∷ [])

        in-done : mem c done₁ ≡ true
        in-done = Puts.mem-right c done (c ∷ []) (rw (Puts.same_refl c))

        weaken : (t : State) → Inv xlen cs done₁ more s₀ t → Holds t
        weaken t j = (done₁, more, j)

        finish : (xs : List Step) (t : State) → run xlen xs t ≡ csr_turn xlen c s → Along xlen (Inv xlen cs done₁ more s₀) xs t → Inv xlen cs done₁ more s₀ (csr_turn xlen c s)
        finish xs t e a = subst (Inv xlen cs done₁ more s₀) e (Run.along-end xlen (Inv xlen cs done₁ more s₀) xs t a)

        clean-turn : is_dirty s.page c ≡ false → Along xlen Holds (csr_steps c s.page) s × Inv xlen cs done₁ more s₀ (csr_turn xlen c s)
        clean-turn n =
            let a : Along xlen (Inv xlen cs done₁ more s₀) (csr_steps c s.page) s = done-turn done₁ more s c (pass-clean done more s c i n) in-done in (
              Run.along-map xlen (Inv xlen cs done₁ more s₀) Holds (csr_steps c s.page) s weaken a,
              finish (csr_steps c s.page) s (turn-steps xlen L c s i.page) a,
            )

        s₁ : State
        s₁ = write_from_word xlen c s

        s₂ : State
        s₂ = clear_its_bit c s₁

        dirty-turn : is_dirty s.page c ≡ true → Along xlen Holds (csr_steps c s.page) s × Inv xlen cs done₁ more s₀ (csr_turn xlen c s)
        dirty-turn t =
            let i₁ : Inv xlen cs done (c ∷ more) s₀ s₁ = write_step done more s c i t in
            let i₂ : Inv xlen cs done₁ more s₀ s₂ = clear_step done more s₁ c i₁ (dirty-then done more s c i t) (unfold write_from_word in write-made done more s c i t) in
            let a : Along xlen (Inv xlen cs done₁ more s₀) (Store c ∷ clean_stores (followers c) s.page) s₂
            = dealt-along done₁ more s.page s₂ c i₂ in-done (λ f w n. unfold clear_its_bit write_from_word in Closed.clear-keeps xlen L c f s.page i.page n) in
            let e : csr_steps c s.page ≡ Write c ∷ Clear c ∷ Store c ∷ clean_stores (followers c) s.page = unfold csr_steps in rw t in
            let b : Along xlen Holds (Store c ∷ clean_stores (followers c) s.page) s₂ = Run.along-map xlen (Inv xlen cs done₁ more s₀) Holds (Store c ∷ clean_stores (followers c) s.page) s₂ weaken a in (
              rw e (unfold Along after in ((done, (c ∷ more), i), ((done, (c ∷ more), i₁), b))),
              finish (Store c ∷ clean_stores (followers c) s.page) s₂ (two-more xlen c (clean_stores (followers c) s.page) s (csr_turn xlen c s) (subst (λ (xs : List Step). run xlen xs s ≡ csr_turn xlen c s) e (turn-steps xlen L c s i.page))) a,
            )

    -- every step of the turns of the registers that come next keeps it
    along-rest : (rest done : List Csr) (s : State) → Inv xlen cs done rest s₀ s → Along xlen Holds (steps xlen (map Dirty rest) s) s
    unfolding steps Along
    along-rest [] done s i = (done, [], i)
    along-rest (c ∷ rest) done s i =
        Run.along-append xlen Holds (csr_steps c s.page) (steps xlen (map Dirty rest) (csr_turn xlen c s)) s (next-turn done rest s c i).0
        (subst (Along xlen Holds (steps xlen (map Dirty rest) (csr_turn xlen c s))) (sym (turn-steps xlen L c s i.page)) (along-rest rest (done ++ (c ∷ [])) (csr_turn xlen c s) (next-turn done rest s c i).1))

    -- and before that every step of the turns of those that are dealt with
    along-done : (before done rest : List Csr) (s : State) → ((c : Csr) → mem c before ≡ true → mem c done ≡ true) → Inv xlen cs done rest s₀ s
        → Along xlen Holds (steps xlen (map Dirty (before ++ rest)) s) s
    unfolding steps
    along-done [] done rest s m i = along-rest rest done s i
    along-done (c ∷ before) done rest s m i =
        let a : Along xlen (Inv xlen cs done rest s₀) (csr_steps c s.page) s = done-turn done rest s c i (m c (rw (Puts.same_refl c))) in
        Run.along-append xlen Holds (csr_steps c s.page) (steps xlen (map Dirty (before ++ rest)) (csr_turn xlen c s)) s
        (Run.along-map xlen (Inv xlen cs done rest s₀) Holds (csr_steps c s.page) s (λ t j. (done, rest, j)) a)
        (subst (Along xlen Holds (steps xlen (map Dirty (before ++ rest)) (csr_turn xlen c s))) (sym (turn-steps xlen L c s i.page))
        (along-done before done rest (csr_turn xlen c s) (λ d k. m d (Puts.mem-more d c before k))
        (subst (Inv xlen cs done rest s₀) (turn-steps xlen L c s i.page) (Run.along-end xlen (Inv xlen cs done rest s₀) (csr_steps c s.page) s a))))

    -- a run that is stopped anywhere keeps it
    pub stop-keeps : (n : ℕ) (s : State) → Holds s → Holds (stopped xlen n (map Dirty cs) s)
    unfolding stopped
    stop-keeps n s (done, rest, i) =
        Run.along-take xlen Holds (steps xlen (map Dirty cs) s) s n
        (subst (λ (l : List Csr). Along xlen Holds (steps xlen (map Dirty l) s) s) (sym i.split) (along-done done done rest s (λ c m. m) i))

    -- the start has it
    pub start : Holds s₀
    start = (
      [],
      cs,
      record {
        split = refl;
        page = g₀;
        table = refl;
        done-clear = λ d m. absurd (false≢true m);
        rest-same = λ d m. refl;
        words = λ d m. refl;
        other = λ h. refl;
        made = whole (unfold writes in refl);
      },
    )

    -- the whole call ends the same from every state that has it
    pub ends : (s : State) → Holds s → turns xlen (map Dirty cs) s ≡ turns xlen (map Dirty cs) s₀
    ends s (done, rest, i) =
        Closed.closed xlen L cs s i.page dis ∙ rw (same_writes, i.table) (ap (Closed.over s₀ h) page-eq) ∙ sym (Closed.closed xlen L cs s₀ g₀ dis)
      where
        p : List ℕ
        p = s.page

        p₀ : List ℕ
        p₀ = s₀.page

        h : Hart
        h = writes xlen cs p₀ s₀.hart

        dis₁ : distinct (done ++ rest) ≡ true
        dis₁ = subst (λ (l : List Csr). distinct l ≡ true) i.split dis

        made-rest : Made xlen done rest s₀ s.hart → writes xlen rest p₀ s.hart ≡ writes xlen rest p₀ (writes xlen done p₀ s₀.hart)
        made-rest (whole e) = ap (writes xlen rest p₀) e
        made-rest (one_more c more e k w) = rw (e, w) (writes_again c more p₀ (writes xlen done p₀ s₀.hart) k)

        same_writes : writes xlen cs p s.hart ≡ h
        same_writes =
            ap (λ (l : List Csr). writes xlen l p s.hart) i.split ∙ writes-append xlen done rest p s.hart
            ∙ ap (writes xlen rest p) (writes-clean done p s.hart i.done-clear)
            ∙ Closed.writes-cong xlen L rest p p₀ s.hart (λ d m. i.rest-same d (distinct_apart done rest d dis₁ m))
            (λ d m k. i.words d (i.rest-same d (distinct_apart done rest d dis₁ m) ∙ k))
            ∙ made-rest i.made ∙ sym (writes-append xlen done rest p₀ s₀.hart) ∙ ap (λ (l : List Csr). writes xlen l p₀ s₀.hart) (sym i.split)

        bits : (d : Csr) → mem d cs ≡ false → is_dirty p d ≡ is_dirty p₀ d
        bits d n = i.rest-same d (not_left d done rest (subst (λ (l : List Csr). mem d l ≡ false) i.split n))

        page-eq : Puts.put_all xlen (stored cs p) h (Puts.clear_all cs p) ≡ Puts.put_all xlen (stored cs p₀) h (Puts.clear_all cs p₀)
        page-eq =
            Puts.same-members xlen L (stored cs p) (stored cs p₀) h (Puts.clear_all cs p) (Puts.clear_all-page xlen L cs p i.page)
            (stored-sub cs p p₀ i.page g₀ bits) (stored-sub cs p₀ p g₀ i.page (λ d n. sym (bits d n)))
            ∙ i.other h
