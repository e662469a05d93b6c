-- From the invariant to 01's words on the record after a stop.
use mathlib.Core.Path.{◌≡◌, refl, sym, ap, ◌∙◌, subst}
use mathlib.Core.Bool.{Bool, true, false, cond, not, ◌&&◌}
use mathlib.Core.List.{List, [], ◌∷◌, ◌++◌}
use mathlib.Core.Logic.{◌⊎◌, inl, inr}
use Prim.Native.Nat.{ℕ}
use Rattle.layout.specs.declared.xlen.Xlen.{Xlen}
use Rattle.layout.specs.declared.xlen.Xlen.TheVariants.{X32, X64}
use Rattle.csr.specs.Csrs.{Csr, has, turn_order}
use Rattle.csr.proofs.Table.{same as same-table}
use Rattle.hart.specs.declared.record.Hart.{Hart}
use Rattle.hart.specs.Registers.{write}
use Rattle.page.specs.Registers.{is_dirty, csr_word}
use Rattle.world.specs.State.{State}
use Rattle.turns.specs.Marks.{Dirty}
use Rattle.turns.specs.Stops.{cleared, cleared_writes, RecordAfter, no_more, one_more}
use Rattle.hart.proofs.Frame.{member as mem}
use Rattle.turns.proofs.Model.{Laws}
use Rattle.turns.proofs.Puts
use Rattle.turns.proofs.Closed.{writes, distinct}
use Rattle.turns.proofs.Invariant.{Inv, Made}
use Rattle.turns.proofs.Invariant
use Rattle.turns.proofs.Truth.{either}

-- the registers of ts that are in cs
abbrev pub keep : List Csr → List Csr → List Csr
keep cs [] = []
keep cs (t ∷ ts) = let rest = keep cs ts in cond (mem t cs) (t ∷ rest) rest

-- a single register that the width has is in turn order
pub one-in-order : (xlen : Xlen) (c : Csr) → has xlen c ≡ true → keep (c ∷ []) (turn_order xlen) ≡ c ∷ []
one-in-order X32 c h = same-table (λ (c : Csr). keep (c ∷ []) (turn_order X32)) (λ (c : Csr). c ∷ []) refl c
one-in-order X64 c h =
    simp h at (same-table (λ (c : Csr). cond (has X64 c) (keep (c ∷ []) (turn_order X64)) (c ∷ [])) (λ (c : Csr). c ∷ []) refl c)

-- and all are
pub all-in-order : (xlen : Xlen) → keep (turn_order xlen) (turn_order xlen) ≡ turn_order xlen
all-in-order X32 = refl
all-in-order X64 = refl

cleared-append : (xlen : Xlen) (cs ds : List Csr) (p q : List ℕ) (h : Hart) → cleared_writes xlen (cs ++ ds) p q h ≡ cleared_writes xlen ds p q (cleared_writes xlen cs p q h)
unfolding cleared_writes
cleared-append xlen [] ds p q h = refl
cleared-append xlen (c ∷ cs) ds p q h = cleared-append xlen cs ds p q (cond (cleared xlen p q (Dirty c)) (write c (csr_word xlen p c) h) h)

-- a mark that is as it was is not cleared
not-cleared : (xlen : Xlen) (p q : List ℕ) (c : Csr) → is_dirty q c ≡ is_dirty p c → cleared xlen p q (Dirty c) ≡ false
unfolding cleared
not-cleared xlen p q c e = rw e (both (is_dirty p c))
  where
    both : (b : Bool) → (b && not b) ≡ false
    both true = refl
    both false = refl

-- registers whose marks are as they were are not written
pub cleared-same : (xlen : Xlen) (cs : List Csr) (p q : List ℕ) (h : Hart) → ((c : Csr) → mem c cs ≡ true → is_dirty q c ≡ is_dirty p c) → cleared_writes xlen cs p q h ≡ h
unfolding cleared_writes
cleared-same xlen [] p q h e = refl
cleared-same xlen (c ∷ cs) p q h e = rw (not-cleared xlen p q c (e c (rw (Puts.same_refl c)))) (cleared-same xlen cs p q h (λ d m. e d (Puts.mem-more d c cs m)))

-- of registers whose bits are clear now, those are written that were dirty
cleared-done : (xlen : Xlen) (cs : List Csr) (p q : List ℕ) (h : Hart) → ((c : Csr) → mem c cs ≡ true → is_dirty q c ≡ false) → cleared_writes xlen cs p q h ≡ writes xlen cs p h
unfolding cleared_writes cleared writes
cleared-done xlen [] p q h e = refl
cleared-done xlen (c ∷ cs) p q h e =
    rw (e c (rw (Puts.same_refl c)), mathlib.Core.Bool.and-true (is_dirty p c))
    (cleared-done xlen cs p q (cond (is_dirty p c) (write c (csr_word xlen p c) h) h) (λ d m. e d (Puts.mem-more d c cs m)))

-- registers that a call does not serve add no write
cleared-keep : (xlen : Xlen) (cs ts : List Csr) (p q : List ℕ) (h : Hart) → ((c : Csr) → mem c cs ≡ false → is_dirty q c ≡ is_dirty p c)
    → cleared_writes xlen ts p q h ≡ cleared_writes xlen (keep cs ts) p q h
unfolding cleared_writes
cleared-keep xlen cs [] p q h e = refl
cleared-keep xlen cs (t ∷ ts) p q h e = go (either (mem t cs)) (λ k. cleared-keep xlen cs ts p q k e)
  where
    next : Hart
    next = cond (cleared xlen p q (Dirty t)) (write t (csr_word xlen p t) h) h

    go : (mem t cs ≡ true) ⊎ (mem t cs ≡ false) → ((k : Hart) → cleared_writes xlen ts p q k ≡ cleared_writes xlen (keep cs ts) p q k)
        → cleared_writes xlen ts p q next ≡ cleared_writes xlen (cond (mem t cs) (t ∷ keep cs ts) (keep cs ts)) p q h
    go (inl m) ih = rw m (ih next)
    go (inr n) ih = rw (n, not-cleared xlen p q t (e t n)) (ih h)

module _ (xlen : Xlen) (L : Laws xlen) (cs : List Csr) (s₀ : State) (dis : distinct cs ≡ true) (order : keep cs (turn_order xlen) ≡ cs) where
  -- the writes of the marks dealt with are those of the marks cleared
  made-cleared : (done rest : List Csr) (s : State) → Inv xlen cs done rest s₀ s → cleared_writes xlen (turn_order xlen) s₀.page s.page s₀.hart ≡ writes xlen done s₀.page s₀.hart
  made-cleared done rest s i =
      cleared-keep xlen cs (turn_order xlen) p₀ p s₀.hart (λ c n. i.rest-same c (Invariant.not_left c done rest (subst (λ (l : List Csr). mem c l ≡ false) i.split n)))
      ∙ ap (λ (l : List Csr). cleared_writes xlen l p₀ p s₀.hart) (order ∙ i.split) ∙ cleared-append xlen done rest p₀ p s₀.hart
      ∙ cleared-same xlen rest p₀ p (cleared_writes xlen done p₀ p s₀.hart)
      (λ c m. i.rest-same c (Invariant.distinct_apart xlen L done rest c (subst (λ (l : List Csr). distinct l ≡ true) i.split dis) m))
      ∙ cleared-done xlen done p₀ p s₀.hart i.done-clear
    where
      p₀ : List ℕ
      p₀ = s₀.page

      p : List ℕ
      p = s.page

  -- 01's words on the record
  pub record-after : (done rest : List Csr) (s : State) → Inv xlen cs done rest s₀ s → RecordAfter xlen cs s₀ s
  record-after done rest s i = go i.made
    where
      go : Made xlen done rest s₀ s.hart → RecordAfter xlen cs s₀ s
      go (Made.whole e) = no_more (e ∙ sym (made-cleared done rest s i))
      go (Made.one_more c more e t w) =
          one_more c
          (record {
            before = done;
            behind = more;
            split = i.split ∙ ap (λ (l : List Csr). done ++ l) e;
            clean = λ d l m b. i.done-clear d (subst (λ (x : List Csr). mem d x ≡ true) (sym b) (Puts.mem-right d l (d ∷ m) (rw (Puts.same_refl d))));
            dirty = i.rest-same c (Invariant.distinct_apart xlen L done rest c (subst (λ (l : List Csr). distinct l ≡ true) i.split dis) (rw (e, Puts.same_refl c))) ∙ t;
          })
          (w ∙ ap (write c (csr_word xlen s₀.page c)) (sym (made-cleared done rest s i)))
