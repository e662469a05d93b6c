-- A property of pages that every edit keeps, a store of a word or a mark cleared, is kept by turns, whole or stopped, and by clean words.
use mathlib.Core.Path.{◌≡◌, refl, sym, ap, ◌∙◌, subst}
use mathlib.Core.Bool.{Bool, true, false, cond, not, ◌&&◌, false≢true}
use mathlib.Core.List.Memᴰ
use mathlib.Core.List.{List, [], ◌∷◌, ◌++◌, map, Memᴰ}
use mathlib.Core.Logic.{⊎_elim}
use Prim.Native.Nat.{ℕ, zero, suc, ◌<◌}
use native.Mathlib.Nat.{le_refl}
use native.Mathlib.Omega.{arith}
use lib.ListN.{length, take}
use Rattle.layout.specs.Width.{bytes}
use Rattle.layout.specs.declared.xlen.Xlen.{Xlen}
use Rattle.layout.specs.Geometry.{entry_count, swap_at}
use Rattle.layout.specs.Words.{put_word}
use Rattle.csr.specs.Csrs.{Csr, Hstatus, Hip, Vsip, is_upper_half, has, those, every_csr, turn_of, turn_order, followers, nth}
use Rattle.csr.proofs.Turns.{turn_of-lt, at_turn-turn_of, has-lower}
use Rattle.csr.proofs.Table.{same as same-table}
use Rattle.hart.specs.Features.{has_feature}
use Rattle.hart.specs.Registers.{read}
use Rattle.fence.specs.Table.{named}
use Rattle.page.specs.Registers.{IsPage, is_dirty, clear_mark, put_csr}
use Rattle.page.specs.Entries.{every_entry, fence_at, is_pending, clear_entry}
use Rattle.page.proofs.RegisterLaws.{page-put, page-clear}
use Rattle.page.proofs.EntryLaws.{page-done}
use Rattle.world.specs.World.{World}
use Rattle.world.specs.State.{State}
use Rattle.turns.specs.Marks.{Mark, Dirty, Pending}
use Rattle.turns.specs.Turn.{write_from_word, clear_its_bit, store_reading, turn, turns}
use Rattle.turns.specs.Steps.{Step, Write, Clear, Store, Remove, Done, after, run, clean_stores, csr_steps, removals, entry_steps, turn_steps, steps, total, stopped}
use Rattle.turns.specs.Clean.{unclean, store_clean_words}
use Rattle.turns.proofs.Numbers.{mem, Entries, mem-first, mem-more, every-below}
use Rattle.turns.proofs.Turns.{enough}
use Rattle.checks.specs.Fids.{fid_sret}
use Rattle.checks.proofs.Accepted.{good_parameter, Passed, by-fid}
use Rattle.checks.proofs.Truth.{both as both_of}
use Rattle.stops.specs.Sync.{csrs_asked, entries_asked, asked}
use Rattle.stops.proofs.Restart.{asked-entries}
use Rattle.sret.specs.Sret.{csrs_offered, entries_offered}
use Rattle.nacl.specs.Calls.{done}
use Rattle.claims.specs.Events.{with_followers, call_marks, call_words}

-- P stays with every edit: a store of one of these registers' words, one of these marks cleared and, if it is stored, a store of the swap word
pub record Keeps (xlen : Xlen) (cs : List Csr) (ms : List Mark) (stored : Bool) (P : List ℕ → Type 0) : Type 0 where
  pub put : (c : Csr) (v : ℕ) (p : List ℕ) → Memᴰ c cs → IsPage xlen p → P p → P (put_csr xlen c v p)
  pub clear : (c : Csr) (p : List ℕ) → Memᴰ (Dirty c) ms → IsPage xlen p → P p → P (clear_mark c p)
  pub done : (e : ℕ) (p : List ℕ) → Memᴰ (Pending e) ms → e < entry_count (bytes xlen) → IsPage xlen p → P p → P (clear_entry xlen e p)
  pub swap : (v : ℕ) (p : List ℕ) → stored ≡ true → IsPage xlen p → P p → P (put_word (bytes xlen) p (swap_at (bytes xlen)) v)

-- ---- turns, whole or stopped

module _ (xlen : Xlen) (cs : List Csr) (ms : List Mark) where
  -- the step is one of these edits
  abbrev pub Edit : Step → Type 0
  Edit (Write c) = Unit {0}
  Edit (Clear c) = Memᴰ (Dirty c) ms
  Edit (Store c) = Memᴰ c cs
  Edit (Remove i) = Unit {0}
  Edit (Done e) = Memᴰ (Pending e) ms × (e < entry_count (bytes xlen))

  -- all of them are
  abbrev pub Edits : List Step → Type 0
  Edits [] = Unit {0}
  Edits (x ∷ xs) = Edit x × Edits xs

  -- all of a turn's are
  abbrev pub Within : Mark → Type 0
  Within (Dirty c) = Memᴰ (Dirty c) ms × Memᴰ c cs × ((f : Csr) → Memᴰ f (followers c) → Memᴰ f cs)
  Within (Pending e) = Memᴰ (Pending e) ms × (e < entry_count (bytes xlen))

  -- these and those
  both : (xs ys : List Step) → Edits xs → Edits ys → Edits (xs ++ ys)
  both [] ys e f = f
  both (x ∷ xs) ys e f = (e.0, both xs ys e.1 f)

  -- the stores of a turn's part D
  clean-edits : (fs : List Csr) (p : List ℕ) → ((f : Csr) → Memᴰ f fs → Memᴰ f cs) → Edits (clean_stores fs p)
  unfolding clean_stores
  clean-edits [] p i = tt
  clean-edits (f ∷ fs) p i = go (is_dirty p f) (clean-edits fs p (λ g m. i g (Memᴰ.tail m)))
    where
      go : (b : Bool) → Edits (clean_stores fs p) → Edits (cond b (clean_stores fs p) (Store f ∷ clean_stores fs p))
      go true e = e
      go false e = (i f (Memᴰ.head refl), e)

  -- removals leave the page
  removal-edits : (is : List ℕ) → Edits (removals is)
  unfolding removals
  removal-edits [] = tt
  removal-edits (i ∷ is) = (tt, removal-edits is)

  -- the steps of one turn, and of several
  turn-edits : (m : Mark) (s : State) → Within m → Edits (turn_steps xlen m s)
  unfolding csr_steps entry_steps
  turn-edits (Dirty c) s w =
      both (cond (is_dirty s.page c) (Write c ∷ Clear c ∷ []) []) (Store c ∷ clean_stores (followers c) s.page) (go (is_dirty s.page c))
      (w.1, clean-edits (followers c) s.page w.2)
    where
      go : (b : Bool) → Edits (cond b (Write c ∷ Clear c ∷ []) [])
      go true = (tt, (w.0, tt))
      go false = tt
  turn-edits (Pending e) s w = go (is_pending xlen s.page e)
    where
      is : List ℕ
      is = named (fence_at xlen s.page e) s.table

      go : (b : Bool) → Edits (cond b (removals is ++ (Done e ∷ [])) [])
      go true = both (removals is) (Done e ∷ []) (removal-edits is) (w, tt)
      go false = tt

  steps-edits : (ks : List Mark) (s : State) → ((m : Mark) → Memᴰ m ks → Within m) → Edits (steps xlen ks s)
  unfolding steps
  steps-edits [] s w = tt
  steps-edits (m ∷ ks) s w =
      both (turn_steps xlen m s) (steps xlen ks (turn xlen m s)) (turn-edits m s (w m (Memᴰ.head refl))) (steps-edits ks (turn xlen m s) (λ n i. w n (Memᴰ.tail i)))

module _ (xlen : Xlen) (cs : List Csr) (ms : List Mark) (stored : Bool) (P : List ℕ → Type 0) (k : Keeps xlen cs ms stored P) where
  -- a page with the property
  abbrev pub Good : List ℕ → Type 0
  Good p = IsPage xlen p × P p

  -- a reading stored, a step made, and the first n steps
  store-good : (c : Csr) (s : State) → Memᴰ c cs → Good s.page → Good (store_reading xlen c s).page
  unfolding store_reading
  store-good c s i (g, h) = (page-put xlen c (read c s.hart) s.page g, k.put c (read c s.hart) s.page i g h)

  after-good : (x : Step) (s : State) → Edit xlen cs ms x → Good s.page → Good (after xlen x s).page
  unfolding after write_from_word clear_its_bit
  after-good (Write c) s e q = q
  after-good (Clear c) s e (g, h) = (page-clear xlen c s.page g, k.clear c s.page e g h)
  after-good (Store c) s e q = store-good c s e q
  after-good (Remove i) s e q = q
  after-good (Done d) s e (g, h) = (page-done xlen d s.page g, k.done d s.page e.0 e.1 g h)

  run-good : (n : ℕ) (xs : List Step) (s : State) → Edits xlen cs ms xs → Good s.page → Good (run xlen (take n xs) s).page
  unfolding run
  run-good zero xs s e q = q
  run-good (suc n) [] s e q = q
  run-good (suc n) (x ∷ xs) s e q = run-good n xs (after xlen x s) e.1 (after-good x s e.0 q)

  -- so the turns of these marks, stopped or whole
  module _ (ks : List Mark) (w : (m : Mark) → Memᴰ m ks → Within xlen cs ms m) where
    pub stopped-good : (n : ℕ) (s : State) → Good s.page → Good (stopped xlen n ks s).page
    unfolding stopped
    stopped-good n s q = run-good n (steps xlen ks s) s (steps-edits xlen cs ms ks s w) q

    pub turns-good : (s : State) → Good s.page → Good (turns xlen ks s).page
    turns-good s q = subst (λ (t : State). Good t.page) (enough xlen (total xlen ks s) ks s q.0 (le_refl (total xlen ks s))) (stopped-good (total xlen ks s) s q)

  -- the clean words of SRET and of a line change
  pub clean-good : (fs : List Csr) (s : State) → ((f : Csr) → Memᴰ f fs → Memᴰ f cs) → Good s.page → Good (store_clean_words xlen fs s).page
  unfolding store_clean_words
  clean-good [] s i q = q
  clean-good (f ∷ fs) s i q =
      clean-good fs (cond (unclean s.hart.features s.page f) s (store_reading xlen f s)) (λ g m. i g (Memᴰ.tail m))
      (go (unclean s.hart.features s.page f))
    where
      go : (b : Bool) → Good (cond b s (store_reading xlen f s)).page
      go true = q
      go false = store-good f s (i f (Memᴰ.head refl)) q

-- ---- the marks asked for

-- the register at a place is in the list
nth_in : (cs : List Csr) (t : ℕ) → t < length cs → Memᴰ (nth cs t) cs
nth_in [] t b = absurd (omega arith)
nth_in (c ∷ cs) zero b = Memᴰ.head refl
nth_in (c ∷ cs) (suc t) b = Memᴰ.tail (nth_in cs t (omega arith))

-- those of a list that the width has
those-in : (xlen : Xlen) (c : Csr) (cs : List Csr) → has xlen c ≡ true → Memᴰ c cs → Memᴰ c (those xlen cs)
those-in xlen c cs h (Memᴰ.head e) = rw (ap (has xlen) (sym e) ∙ h) (Memᴰ.head e)
those-in xlen c cs h (Memᴰ.tail {x = d} {xs = ds} i) = Memᴰ.append_right (cond (has xlen d) (d ∷ []) []) (those-in xlen c ds h i)

those-had : (xlen : Xlen) (cs : List Csr) {c : Csr} → Memᴰ c (those xlen cs) → has xlen c ≡ true
those-had xlen [] i = absurd (Memᴰ.not-nil i)
those-had xlen (d ∷ ds) {c} i = go (has xlen d) refl i (those-had xlen ds)
  where
    go : (b : Bool) → has xlen d ≡ b → Memᴰ c (cond b (d ∷ []) [] ++ those xlen ds) → (Memᴰ c (those xlen ds) → has xlen c ≡ true) → has xlen c ≡ true
    go true h j rest = ⊎_elim (λ e. ap (has xlen) e ∙ h) rest (Memᴰ.cases_cons j)
    go false h j rest = rest j

-- a register that the width has is in its turn order, and no other
pub in_order : (xlen : Xlen) (c : Csr) → has xlen c ≡ true → Memᴰ c (turn_order xlen)
in_order xlen c h = those-in xlen c every_csr h (Memᴰ.cast (sym (at_turn-turn_of c)) (nth_in every_csr (turn_of c) (turn_of-lt c)))

pub order-had : (xlen : Xlen) {c : Csr} → Memᴰ c (turn_order xlen) → has xlen c ≡ true
order-had xlen i = those-had xlen every_csr i

-- none of a list is an upper half
abbrev all_lower : List Csr → Bool
all_lower [] = true
all_lower (c ∷ cs) = not (is_upper_half c) && all_lower cs

lower_in : (cs : List Csr) → all_lower cs ≡ true → {c : Csr} → Memᴰ c cs → is_upper_half c ≡ false
lower_in [] t i = absurd (Memᴰ.not-nil i)
lower_in (d ∷ ds) t i =
    let (own, rest) = both_of (not (is_upper_half d)) (all_lower ds) t in
    ⊎_elim (λ e. ap is_upper_half e ∙ not-true (is_upper_half d) own) (lower_in ds rest) (Memᴰ.cases_cons i)
  where
    not-true : (b : Bool) → not b ≡ true → b ≡ false
    not-true true e = absurd (false≢true e)
    not-true false e = refl

-- so it is in either width's turn order, as every follower is
pub lower-order : (xlen : Xlen) (cs : List Csr) → all_lower cs ≡ true → {c : Csr} → Memᴰ c cs → Memᴰ c (turn_order xlen)
lower-order xlen cs t {c} i = in_order xlen c (has-lower xlen c (lower_in cs t i))

follower-order : (xlen : Xlen) (c f : Csr) → Memᴰ f (followers c) → Memᴰ f (turn_order xlen)
follower-order xlen c f i = lower-order xlen (followers c) (same-table (λ (c : Csr). all_lower (followers c)) (λ (c : Csr). true) refl c) i

-- a list's registers and their followers are among those with followers
with-own : (c : Csr) (ds : List Csr) → Memᴰ c ds → Memᴰ c (with_followers ds)
unfolding with_followers
with-own c ds (Memᴰ.head e) = Memᴰ.head e
with-own c ds (Memᴰ.tail {x} {xs} i) = Memᴰ.tail (Memᴰ.append_right (followers x) (with-own c xs i))

with-follower : (c f : Csr) (ds : List Csr) → Memᴰ c ds → Memᴰ f (followers c) → Memᴰ f (with_followers ds)
unfolding with_followers
with-follower c f ds (Memᴰ.head {x} {xs} e) j =
    Memᴰ.tail (Memᴰ.append_left (with_followers xs) (subst (λ (d : Csr). Memᴰ f (followers d)) e j))
with-follower c f ds (Memᴰ.tail {x} {xs} i) j = Memᴰ.tail (Memᴰ.append_right (followers x) (with-follower c f xs i j))

-- the two ways to say that a number is in a list
entry_in : {e : ℕ} {es : List ℕ} → Memᴰ e es → mem e es ≡ true
entry_in {e} (Memᴰ.head {xs = es} q) = subst (λ (d : ℕ). mem e (d ∷ es) ≡ true) q (mem-first e es)
entry_in {e} (Memᴰ.tail {x = d} {xs = es} i) = mem-more e d es (entry_in i)

module _ (xlen : Xlen) (cs : List Csr) (ks : List Mark) where
  -- turns of registers that are, with their followers, among cs
  csrs-within : (ds : List Csr) → ((c : Csr) → Memᴰ c ds → Memᴰ c cs × ((f : Csr) → Memᴰ f (followers c) → Memᴰ f cs))
      → (m : Mark) → Memᴰ m (map Dirty ds) → Memᴰ m ks → Within xlen cs ks m
  csrs-within ds h m i j =
      let (c, d, e) = Memᴰ.of_map Dirty ds i in
      subst (Within xlen cs ks) e (Memᴰ.cast e j, (h c d).0, (h c d).1)

  -- turns of entries
  entries-within : (es : List ℕ) → Entries xlen es → (m : Mark) → Memᴰ m (map Pending es) → Memᴰ m ks → Within xlen cs ks m
  entries-within es b m i j =
      let (e, d, q) = Memᴰ.of_map Pending es i in
      subst (Within xlen cs ks) q (Memᴰ.cast q j, b e (entry_in d))

-- those of FID 2 and 3
pub asked-within : (features eid fid a : ℕ) (w : World) → Passed eid fid a w
    → (m : Mark) → Memᴰ m (asked w.hart.xlen fid a) → Within w.hart.xlen (call_words w.hart.xlen features fid a) (call_marks w.hart.xlen features fid a) m
asked-within features eid fid a w q =
    by-fid (λ (f : ℕ). good_parameter w.hart.xlen f a ≡ true → (m : Mark) → Memᴰ m (asked w.hart.xlen f a) → Within w.hart.xlen (call_words w.hart.xlen features f a) (call_marks w.hart.xlen features f a) m)
    eid fid q.three
    (λ t m i. csrs-within w.hart.xlen (with_followers (csrs_asked w.hart.xlen a)) (map Dirty (csrs_asked w.hart.xlen a)) (csrs_asked w.hart.xlen a)
    (λ c d. (with-own c (csrs_asked w.hart.xlen a) d, λ f. with-follower c f (csrs_asked w.hart.xlen a) d)) m i i)
    (λ t m i. entries-within w.hart.xlen [] (map Pending (entries_asked w.hart.xlen a)) (entries_asked w.hart.xlen a) (asked-entries w.hart.xlen a t) m i i) q.five

-- those of SRET
pub offered-within : (xlen : Xlen) (features : ℕ) (m : Mark) → Memᴰ m (csrs_offered xlen features ++ entries_offered xlen features)
    → Within xlen (call_words xlen features fid_sret 0) (csrs_offered xlen features ++ entries_offered xlen features) m
offered-within xlen features m i =
    ⊎_elim (λ j. registers (has_feature features 0) j) (λ j. fences (has_feature features 1) j) (Memᴰ.append_cases (csrs_offered xlen features) i)
  where
    ks : List Mark
    ks = csrs_offered xlen features ++ entries_offered xlen features

    registers : (b : Bool) → Memᴰ m (cond b (map Dirty (turn_order xlen)) []) → Within xlen (cond b (turn_order xlen) (Hstatus ∷ Hip ∷ Vsip ∷ [])) ks m
    registers true j = csrs-within xlen (turn_order xlen) ks (turn_order xlen) (λ c d. (d, λ f e. follower-order xlen c f e)) m j i
    registers false j = absurd (Memᴰ.not-nil j)

    fences : (b : Bool) → Memᴰ m (cond b (map Pending (every_entry xlen)) []) → Within xlen (call_words xlen features fid_sret 0) ks m
    fences true j = entries-within xlen (call_words xlen features fid_sret 0) ks (every_entry xlen) (every-below xlen) m j i
    fences false j = absurd (Memᴰ.not-nil j)
