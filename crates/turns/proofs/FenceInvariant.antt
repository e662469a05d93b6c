-- The invariant between the start of a list of stops and the present state of a fence synchronization: each step of each run keeps it, and
-- the whole call ends the same from every state that has it.
use mathlib.Core.Path.{◌≡◌, refl, sym, ap, ◌∙◌, subst}
use mathlib.Core.Bool.{true, false, true≢false}
use mathlib.Core.List.{List, [], ◌∷◌, ◌++◌, map, append_assoc, append-nil}
use mathlib.Core.Logic.{⊎_elim}
use Prim.Native.Nat.{ℕ, ◌/◌, ◌<◌}
use Rattle.layout.specs.declared.xlen.Xlen.{Xlen}
use Rattle.layout.specs.Width.{bytes}
use Rattle.layout.specs.Geometry.{entry_count}
use Rattle.fence.specs.Table.{names_slot, named}
use Rattle.fence.specs.Slots.{slot_count}
use Rattle.fence.proofs.Named.{remove_slots-append}
use Rattle.fence.proofs.Removal.{length-remove_slots}
use Rattle.page.specs.Registers.{IsPage}
use Rattle.page.specs.Entries.{is_pending, fence_at}
use Rattle.world.specs.State.{State}
use Rattle.turns.specs.Marks.{Mark, Pending, is_marked}
use Rattle.turns.specs.Turn.{entry_turn, turns}
use Rattle.turns.specs.Steps.{Done, after, run, removals, entry_steps, steps, stopped}
use Rattle.turns.specs.Stops.{cleared, NoneLeft}
use Rattle.turns.proofs.Truth.{either, first-only}
use Rattle.turns.proofs.Along.{Along, along-take, along-append}
use Rattle.turns.proofs.Numbers.{mem, Entries, mem-first, mem-more, mem-left}
use Rattle.turns.proofs.FenceTurns.{at, without, turn-idle, turns-idle, turn-part, turn-pending, first-turn, named-rest, entry_turns-append, turns_more, turns-done, turns-other, turns-none, turns-length, remove_slots-new}
use Rattle.turns.proofs.FenceSteps.{removals-are, entry-steps, steps-idle}

-- the state is what the turns of `done` leave of the start, or that with the first of the slots removed that the next entry, which is
-- Pending, names
pub data Reached (xlen : Xlen) (done rest : List ℕ) (s₀ s : State) : Type 0 where
  whole : s ≡ turns xlen (map Pending done) s₀ → Reached xlen done rest s₀ s
  part : (e : ℕ) (more pre post : List ℕ) → rest ≡ e ∷ more → is_pending xlen (turns xlen (map Pending done) s₀).page e ≡ true
      → named (fence_at xlen (turns xlen (map Pending done) s₀).page e) (turns xlen (map Pending done) s₀).table ≡ pre ++ post
      → s ≡ without pre (turns xlen (map Pending done) s₀) → Reached xlen done rest s₀ s

-- a mark that is cleared was set at the start and is clear now
pub cleared-marks : (xlen : Xlen) (p₀ p : List ℕ) (m : Mark) → cleared xlen p₀ p m ≡ true → (is_marked xlen p₀ m ≡ true) × (is_marked xlen p m ≡ false)
unfolding cleared
cleared-marks xlen p₀ p m t = first-only (is_marked xlen p₀ m) (is_marked xlen p m) t

module _ (xlen : Xlen) (es : List ℕ) (s₀ : State) (g₀ : IsPage xlen s₀.page) (en : Entries xlen es) where
  -- the first part of the entries are entries
  pub entries-left : (done rest : List ℕ) → es ≡ done ++ rest → Entries xlen done
  entries-left done rest w e m = en e (subst (λ (l : List ℕ). mem e l ≡ true) (sym w) (mem-left e done rest m))

  -- for some of the entries, from the first on, the turns are made
  pub record Holds (s : State) : Type 0 where
    pub done : List ℕ
    pub rest : List ℕ
    pub split : es ≡ done ++ rest
    pub reached : Reached xlen done rest s₀ s

  -- ---- steps keep it

  -- the removals of the next entry's slots
  removals-along : (done more : List ℕ) (e : ℕ) (pre post : List ℕ) → es ≡ done ++ (e ∷ more) → is_pending xlen (turns xlen (map Pending done) s₀).page e ≡ true
      → named (fence_at xlen (turns xlen (map Pending done) s₀).page e) (turns xlen (map Pending done) s₀).table ≡ pre ++ post
      → Along xlen Holds (removals post) (without pre (turns xlen (map Pending done) s₀))
  unfolding Along removals after
  removals-along done more e pre [] w t n = record { done = done; rest = e ∷ more; split = w; reached = part e more pre [] refl t n refl }
  removals-along done more e pre (i ∷ post) w t n = (
    record { done = done; rest = e ∷ more; split = w; reached = part e more pre (i ∷ post) refl t n refl },
    subst (λ (x : List ℕ). Along xlen Holds (removals post) (at b x b.page)) (remove_slots-append b.table pre (i ∷ []))
        (removals-along done more e (pre ++ (i ∷ [])) post w t (n ∙ sym (append_assoc pre (i ∷ []) post))),
  )
    where
      b : State
      b = turns xlen (map Pending done) s₀

  -- Pending cleared once all the slots are removed
  done-along : (done more : List ℕ) (e : ℕ) (all : List ℕ) → es ≡ done ++ (e ∷ more) → is_pending xlen (turns xlen (map Pending done) s₀).page e ≡ true
      → named (fence_at xlen (turns xlen (map Pending done) s₀).page e) (turns xlen (map Pending done) s₀).table ≡ all
      → Along xlen Holds (Done e ∷ []) (without all (turns xlen (map Pending done) s₀))
  unfolding Along after
  done-along done more e all w t n = (
    record { done = done; rest = e ∷ more; split = w; reached = part e more all [] refl t (n ∙ sym (append-nil all)) refl },
    record {
      done = done ++ (e ∷ []);
      rest = more;
      split = w ∙ sym (append_assoc done (e ∷ []) more);
      reached = whole (turn-pending xlen e (turns xlen (map Pending done) s₀) all t n ∙ sym (turns_more xlen done e s₀));
    },
  )

  -- the turn of the next entry, begun or not
  next-along : (done more : List ℕ) (e : ℕ) (pre post : List ℕ) → es ≡ done ++ (e ∷ more) → is_pending xlen (turns xlen (map Pending done) s₀).page e ≡ true
      → named (fence_at xlen (turns xlen (map Pending done) s₀).page e) (turns xlen (map Pending done) s₀).table ≡ pre ++ post
      → Along xlen Holds (entry_steps xlen e (without pre (turns xlen (map Pending done) s₀))) (without pre (turns xlen (map Pending done) s₀))
  unfolding entry_steps
  next-along done more e pre post w t n =
      rw (t, named-rest (fence_at xlen b.page e) b.table pre post n)
      (along-append xlen Holds (removals post) (Done e ∷ []) (without pre b) (removals-along done more e pre post w t n) last)
    where
      b : State
      b = turns xlen (map Pending done) s₀

      made : run xlen (removals post) (without pre b) ≡ without (pre ++ post) b
      made = removals-are xlen post (without pre b) ∙ ap (λ (x : List ℕ). at b x b.page) (sym (remove_slots-append b.table pre post))

      last : Along xlen Holds (Done e ∷ []) (run xlen (removals post) (without pre b))
      last = subst (Along xlen Holds (Done e ∷ [])) (sym made) (done-along done more e (pre ++ post) w t n)

  -- every step of the turns of the entries that come next keeps it
  along-rest : (rest done : List ℕ) (s : State) → es ≡ done ++ rest → Reached xlen done rest s₀ s → Along xlen Holds (steps xlen (map Pending rest) s) s
  unfolding steps Along
  along-rest [] done s w r = record { done = done; rest = []; split = w; reached = r }
  along-rest (e ∷ more) done s w r =
      let ih : Later = λ t k. along-rest more (done ++ (e ∷ [])) t (w ∙ sym (append_assoc done (e ∷ []) more)) k in
      ⊎_elim (λ t. pending-turn ih t (begun t r)) (idle-turn ih) (either (is_pending xlen b.page e))
    where
      b : State
      b = turns xlen (map Pending done) s₀

      -- the turns after it
      Later : Type 0
      Later = (t : State) → Reached xlen (done ++ (e ∷ [])) more s₀ t → Along xlen Holds (steps xlen (map Pending more) t) t

      -- where the turn of e stands
      Begun : Type 0
      Begun = (pre : List ℕ) × (post : List ℕ) × (named (fence_at xlen b.page e) b.table ≡ pre ++ post) × (s ≡ without pre b)

      begun : is_pending xlen b.page e ≡ true → Reached xlen done (e ∷ more) s₀ s → Begun
      begun t (whole q) = ([], named (fence_at xlen b.page e) b.table, refl, q)
      begun t (part d ds pre post q k n u) =
          let x : e ≡ d = cc in
          (pre, post, subst (λ (y : ℕ). named (fence_at xlen b.page y) b.table ≡ pre ++ post) (sym x) n, u)

      pending-turn : Later → is_pending xlen b.page e ≡ true → Begun → Along xlen Holds (entry_steps xlen e s ++ steps xlen (map Pending more) (entry_turn xlen e s)) s
      pending-turn ih t (pre, post, n, u) =
          along-append xlen Holds (entry_steps xlen e s) (steps xlen (map Pending more) (entry_turn xlen e s)) s
          (subst (λ (x : State). Along xlen Holds (entry_steps xlen e x) x) (sym u) (next-along done more e pre post w t n))
          (subst (Along xlen Holds (steps xlen (map Pending more) (entry_turn xlen e s))) (sym (entry-steps xlen e s))
          (ih (entry_turn xlen e s) (whole (ap (entry_turn xlen e) u ∙ turn-part xlen e b pre post t n ∙ sym (turns_more xlen done e s₀)))))

      idle : is_pending xlen b.page e ≡ false → Reached xlen done (e ∷ more) s₀ s → s ≡ b
      idle n (whole q) = q
      idle n (part d ds pre post q k m u) =
          let x : e ≡ d = cc in
          absurd (true≢false (sym k ∙ subst (λ (y : ℕ). is_pending xlen b.page y ≡ false) x n))

      idle-turn : Later → is_pending xlen b.page e ≡ false → Along xlen Holds (entry_steps xlen e s ++ steps xlen (map Pending more) (entry_turn xlen e s)) s
      idle-turn ih n =
          let u : s ≡ b = idle n r in
          let k : is_pending xlen s.page e ≡ false = subst (λ (x : State). is_pending xlen x.page e ≡ false) (sym u) n in
          rw (steps-idle xlen e s k, turn-idle xlen e s k)
          (ih s (whole (u ∙ sym (turn-idle xlen e b n) ∙ sym (turns_more xlen done e s₀))))

  -- the entries dealt with are not Pending
  done-idle : (done rest : List ℕ) (s : State) → es ≡ done ++ rest → Reached xlen done rest s₀ s → (d : ℕ) → mem d done ≡ true → is_pending xlen s.page d ≡ false
  done-idle done rest s w r d m = go r
    where
      idle : is_pending xlen (turns xlen (map Pending done) s₀).page d ≡ false
      idle = turns-done xlen done d s₀ (entries-left done rest w) g₀ m

      go : Reached xlen done rest s₀ s → is_pending xlen s.page d ≡ false
      go (whole q) = subst (λ (x : State). is_pending xlen x.page d ≡ false) (sym q) idle
      go (part e more pre post q k n u) = subst (λ (x : State). is_pending xlen x.page d ≡ false) (sym u) idle

  -- before that there is no step
  along-done : (before done rest : List ℕ) (s : State) → ((d : ℕ) → mem d before ≡ true → mem d done ≡ true) → es ≡ done ++ rest → Reached xlen done rest s₀ s
      → Along xlen Holds (steps xlen (map Pending (before ++ rest)) s) s
  unfolding steps
  along-done [] done rest s m w r = along-rest rest done s w r
  along-done (d ∷ before) done rest s m w r =
      let n : is_pending xlen s.page d ≡ false = done-idle done rest s w r d (m d (mem-first d before)) in
      rw (steps-idle xlen d s n, turn-idle xlen d s n) (along-done before done rest s (λ x k. m x (mem-more x d before k)) w r)

  -- a run that is stopped anywhere keeps it
  pub stop-keeps : (n : ℕ) (s : State) → Holds s → Holds (stopped xlen n (map Pending es) s)
  unfolding stopped
  stop-keeps n s h =
      along-take xlen Holds (steps xlen (map Pending es) s) s n
      (subst (λ (l : List ℕ). Along xlen Holds (steps xlen (map Pending l) s) s) (sym h.split)
      (along-done h.done h.done h.rest s (λ d m. m) h.split h.reached))

  -- the start has it
  pub start : Holds s₀
  start = record { done = []; rest = es; split = refl; reached = whole (unfold turns in refl) }

  -- ---- what it gives

  -- the turns to come, begun or not, end the same
  rest-ends : (done rest : List ℕ) (s : State) → Reached xlen done rest s₀ s → turns xlen (map Pending rest) s ≡ turns xlen (map Pending rest) (turns xlen (map Pending done) s₀)
  rest-ends done rest s (whole q) = ap (turns xlen (map Pending rest)) q
  rest-ends done rest s (part e more pre post q k n u) = rw (q, u) (first-turn xlen e more (turns xlen (map Pending done) s₀) pre post k n)

  -- the whole call ends the same from every state that has it
  pub ends : (s : State) → Holds s → turns xlen (map Pending es) s ≡ turns xlen (map Pending es) s₀
  ends s h =
      ap (λ (l : List ℕ). turns xlen (map Pending l) s) h.split ∙ entry_turns-append xlen done rest s
      ∙ ap (turns xlen (map Pending rest)) (turns-idle xlen done s (done-idle done rest s h.split h.reached))
      ∙ rest-ends done rest s h.reached ∙ sym (entry_turns-append xlen done rest s₀) ∙ ap (λ (l : List ℕ). turns xlen (map Pending l) s₀) (sym h.split)
    where
      done : List ℕ
      done = h.done

      rest : List ℕ
      rest = h.rest

  -- no slot is named by an entry whose mark is cleared
  pub none_left : (s : State) → Holds s → NoneLeft xlen s₀ s
  none_left s h =
      record { none_left = λ e i b t k. let (set, clear) = cleared-marks xlen s₀.page s.page (Pending e) t in go h.reached e i b set clear k }
    where
      done : List ℕ
      done = h.done

      b₀ : State
      b₀ = turns xlen (map Pending done) s₀

      ent : Entries xlen done
      ent = entries-left done h.rest h.split

      -- an entry whose mark is cleared is among those dealt with
      dealt : (e : ℕ) → e < entry_count (bytes xlen) → is_pending xlen s₀.page e ≡ true → is_pending xlen b₀.page e ≡ false → mem e done ≡ true
      dealt e b t n =
          ⊎_elim (λ m. m) (λ m. absurd (true≢false (sym t ∙ sym (turns-other xlen done e s₀ ent b g₀ m) ∙ n))) (either (mem e done))

      -- so after the turns of these it names nothing
      none : (e i : ℕ) → e < entry_count (bytes xlen) → is_pending xlen s₀.page e ≡ true → is_pending xlen b₀.page e ≡ false → i < slot_count b₀.table
          → names_slot (fence_at xlen s₀.page e) b₀.table i ≡ false
      none e i b t n k = turns-none xlen done e s₀ i ent g₀ (dealt e b t n) t (subst (λ (c : ℕ). i < c / 4) (turns-length xlen done s₀) k)

      go : Reached xlen done h.rest s₀ s → (e i : ℕ) → e < entry_count (bytes xlen) → is_pending xlen s₀.page e ≡ true → is_pending xlen s.page e ≡ false
          → i < slot_count s.table → names_slot (fence_at xlen s₀.page e) s.table i ≡ false
      go (whole q) e i b t n k =
          subst (λ (x : State). names_slot (fence_at xlen s₀.page e) x.table i ≡ false) (sym q)
          (none e i b t (subst (λ (x : State). is_pending xlen x.page e ≡ false) q n) (subst (λ (x : State). i < slot_count x.table) q k))
      go (part d more pre post r z m u) e i b t n k =
          subst (λ (x : State). names_slot (fence_at xlen s₀.page e) x.table i ≡ false) (sym u)
          (remove_slots-new (fence_at xlen s₀.page e) b₀.table pre i
          (none e i b t (subst (λ (x : State). is_pending xlen x.page e ≡ false) u n)
          (subst (λ (c : ℕ). i < c / 4) (length-remove_slots b₀.table pre) (subst (λ (x : State). i < slot_count x.table) u k))))
