-- One accepted request, as the monitor sees its page: the register's mark and word, every Pending entry as it was, and a newly Pending one with the fence.
use Rattle.std.specs.Prelude.{Option, Some, None}
use mathlib.Core.Path.{◌≡◌, refl, sym, ap, ◌∙◌, subst}
use mathlib.Core.Bool.{Bool, true, false, cond, ◌||◌, true≢false, false≢true}
use mathlib.Core.List.{List, ◌∷◌}
use mathlib.Core.Logic.{◌≢◌}
use Prim.Native.Nat.{ℕ, ◌+◌, ◌^◌, ◌≤◌, ◌<◌}
use native.Mathlib.Decide.{ℕ_discrete}
use native.Mathlib.Omega.{arith}
use lib.Dec.{eqb}
use lib.ListN.{length, drop}
use borrow.Author.Tests.{eqb-true, eqb-false, ne_eqb}
use Rattle.layout.specs.declared.xlen.Xlen.{Xlen}
use Rattle.layout.specs.Width.{bytes}
use Rattle.layout.specs.Geometry.{entry_count}
use Rattle.csr.specs.Csrs.{Csr, at_turn, lookup, turn_of}
use Rattle.csr.proofs.Turns.{at_turn-turn_of, turn_of-at_turn, lookup-found}
use Rattle.fence.specs.Entry.{pending}
use Rattle.page.specs.Registers.{IsPage, is_dirty, csr_word}
use Rattle.page.specs.Entries.{entry_word, is_pending, fence_at}
use Rattle.page.proofs.RegisterLaws.{same}
use Rattle.hypervisor.specs.declared.fences.Asked.{Asked}
use Rattle.hypervisor.specs.Answers.{is_done}
use Rattle.hypervisor.specs.Fences.{fence_asked}
use Rattle.hypervisor.specs.Requests.{Request, Register, Hfence, Context, stored_all, free, entry_stores, stores, good_register, answer_to, left}
use Rattle.hypervisor.proofs.Answered.{Passed, passed, left-done}
use Rattle.hypervisor.proofs.FreeLaws.{free-clear}
use Rattle.hypervisor.proofs.Stores.{length-all, word_fits}
use Rattle.hypervisor.proofs.Written.{written, stores-written, mark-own, mark-other, word-own, word-other, entry-stays}
use Rattle.hypervisor.proofs.Queued.{queued-dirty, queued-csr, queued-other, queued-fence}
use Rattle.hypervisor.proofs.Filled.{filled-dirty, filled-csr, filled-entry}
use Rattle.halves.specs.Both.{writes, value_given}
use Rattle.halves.specs.Claims.{Of64Bits}
use Rattle.halves.proofs.Registers.{value-fits}
use Rattle.halves.proofs.Fences.{stores-queued, free-below}
use Rattle.halves.proofs.Context.{words-stored, stores-filled}

-- entry e of q is Pending, and decodes as it does in p
abbrev pub EntryStays : Xlen → List ℕ → List ℕ → ℕ → Type 0
EntryStays x p q e = (is_pending x q e ≡ true) × (fence_at x q e ≡ fence_at x p e)

-- the request r is a fence, and entry e of q decodes to it
abbrev pub HasIts : Xlen → Request → List ℕ → ℕ → Type 0
HasIts x r q e = (a : Asked) × (Hfence a ≡ r) × (fence_at x q e ≡ fence_asked a)

-- q is what the request r makes of p
pub record Step (x : Xlen) (r : Request) (p q : List ℕ) : Type 0 where
  pub dirty : (c : Csr) → is_dirty q c ≡ (writes x c r || is_dirty p c)
  pub word : (c : Csr) → csr_word x q c ≡ cond (writes x c r) (value_given r) (csr_word x p c)
  pub entries : (e : ℕ) → e < entry_count (bytes x) → is_pending x p e ≡ true → EntryStays x p q e
  pub new : (e : ℕ) → e < entry_count (bytes x) → is_pending x p e ≡ false → is_pending x q e ≡ true → HasIts x r q e

-- an entry whose words stay
words-stay : (x : Xlen) (p q : List ℕ) (e : ℕ) → ((k : ℕ) → k < 4 → entry_word x q e k ≡ entry_word x p e k) → is_pending x p e ≡ true → EntryStays x p q e
unfolding is_pending fence_at
words-stay x p q e w t =
    (rw (w 0 (omega arith)) t, rw (w 0 (omega arith), w 1 (omega arith), w 2 (omega arith), w 3 (omega arith)))

-- and it is not newly Pending
not_new : (x : Xlen) (p q : List ℕ) (e : ℕ) → ((k : ℕ) → k < 4 → entry_word x q e k ≡ entry_word x p e k) → is_pending x p e ≡ false → is_pending x q e ≡ true → ⊥
unfolding is_pending
not_new x p q e w n t = true≢false (sym t ∙ ap (pending x) (w 0 (omega arith)) ∙ n)

-- ---- a register

module _ (x : Xlen) (n v t : ℕ) (p : List ℕ) (found : lookup x n ≡ Some t) (g : IsPage x p) (b : v < 256 ^ bytes x) where
  -- the register whose turn was found is the one at that turn,
  own : (c : Csr) → eqb t (turn_of c) ≡ true → at_turn t ≡ c
  own c s = ap at_turn (eqb-true t (turn_of c) s) ∙ at_turn-turn_of c

  -- and no other
  other : (c : Csr) → eqb t (turn_of c) ≡ false → same c (at_turn t) ≡ false
  other c s =
      ne_eqb (turn_of c) (turn_of (at_turn t)) (λ q. eqb-false t (turn_of c) s (sym (q ∙ turn_of-at_turn t (lookup-found x n t found).0)))

  marked : (c : Csr) (s : Bool) → eqb t (turn_of c) ≡ s → is_dirty (written x (at_turn t) v p) c ≡ (s || is_dirty p c)
  marked c true s = subst (λ (d : Csr). is_dirty (written x (at_turn t) v p) d ≡ true) (own c s) (mark-own x (at_turn t) v p g)
  marked c false s = mark-other x (at_turn t) v p g c (other c s)

  worded : (c : Csr) (s : Bool) → eqb t (turn_of c) ≡ s → csr_word x (written x (at_turn t) v p) c ≡ cond s v (csr_word x p c)
  worded c true s = subst (λ (d : Csr). csr_word x (written x (at_turn t) v p) d ≡ v) (own c s) (word-own x (at_turn t) v p g b)
  worded c false s = word-other x (at_turn t) v p g c (other c s)

  register-step : Step x (Register n v) p (written x (at_turn t) v p)
  register-step =
      record {
        dirty = λ c. rw found (marked c (eqb t (turn_of c)) refl);
        word = λ c. rw found (worded c (eqb t (turn_of c)) refl);
        entries = λ e h. words-stay x p (written x (at_turn t) v p) e (λ k. entry-stays x (at_turn t) v p g e k h);
        new = λ e h n y. absurd (not_new x p (written x (at_turn t) v p) e (λ k. entry-stays x (at_turn t) v p g e k h) n y);
      }

-- ---- each request

register : (x : Xlen) (n v : ℕ) (p : List ℕ) → Of64Bits (Register n v) → is_done (answer_to x (Register n v) p) ≡ true → Step x (Register n v) p (left x (Register n v) p)
register x n v p o d = go (lookup x n) refl
  where
    q : Passed x (Register n v) p
    q = passed x (Register n v) p d

    go : (f : Option ℕ) → lookup x n ≡ f → Step x (Register n v) p (left x (Register n v) p)
    go (Some t) e =
        subst (Step x (Register n v) p) (sym (left-done x (Register n v) p d ∙ stores-written x n v t p e))
        (register-step x n v t p e q.page (word_fits x v (value-fits x n v t e q.good) (o 0)))
    go None e = absurd (false≢true (sym (ap (good_register x v) e) ∙ q.good))

fence : (x : Xlen) (a : Asked) (p : List ℕ) → Of64Bits (Hfence a) → is_done (answer_to x (Hfence a) p) ≡ true → Step x (Hfence a) p (left x (Hfence a) p)
fence x a p o d =
    subst (Step x (Hfence a) p) (sym (stores-queued x a p d))
    (record {
      dirty = queued-dirty x (free x p) b a p;
      word = queued-csr x (free x p) b a p;
      entries = λ e h t. words-stay x p q e (others e (λ z. true≢false (sym t ∙ ap (is_pending x p) (sym z) ∙ free-clear x p b))) t;
      new = λ e h n t. taken e n t (ℕ_discrete (free x p) e);
    })
  where
    b : free x p < entry_count (bytes x)
    b = free-below x a p d

    q : List ℕ
    q = stored_all x (entry_stores x a (free x p)) p

    others : (e : ℕ) → free x p ≢ e → (k : ℕ) → k < 4 → entry_word x q e k ≡ entry_word x p e k
    others e z k m = queued-other x (free x p) b a p e k z m

    taken : (e : ℕ) → is_pending x p e ≡ false → is_pending x q e ≡ true → Dec (free x p ≡ e) → HasIts x (Hfence a) q e
    taken e n t (yes z) =
        let g = passed x (Hfence a) p d in
        (a, refl, subst (λ (i : ℕ). fence_at x q i ≡ fence_asked a) z (queued-fence x a g.good (o 0) (o 1) p g.page (free x p) b))
    taken e n t (no z) = absurd (not_new x p q e (others e z) n t)

context : (x : Xlen) (vs p : List ℕ) → is_done (answer_to x (Context vs) p) ≡ true → Step x (Context vs) p (left x (Context vs) p)
context x vs p d =
    let n = words-stored x vs (passed x (Context vs) p d).good in
    let b : 0 + length (0 ∷ drop 1 vs) ≤ 32 = omega arith in
    subst (Step x (Context vs) p) (sym (stores-filled x vs p d))
    (record {
      dirty = filled-dirty x 0 (0 ∷ drop 1 vs) p b;
      word = filled-csr x 0 (0 ∷ drop 1 vs) p b;
      entries = λ e h. words-stay x p _ e (λ k m. filled-entry x 0 (0 ∷ drop 1 vs) p b e k);
      new = λ e h n t. absurd (not_new x p _ e (λ k m. filled-entry x 0 (0 ∷ drop 1 vs) p b e k) n t);
    })

pub step : (x : Xlen) (r : Request) (p : List ℕ) → Of64Bits r → is_done (answer_to x r p) ≡ true → Step x r p (left x r p)
step x (Register n v) p o d = register x n v p o d
step x (Hfence a) p o d = fence x a p o d
step x (Context vs) p o d = context x vs p d

-- the page that it leaves is one
pub step-page : (x : Xlen) (r : Request) (p : List ℕ) → is_done (answer_to x r p) ≡ true → IsPage x (left x r p)
step-page x r p d = ap length (left-done x r p d) ∙ length-all x (stores x r p) p ∙ (passed x r p d).page
