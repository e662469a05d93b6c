-- Accepted requests, one after the other: a register is marked exactly if it is to be written, or was, with the last value in its word, each fence
-- is in an entry that is Pending, and each entry that is newly Pending has one of the fences.
use mathlib.Core.Path.{◌≡◌, refl, sym, ap, ◌∙◌, subst}
use mathlib.Core.Bool.{Bool, true, false, cond, ◌||◌, true≢false}
use mathlib.Core.List.Memᴰ
use mathlib.Core.List.{List, [], ◌∷◌, Memᴰ}
use mathlib.Core.Logic.{⊎_elim}
use Prim.Native.Nat.{ℕ, ◌<◌}
use Rattle.layout.specs.declared.xlen.Xlen.{Xlen}
use Rattle.layout.specs.Width.{bytes}
use Rattle.layout.specs.Geometry.{entry_count}
use Rattle.csr.specs.Csrs.{Csr}
use Rattle.page.specs.Registers.{IsPage, is_dirty, csr_word}
use Rattle.page.specs.Entries.{is_pending, fence_at}
use Rattle.checks.proofs.Truth.{either, both}
use Rattle.hypervisor.specs.declared.fences.Asked.{Asked}
use Rattle.hypervisor.specs.Answers.{is_done}
use Rattle.hypervisor.specs.Fences.{fence_asked}
use Rattle.hypervisor.specs.Requests.{Request, Hfence, free, answer_to, left}
use Rattle.halves.specs.Both.{requested, all_done, writes, value_given, is_written, last_value}
use Rattle.halves.specs.Claims.{Of64Bits}
use Rattle.halves.proofs.Fences.{queued-free}
use Rattle.halves.proofs.Step.{EntryStays, step, step-page}

-- the fence a is in an entry of q that is Pending
pub record Waits (x : Xlen) (a : Asked) (q : List ℕ) : Type 0 where
  pub at : ℕ
  pub entry : at < entry_count (bytes x)
  pub pending : is_pending x q at ≡ true
  pub decodes : fence_at x q at ≡ fence_asked a

-- entry e of q has the fence of one of these requests
pub record OfOne (x : Xlen) (rs : List Request) (q : List ℕ) (e : ℕ) : Type 0 where
  pub fence : Asked
  pub request : Memᴰ (Hfence fence) rs
  pub decodes : fence_at x q e ≡ fence_asked fence

-- q is what the requests rs make of p
pub record Requested (x : Xlen) (rs : List Request) (p q : List ℕ) : Type 0 where
  pub page : IsPage x q
  pub dirty : (c : Csr) → is_dirty q c ≡ (is_written x c rs || is_dirty p c)
  pub word : (c : Csr) → csr_word x q c ≡ cond (is_written x c rs) (last_value x c rs) (csr_word x p c)
  pub entries : (e : ℕ) → e < entry_count (bytes x) → is_pending x p e ≡ true → EntryStays x p q e
  pub fences : (a : Asked) → Memᴰ (Hfence a) rs → Waits x a q
  pub new : (e : ℕ) → e < entry_count (bytes x) → is_pending x p e ≡ false → is_pending x q e ≡ true → OfOne x rs q e

-- the first request, and then the others
first-or : (w o b : Bool) → (o || (w || b)) ≡ ((w || o) || b)
first-or true true b = refl
first-or true false b = refl
first-or false o b = refl

last-counts : (w o : Bool) (l v u : ℕ) → cond o l (cond w v u) ≡ cond (w || o) (cond o l v) u
last-counts true true l v u = refl
last-counts true false l v u = refl
last-counts false true l v u = refl
last-counts false false l v u = refl

-- a fence waits where it did
still-waits : (x : Xlen) (a : Asked) (p q : List ℕ) → ((e : ℕ) → e < entry_count (bytes x) → is_pending x p e ≡ true → EntryStays x p q e) → Waits x a p → Waits x a q
still-waits x a p q f w =
    let (t, e) = f w.at w.entry w.pending in
    record { at = w.at; entry = w.entry; pending = t; decodes = e ∙ w.decodes }

-- in the entry that its request takes
waits : (x : Xlen) (a : Asked) (p : List ℕ) → Of64Bits (Hfence a) → is_done (answer_to x (Hfence a) p) ≡ true → Waits x a (left x (Hfence a) p)
waits x a p o d = let q = queued-free x a p o d in record { at = free x p; entry = q.entry; pending = q.pending; decodes = q.decodes }

pub requested-all : (x : Xlen) (rs : List Request) (p : List ℕ) → IsPage x p → ((r : Request) → Memᴰ r rs → Of64Bits r) → all_done x rs p ≡ true
    → Requested x rs p (requested x rs p)
unfolding requested all_done
requested-all x [] p g o d =
    record {
      page = g;
      dirty = λ c. refl;
      word = λ c. refl;
      entries = λ e h t. (t, refl);
      fences = λ a m. absurd (Memᴰ.not-nil m);
      new = λ e h n t. absurd (true≢false (sym t ∙ n));
    }
requested-all x (r ∷ rs) p g o d =
    more (both (is_done (answer_to x r p)) (all_done x rs (left x r p)) d).0
    (requested-all x rs (left x r p) (step-page x r p (both (is_done (answer_to x r p)) (all_done x rs (left x r p)) d).0) (λ s m. o s (Memᴰ.tail m))
    (both (is_done (answer_to x r p)) (all_done x rs (left x r p)) d).1)
  where
    more : is_done (answer_to x r p) ≡ true → Requested x rs (left x r p) (requested x rs (left x r p)) → Requested x (r ∷ rs) p (requested x rs (left x r p))
    more t R =
        let s = step x r p (o r (Memᴰ.head refl)) t in
        record {
          page = R.page;
          dirty = λ c. R.dirty c ∙ ap (λ (b : Bool). is_written x c rs || b) (s.dirty c) ∙ first-or (writes x c r) (is_written x c rs) (is_dirty p c);
          word = λ c. R.word c ∙ ap (cond (is_written x c rs) (last_value x c rs)) (s.word c) ∙ last-counts (writes x c r) (is_written x c rs) (last_value x c rs) (value_given r) (csr_word x p c);
          entries = λ e h y. let (z, f) = s.entries e h y in let (z', f') = R.entries e h z in (z', f' ∙ f);
          fences = λ a m. ⊎_elim
              (λ q. still-waits x a (left x r p) (requested x rs (left x r p)) R.entries
              (subst (λ (l : List ℕ). Waits x a l) (ap (λ (u : Request). left x u p) q)
              (waits x a p (o (Hfence a) m) (subst (λ (u : Request). is_done (answer_to x u p) ≡ true) (sym q) t))))
              (R.fences a) (Memᴰ.cases_cons m);
          new = λ e h n y. ⊎_elim
              (λ z. let (a, q, f) = s.new e h n z in record { fence = a; request = Memᴰ.head q; decodes = (R.entries e h z).1 ∙ f })
              (λ z. let w = R.new e h z y in record { fence = w.fence; request = Memᴰ.tail w.request; decodes = w.decodes })
              (either (is_pending x (left x r p) e));
        }
