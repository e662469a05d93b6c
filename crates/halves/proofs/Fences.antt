-- A fence is queued in the lowest entry that is not Pending, which decodes to it, and is denied where there is none. Config comes last.
use mathlib.Core.Path.{◌≡◌, sym, ap, ◌∙◌, subst}
use mathlib.Core.Bool.{true, false}
use mathlib.Core.List.{List}
use Prim.Native.Nat.{ℕ, ◌<◌}
use native.Mathlib.Nat.{lt_of_lt_of_le}
use native.Mathlib.Omega.{arith}
use borrow.Author.Tests.{ltb-true, ltb-false, le-ltb}
use Rattle.layout.specs.declared.xlen.Xlen.{Xlen}
use Rattle.layout.specs.Width.{bytes}
use Rattle.layout.specs.Geometry.{entry_count}
use Rattle.fence.specs.Entry.{pending, type_of, order_of, vmid_of, asid_of}
use Rattle.page.specs.Entries.{is_pending}
use Rattle.hypervisor.specs.declared.fences.Asked.{Asked}
use Rattle.hypervisor.specs.Answers.{is_done}
use Rattle.hypervisor.specs.Requests.{Hfence, stored_all, free, entry_stores, stores, answer_to, left_after, left}
use Rattle.hypervisor.proofs.Answered.{passed, value-is, no_room, refused, left-done, after-done}
use Rattle.hypervisor.proofs.FreeLaws.{free-lowest, free-clear, free-full}
use Rattle.hypervisor.proofs.Round.{config-fields, config-readable}
use Rattle.hypervisor.proofs.Queued.{config-last, queued-config, queued-number, queued-zero, queued-count, queued-pending, queued-fence}
use Rattle.halves.specs.Claims.{Of64Bits, Queued, FencesAreQueued, DeniedWhenFull, PendingComesLast}

-- what an accepted fence leaves, in the lowest free entry
pub stores-queued : (x : Xlen) (a : Asked) (p : List ℕ) → is_done (answer_to x (Hfence a) p) ≡ true → left x (Hfence a) p ≡ stored_all x (entry_stores x a (free x p)) p
unfolding stores
stores-queued x a p d = left-done x (Hfence a) p d

-- which is one of the page's
pub free-below : (x : Xlen) (a : Asked) (p : List ℕ) → is_done (answer_to x (Hfence a) p) ≡ true → free x p < entry_count (bytes x)
free-below x a p d = ltb-true (free x p) (entry_count (bytes x)) (passed x (Hfence a) p d).room

-- the entry has the fence
pub queued-free : (x : Xlen) (a : Asked) (p : List ℕ) → Of64Bits (Hfence a) → is_done (answer_to x (Hfence a) p) ≡ true → Queued x a p (left x (Hfence a) p) (free x p)
queued-free x a p o d =
    let q = passed x (Hfence a) p d in
    let b = free-below x a p d in
    let config = queued-config x a q.good (o 0) (o 1) p q.page (free x p) b in
    let zero = queued-zero x a q.good (o 0) (o 1) p q.page (free x p) b in
    let (t, r, v, s) = config-fields x a q.good in
    subst (λ (l : List ℕ). Queued x a p l (free x p)) (sym (stores-queued x a p d))
    (record {
      entry = b;
      was_free = free-clear x p b;
      lowest = free-lowest x p;
      pending = queued-pending x a q.good (o 0) (o 1) p q.page (free x p) b;
      decodes = queued-fence x a q.good (o 0) (o 1) p q.page (free x p) b;
      is-readable = rw (config, zero) (config-readable x a q.good);
      kind = ap (type_of x) config ∙ t;
      order = ap (order_of x) config ∙ r;
      vmid = ap (vmid_of x) config ∙ v;
      asid = ap (asid_of x) config ∙ s;
      number = queued-number x a q.good (o 0) (o 1) p q.page (free x p) b;
      word-2 = zero;
      count = queued-count x a q.good (o 0) (o 1) p q.page (free x p) b;
    })

pub fences-queued : FencesAreQueued
fences-queued x a p e o d = subst (Queued x a p (left x (Hfence a) p)) (value-is x (Hfence a) p d) (queued-free x a p o (ap is_done d))

pub denied-when-full : DeniedWhenFull
denied-when-full x a p =
    record {
      full = λ d e b. free-lowest x p e (lt_of_lt_of_le b (ltb-false (free x p) (entry_count (bytes x)) (no_room x (Hfence a) p d)));
      denied = λ g t f. refused x (Hfence a) p g t (le-ltb (free x p) (entry_count (bytes x)) (omega (arith, free-full x p f)));
    }

pub pending-last : PendingComesLast
unfolding stores is_pending
pending-last n x a p e d h =
    let t = ap is_done d in
    let b = free-below x a p t in
    subst (λ (i : ℕ). is_pending x (left_after n x (Hfence a) p) i ≡ false) (value-is x (Hfence a) p d)
    (rw (after-done x (Hfence a) p n t) (ap (pending x) (config-last x (free x p) b a p n h) ∙ free-clear x p b))
