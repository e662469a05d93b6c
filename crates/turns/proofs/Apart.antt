-- Register turns leave the fence entries as they are.
use mathlib.Core.Path.{◌≡◌, refl, sym, ap, ◌∙◌}
use mathlib.Core.List.{List, [], ◌∷◌}
use Prim.Native.Nat.{ℕ, ◌+◌, ◌*◌, ◌<◌}
use native.Mathlib.Omega.{arith}
use Rattle.csr.specs.Csrs.{Csr, number}
use Rattle.hart.specs.declared.record.Hart.{Hart}
use Rattle.hart.specs.Registers.{read}
use Rattle.layout.specs.declared.xlen.Xlen.{Xlen}
use Rattle.layout.specs.Width.{bytes}
use Rattle.layout.specs.Geometry.{entry_at, entry_count}
use Rattle.layout.proofs.DirtyLaws.{word-clear}
use Rattle.layout.proofs.PageLaws.{csr-put-entry, entry-off}
use Rattle.layout.proofs.IndexLaws.{index-lt}
use Rattle.fence.specs.Entry.{pending}
use Rattle.page.specs.Registers.{index, clear_mark, put_csr}
use Rattle.page.specs.Entries.{entry_word, is_pending}
use Rattle.world.specs.State.{State}
use Rattle.turns.proofs.Puts.{put_all, clear_all}
use Rattle.turns.proofs.Closed.{stored}
use Rattle.turns.proofs.Invariant.{Inv}

put-pending : (xlen : Xlen) (c : Csr) (v : ℕ) (p : List ℕ) (e : ℕ) → e < entry_count (bytes xlen) → is_pending xlen (put_csr xlen c v p) e ≡ is_pending xlen p e
unfolding is_pending entry_word put_csr
put-pending xlen c v p e b = ap (pending xlen) (csr-put-entry (bytes xlen) p (index c) v e 0 b (omega arith))

clear-pending : (xlen : Xlen) (c : Csr) (p : List ℕ) (e : ℕ) → e < entry_count (bytes xlen) → is_pending xlen (clear_mark c p) e ≡ is_pending xlen p e
unfolding is_pending entry_word clear_mark
clear-pending xlen c p e b = ap (pending xlen) (word-clear (bytes xlen) p (index c) (entry_at (bytes xlen) e + bytes xlen * 0) (index-lt (number c)) (entry-off (bytes xlen) e 0 b (omega arith)))

pub put_all-pending : (xlen : Xlen) (cs : List Csr) (h : Hart) (p : List ℕ) (e : ℕ) → e < entry_count (bytes xlen) → is_pending xlen (put_all xlen cs h p) e ≡ is_pending xlen p e
unfolding put_all
put_all-pending xlen [] h p e b = refl
put_all-pending xlen (c ∷ cs) h p e b = put_all-pending xlen cs h (put_csr xlen c (read c h) p) e b ∙ put-pending xlen c (read c h) p e b

clear_all-pending : (xlen : Xlen) (cs : List Csr) (p : List ℕ) (e : ℕ) → e < entry_count (bytes xlen) → is_pending xlen (clear_all cs p) e ≡ is_pending xlen p e
unfolding clear_all
clear_all-pending xlen [] p e b = refl
clear_all-pending xlen (c ∷ cs) p e b = clear_all-pending xlen cs (clear_mark c p) e b ∙ clear-pending xlen c p e b

-- under a register synchronization every entry's Pending stays
pub same-pending : (xlen : Xlen) (cs done rest : List Csr) (s₀ s : State) → Inv xlen cs done rest s₀ s → (e : ℕ) → e < entry_count (bytes xlen) → is_pending xlen s.page e ≡ is_pending xlen s₀.page e
same-pending xlen cs done rest s₀ s i e b = sym (over s.page) ∙ ap (λ (p : List ℕ). is_pending xlen p e) (i.other s₀.hart) ∙ over s₀.page
  where
    over : (p : List ℕ) → is_pending xlen (put_all xlen (stored cs s₀.page) s₀.hart (clear_all cs p)) e ≡ is_pending xlen p e
    over p = put_all-pending xlen (stored cs s₀.page) s₀.hart (clear_all cs p) e b ∙ clear_all-pending xlen cs p e b
