-- An unreadable pending entry that an accepted call asks for leaves no used slot.
use mathlib.Core.Path.{◌≡◌, ap, ◌∙◌}
use mathlib.Core.Bool.{true, false, or-true}
use mathlib.Core.List.Memᴰ
use mathlib.Core.List.{List, [], ◌∷◌, Memᴰ}
use mathlib.Core.Logic.{⊎_elim}
use Prim.Native.Nat.{ℕ, ◌<◌}
use native.Mathlib.Omega.{arith}
use Rattle.layout.specs.declared.xlen.Xlen.{Xlen}
use Rattle.fence.specs.Entry.{readable}
use Rattle.fence.specs.Slots.{slot_count, slot_word, used}
use Rattle.fence.specs.Table.{names_slot}
use Rattle.fence.proofs.Unreadable as Fences
use Rattle.page.specs.Entries.{entry_word, fence_at, is_pending}
use Rattle.world.specs.World.{World}
use Rattle.world.specs.State.{State, state_of}
use Rattle.turns.specs.Marks.{Mark, Dirty, Pending}
use Rattle.turns.proofs.Truth.{either}
use Rattle.checks.specs.Checks.{call_answer}
use Rattle.checks.specs.Codes.{accepted}
use Rattle.nacl.specs.Calls.{call_left}
use Rattle.claims.specs.Events.{Call, marks_asked, page_in}
use Rattle.claims.specs.Claims.{any_names, UnreadableRemovesAll}
use Rattle.claims.proofs.Slots.{only-named-slots-change, named-slots-removed}

-- a slot that one of these entries, pending, names is named by one of them
one-names : (xlen : Xlen) (ms : List Mark) (s : State) (e i : ℕ) → Memᴰ (Pending e) ms → is_pending xlen s.page e ≡ true
    → names_slot (fence_at xlen s.page e) s.table i ≡ true → any_names xlen ms s i ≡ true
unfolding any_names
one-names xlen [] s e i m p n = absurd (Memᴰ.not-nil m)
one-names xlen (Dirty c ∷ ms) s e i m p n =
    ⊎_elim (λ q. absurd (other q)) (λ k. one-names xlen ms s e i k p n) (Memᴰ.cases_cons m)
  where
    other : Pending e ≡ Dirty c → ⊥
    other q = let z : ◌≡◌ {A = ℕ} 0 1 = cc in omega arith
one-names xlen (Pending d ∷ ms) s e i m p n =
    ⊎_elim (λ q. let k : e ≡ d = cc in rw (← k, p, n)) (λ k. rw (one-names xlen ms s e i k p n, or-true)) (Memᴰ.cases_cons m)

-- an unreadable entry names every used slot
names-all : (xlen : Xlen) (p t : List ℕ) (e i : ℕ) → readable xlen (entry_word xlen p e 0) (entry_word xlen p e 2) ≡ false → names_slot (fence_at xlen p e) t i ≡ used (slot_word t i 0)
unfolding fence_at
names-all xlen p t e i r =
    rw (Fences.unreadable xlen (entry_word xlen p e 0) (entry_word xlen p e 1) (entry_word xlen p e 2) (entry_word xlen p e 3) r)
    (Fences.everything-names (slot_word t i 0) (slot_word t i 1) (slot_word t i 2))

pub unreadable-removes-all : UnreadableRemovesAll
unreadable-removes-all eid fid a0 a1 a2 w e i y m p r h =
    ⊎_elim
    (λ u. gone (named-slots-removed eid fid a0 a1 a2 w i y h
    (one-names w.hart.xlen (marks_asked (Call eid fid a0 a1 a2) w) (state_of w) e i m p (names-all w.hart.xlen (page_in w w) w.table e i r ∙ u))))
    (λ n. ⊎_elim (λ k. ap used (k 0 (omega arith)) ∙ n) gone ((only-named-slots-change (Call eid fid a0 a1 a2) w).whole i h))
    (either (used (slot_word w.table i 0)))
  where
    gone : ((k : ℕ) → k < 4 → slot_word (call_left eid fid a0 a1 a2 w).table i k ≡ 0)
        → used (slot_word (call_left eid fid a0 a1 a2 w).table i 0) ≡ false
    gone z = ap used (z 0 (omega arith))
