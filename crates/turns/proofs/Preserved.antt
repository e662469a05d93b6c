-- What stops of one synchronization preserve between its start and the present state, for registers and for entries alike.
use mathlib.Core.Path.{◌≡◌, refl, sym, ◌∙◌}
use mathlib.Core.Bool.{Bool, true, false, not, ◌&&◌, true≢false}
use mathlib.Core.List.{List, [], map}
use Prim.Native.Nat.{ℕ, ◌<◌}
use Rattle.csr.specs.Csrs.{Csr, turn_order}
use Rattle.layout.specs.declared.xlen.Xlen.{Xlen}
use Rattle.layout.specs.Width.{bytes}
use Rattle.layout.specs.Geometry.{entry_count}
use Rattle.page.specs.Registers.{IsPage, is_dirty}
use Rattle.page.specs.Entries.{is_pending}
use Rattle.world.specs.State.{State}
use Rattle.turns.specs.Marks.{Mark, Dirty, Pending, is_marked}
use Rattle.turns.specs.Turn.{turns}
use Rattle.turns.specs.Steps.{stopped}
use Rattle.turns.specs.Stops.{cleared, RecordAfter, no_more, NoneLeft}
use Rattle.turns.proofs.Closed.{distinct}
use Rattle.turns.proofs.Holds.{laws}
use Rattle.turns.proofs.Invariant as Invariant
use Rattle.turns.proofs.MarkLaws.{keep, record-after, cleared-same}
use Rattle.turns.proofs.Apart.{same-pending}
use Rattle.turns.proofs.Numbers.{Entries}
use Rattle.turns.proofs.FenceApart.{same-hart, same-dirty}
use Rattle.turns.proofs.FenceInvariant as Fences

-- an invariant of the synchronization of these marks from s₀, among which cs are the registers: it holds at the start and after every stop; from
-- every state that has it the whole ends the same, and the state is as 01 says of a stop
pub record Preserved (xlen : Xlen) (cs : List Csr) (ms : List Mark) (s₀ : State) : Type 1 where
  pub Holds : State → Type 0
  pub start : Holds s₀
  pub stop-keeps : (n : ℕ) (s : State) → Holds s → Holds (stopped xlen n ms s)
  pub ends : (s : State) → Holds s → turns xlen ms s ≡ turns xlen ms s₀
  pub after_stop : (s : State) → Holds s → RecordAfter xlen cs s₀ s × NoneLeft xlen s₀ s

-- a mark that is as it was is not cleared
not-cleared : (xlen : Xlen) (p₀ p : List ℕ) (m : Mark) → is_marked xlen p m ≡ is_marked xlen p₀ m → cleared xlen p₀ p m ≡ false
unfolding cleared
not-cleared xlen p₀ p m e = rw e (both (is_marked xlen p₀ m))
  where
    both : (b : Bool) → (b && not b) ≡ false
    both true = refl
    both false = refl

-- where no entry's mark is cleared, none has anything left
pub no-pending-cleared : (xlen : Xlen) (s₀ s : State) → ((e : ℕ) → e < entry_count (bytes xlen) → is_pending xlen s.page e ≡ is_pending xlen s₀.page e) → NoneLeft xlen s₀ s
no-pending-cleared xlen s₀ s same =
    record { none_left = λ e i b t k. absurd (true≢false (sym t ∙ not-cleared xlen s₀.page s.page (Pending e) (same e b))) }

-- where no register's mark is cleared and the record is the start's, no write was made
pub no-dirty-cleared : (xlen : Xlen) (cs : List Csr) (s₀ s : State) → s.hart ≡ s₀.hart → ((c : Csr) → is_dirty s.page c ≡ is_dirty s₀.page c) → RecordAfter xlen cs s₀ s
no-dirty-cleared xlen cs s₀ s h same = no_more (h ∙ sym (cleared-same xlen (turn_order xlen) s₀.page s.page s₀.hart (λ c m. same c)))

-- registers that stand in turn order
pub csrs-preserved : (xlen : Xlen) (cs : List Csr) (s₀ : State) → IsPage xlen s₀.page → distinct cs ≡ true → keep cs (turn_order xlen) ≡ cs → Preserved xlen cs (map Dirty cs) s₀
csrs-preserved xlen cs s₀ g d o =
    record {
      Holds = Invariant.Holds xlen (laws xlen) cs s₀ g d;
      start = Invariant.start xlen (laws xlen) cs s₀ g d;
      stop-keeps = Invariant.stop-keeps xlen (laws xlen) cs s₀ g d;
      ends = Invariant.ends xlen (laws xlen) cs s₀ g d;
      after_stop = λ s h. let (done, rest, i) = h in (
        record-after xlen (laws xlen) cs s₀ d o done rest s i,
        no-pending-cleared xlen s₀ s (same-pending xlen cs done rest s₀ s i),
      );
    }

-- entries
pub entries-preserved : (xlen : Xlen) (es : List ℕ) (s₀ : State) → IsPage xlen s₀.page → Entries xlen es → Preserved xlen [] (map Pending es) s₀
entries-preserved xlen es s₀ g en =
    record {
      Holds = Fences.Holds xlen es s₀ g en;
      start = Fences.start xlen es s₀ g en;
      stop-keeps = Fences.stop-keeps xlen es s₀ g en;
      ends = Fences.ends xlen es s₀ g en;
      after_stop = λ s h. (
        no-dirty-cleared xlen [] s₀ s (same-hart xlen h.done h.rest s₀ s h.reached)
            (same-dirty xlen h.done h.rest s₀ (Fences.entries-left xlen es s₀ g en h.done h.rest h.split) s h.reached),
        Fences.none_left xlen es s₀ g en s h,
      );
    }
