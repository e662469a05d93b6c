-- An accepted call clears every mark that it asks for, and what any call clears it has served.
use mathlib.Core.Path.{◌≡◌, refl, sym, ap, ◌∙◌, subst}
use mathlib.Core.Bool.{Bool, true, false, cond, not, ◌&&◌, true≢false}
use mathlib.Core.List.Memᴰ
use mathlib.Core.List.{List, [], ◌∷◌, map, Memᴰ}
use mathlib.Core.Logic.{⊎_elim}
use Prim.Native.Nat.{ℕ}
use native.Mathlib.Nat.{le_refl}
use Rattle.layout.specs.declared.xlen.Xlen.{Xlen}
use Rattle.csr.specs.Csrs.{Csr, turn_order}
use Rattle.hart.specs.declared.record.Hart.{Hart}
use Rattle.hart.specs.Registers.{write}
use Rattle.hart.proofs.Frame.{member}
use Rattle.page.specs.Registers.{IsPage, is_dirty, csr_word}
use Rattle.world.specs.World.{World}
use Rattle.world.specs.State.{State}
use Rattle.turns.specs.Marks.{Mark, Dirty, Pending, is_marked}
use Rattle.turns.specs.Turn.{turns}
use Rattle.turns.specs.Steps.{total}
use Rattle.turns.specs.Stops.{cleared, cleared_writes, RecordAfter, no_more, one_more, NoneLeft}
use Rattle.turns.proofs.FenceApart.{turns-dirty}
use Rattle.turns.proofs.FenceTurns.{turns-hart, turns-done}
use Rattle.turns.proofs.Leaves.{marks-clear}
use Rattle.turns.proofs.MarkLaws.{cleared-same}
use Rattle.turns.proofs.Numbers as Numbers
use Rattle.turns.proofs.Preserved.{Preserved, csrs-preserved, entries-preserved, no-pending-cleared}
use Rattle.turns.proofs.Puts as Puts
use Rattle.turns.proofs.Turns.{enough, turns-page}
use Rattle.checks.specs.Checks.{call_answer}
use Rattle.checks.specs.Codes.{accepted}
use Rattle.nacl.specs.Calls.{call_left}
use Rattle.claims.specs.Events.{call_marks, state_in}
use Rattle.claims.specs.Claims.{but_hstatus, MarksServed, ClearedMarksAreServed}
use Rattle.claims.proofs.Turned.{marks, turned, Askable, Alike, Left, idle, made, turns-are, entry-stays, call-left}

-- the writes of the cleared marks go by the marks
cleared-cong : (xlen : Xlen) (cs : List Csr) (p q r : List ℕ) (h : Hart) → ((c : Csr) → is_dirty q c ≡ is_dirty r c)
    → cleared_writes xlen cs p q h ≡ cleared_writes xlen cs p r h
unfolding cleared_writes cleared
cleared-cong xlen [] p q r h e = refl
cleared-cong xlen (c ∷ cs) p q r h e = rw (e c) (cleared-cong xlen cs p q r (cond (is_dirty p c && not (is_dirty r c)) (write c (csr_word xlen p c) h) h) e)

-- the whole turns are a run that was not stopped: what 01 says of a stop holds after them
after-whole : (xlen : Xlen) {cs : List Csr} {ms : List Mark} {s : State} → Preserved xlen cs ms s → IsPage xlen s.page
    → RecordAfter xlen cs s (turns xlen ms s) × NoneLeft xlen s (turns xlen ms s)
after-whole xlen {ms = ms} {s = s} P g =
    P.after_stop (turns xlen ms s) (subst P.Holds (enough xlen (total xlen ms s) ms s g (le_refl (total xlen ms s))) (P.stop-keeps (total xlen ms s) s P.start))

-- what holds of the mark of each of these holds of each of their marks
module _ {A : Type 0} (mark : A → Mark) (mem : A → List A → Bool) (first : (x : A) (xs : List A) → mem x (x ∷ xs) ≡ true)
    (more : (x y : A) (xs : List A) → mem x xs ≡ true → mem x (y ∷ xs) ≡ true) (P : Mark → Type 0) where
  all_of : (xs : List A) → ((x : A) → mem x xs ≡ true → P (mark x)) → {m : Mark} → Memᴰ m (map mark xs) → P m
  all_of [] f h = absurd (Memᴰ.not-nil h)
  all_of (x ∷ xs) f h =
      ⊎_elim (λ e. subst P (sym e) (f x (first x xs))) (all_of xs (λ y k. f y (more y x xs k))) (Memᴰ.cases_cons h)

module _ (xlen : Xlen) (cs : List Csr) (es : List ℕ) (s : State) (k : Askable xlen cs es) (g : (IsPage xlen) s.page) where
  -- after the register turns
  abbrev mid : State
  mid = turns xlen (map Dirty cs) s

  mid-page : (IsPage xlen) mid.page
  mid-page = turns-page xlen (map Dirty cs) s g

  mid-hart : mid.hart ≡ cleared_writes xlen (turn_order xlen) s.page mid.page s.hart
  mid-hart = go (after-whole xlen (csrs-preserved xlen cs s g k.csrs-once k.in_order) g).0
    where
      go : RecordAfter xlen cs s mid → mid.hart ≡ cleared_writes xlen (turn_order xlen) s.page mid.page s.hart
      go (no_more e) = e
      go (one_more c n w) =
          absurd (true≢false (sym n.dirty ∙ marks-clear xlen cs s c g k.csrs-once
          (subst (λ (l : List Csr). member c l ≡ true) (sym n.split) (Puts.mem-right c n.before (c ∷ n.behind) (rw (Puts.same_refl c))))))

  -- after all
  module _ {fid : ℕ} {t : State} (a : Alike xlen fid (turned xlen cs es s) t) where
    dirty-left : (c : Csr) → is_dirty t.page c ≡ is_dirty mid.page c
    dirty-left c = a.marked (Dirty c) tt ∙ turns-dirty xlen es mid c k.entries

    hart-turned : (turned xlen cs es s).hart ≡ cleared_writes xlen (turn_order xlen) s.page t.page s.hart
    hart-turned = turns-hart xlen es mid ∙ mid-hart ∙ cleared-cong xlen (turn_order xlen) s.page mid.page t.page s.hart (λ c. sym (dirty-left c))

    csrs-left : but_hstatus fid t.hart.csrs ≡ but_hstatus fid (cleared_writes xlen (turn_order xlen) s.page t.page s.hart).csrs
    csrs-left = a.csrs ∙ ap (λ (h : Hart). but_hstatus fid h.csrs) hart-turned

    fences-left : NoneLeft xlen s t
    unfolding cleared
    fences-left =
        record {
          none_left = λ e i b c j. let (p, f) = entry-stays xlen cs s g k.csrs-once e b in
              rw (a.table, ← f)
              ((after-whole xlen (entries-preserved xlen es mid mid-page k.entries) mid-page).1.none_left e i b
              (rw (p, ← a.marked (Pending e) b) c) (rw a.table at j));
        }

    marks-left : (m : Mark) → Memᴰ m (marks cs es) → is_marked xlen t.page m ≡ false
    marks-left m h =
        ⊎_elim
        (all_of Dirty member (λ c cs. rw (Puts.same_refl c)) Puts.mem-more Clear cs (λ c n. dirty-left c ∙ marks-clear xlen cs s c g k.csrs-once n))
        (all_of Pending Numbers.mem Numbers.mem-first Numbers.mem-more Clear es
        (λ e n. a.marked (Pending e) (k.entries e n) ∙ turns-done xlen es e mid k.entries mid-page n))
        (Memᴰ.append_cases (map Dirty cs) h)
      where
        Clear : Mark → Type 0
        Clear m = is_marked xlen t.page m ≡ false

-- after the turns of an accepted call the record is the start's with the words of the cleared marks written
pub hart-served : (xlen : Xlen) {good : Bool} {fid : ℕ} {ms : List Mark} {s t : State} → Left xlen good fid ms s t → good ≡ true
    → (turns xlen ms s).hart ≡ cleared_writes xlen (turn_order xlen) s.page t.page s.hart
unfolding turns
hart-served xlen {s = s} (idle none a) y =
    ap (λ (ms : List Mark). (turns xlen ms s).hart) (none y) ∙ sym (cleared-same xlen (turn_order xlen) _ _ s.hart (λ c n. a.marked (Dirty c) tt))
hart-served xlen {s = s} (made cs es q k g a) y = ap (λ (u : State). u.hart) (turns-are xlen cs es s q) ∙ hart-turned xlen cs es s k g a

-- what a call leaves is served
served : (eid fid a0 a1 a2 : ℕ) (w v : World)
    → Left w.hart.xlen (accepted (call_answer eid fid a0 a1 a2 w)) fid (call_marks w.hart.xlen w.hart.features fid a0) (state_in w w) (state_in w v)
    → MarksServed eid fid a0 a1 a2 w v
served eid fid a0 a1 a2 w v (idle none a) =
    record {
      cleared = λ y m h. absurd (Memᴰ.not-nil (subst (Memᴰ m) (none y) h));
      csrs = a.csrs ∙ sym (ap (λ (h : Hart). but_hstatus fid h.csrs) (cleared-same w.hart.xlen (turn_order w.hart.xlen) _ _ w.hart (λ c n. a.marked (Dirty c) tt)));
      fences = no-pending-cleared w.hart.xlen (state_in w w) (state_in w v) (λ e b. a.marked (Pending e) b);
    }
served eid fid a0 a1 a2 w v (made cs es q k g a) =
    let s = state_in w w in
    record {
      cleared = λ y m h. marks-left w.hart.xlen cs es s k g a m (subst (Memᴰ m) q h);
      csrs = csrs-left w.hart.xlen cs es s k g a;
      fences = fences-left w.hart.xlen cs es s k g a;
    }

pub cleared-marks-served : ClearedMarksAreServed
cleared-marks-served eid fid a0 a1 a2 w b = served eid fid a0 a1 a2 w (call_left eid fid a0 a1 a2 w) (call-left eid fid a0 a1 a2 w b)
