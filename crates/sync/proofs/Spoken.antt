-- What a loop over registers' turns has said.
use mathlib.Core.Path.{◌≡◌, refl, sym, ap, ◌∙◌, subst}
use mathlib.Core.Bool.{Bool, true, false, cond}
use mathlib.Core.List.{List, [], ◌∷◌, ◌++◌, append-nil}
use Prim.Native.Nat.{ℕ, zero, suc, ◌+◌, ◌-◌, ◌*◌, ◌≤◌}
use native.Mathlib.Omega.{arith}
use lib.Bits.{bit_xor}
use lib.Dec.{eqb}
use lib.ListN.{length, take}
use lib.Seq.{take-nil}
use Rattle.text.specs.Buffer.{Put}
use Rattle.text.specs.declared.Buffer.{Buffer}
use Rattle.text.proofs.Puts.{put-nothing, ◌then◌}
use Rattle.layout.specs.declared.xlen.Xlen.{Xlen}
use Rattle.csr.specs.Csrs.{Csr, number}
use Rattle.hart.specs.declared.record.Hart.{Hart}
use Rattle.hart.specs.Registers.{read}
use Rattle.hart.specs.Dropped.{Report, report_with, report_of, report_words}
use Rattle.page.specs.Registers.{IsPage, is_dirty}
use Rattle.world.specs.State.{State}
use Rattle.turns.specs.Marks.{Mark, Dirty}
use Rattle.turns.specs.Turn.{write_from_word}
use Rattle.turns.specs.Steps.{Step, Write, Clear, after, csr_steps, steps, Made}
use Rattle.turns.specs.Reports.{reports}
use Rattle.turns.proofs.Reported.{if_any, write_says, reports-turn, reports-more, reports-stopped}
use Rattle.sync.specs.Turns.{marks_from}
use Rattle.sync.proofs.Loops.{marks-more, marks-one}

-- words of some reports, and then of others
pub words_append : (rs qs : List Report) → report_words (rs ++ qs) ≡ report_words rs ++ report_words qs
words_append [] qs = refl
words_append (r ∷ rs) qs = ap (λ (ws : List ℕ). r.csr ∷ r.bits ∷ ws) (words_append rs qs)

-- two words of each
pub words-length : (rs : List Report) → length (report_words rs) ≡ 2 * length rs
words-length [] = refl
words-length (r ∷ rs) = omega (arith, words-length rs)

-- one report has two words
pub words-two : (csr bits : ℕ) → length (report_words (report_with csr bits)) ≤ 2
words-two csr bits = go (eqb bits 0)
  where
    go : (b : Bool) → length (report_words (cond b [] (record { csr = csr; bits = bits } ∷ []))) ≤ 2
    go true = omega arith
    go false = omega arith

-- (A) and (B) of a register say what its write does, if a step is allowed
reports-served : (x : Xlen) (c : Csr) (n : ℕ) (s : State) → reports x (take n (Write c ∷ Clear c ∷ [])) s ≡ if_any n (write_says x c s)
unfolding reports after write_from_word
reports-served x c zero s = refl
reports-served x c (suc zero) s = append-nil (write_says x c s)
reports-served x c (suc (suc k)) s = ap (λ (xs : List Step). reports x (Write c ∷ Clear c ∷ xs) s) (take-nil k) ∙ append-nil (write_says x c s)

module _ (x : Xlen) (c : Csr) (n : ℕ) (s : State) where
  -- with no step allowed they say nothing
  pub said-nothing : {d : Buffer ℕ} → n ≡ 0 → Put d (report_words (reports x (take n (Write c ∷ Clear c ∷ [])) s)) d
  unfolding reports
  said-nothing {d} z = rw z (put-nothing d)

  -- with one allowed what the write does
  pub said-write : {d e : Buffer ℕ} → 1 ≤ n → Put d (report_words (write_says x c s)) e
      → Put d (report_words (reports x (take n (Write c ∷ Clear c ∷ [])) s)) e
  said-write {d} {e} le w = subst (λ (rs : List Report). Put d (report_words rs) e) (sym (reports-served x c n s ∙ any n le)) w
    where
      any : (k : ℕ) → 1 ≤ k → if_any k (write_says x c s) ≡ write_says x c s
      any zero h = absurd (omega arith)
      any (suc k) h = refl

  -- a dirty register's turn says what (A) and (B) say
  pub said-dirty : {d e : Buffer ℕ} → is_dirty s.page c ≡ true → Put d (report_words (reports x (take n (Write c ∷ Clear c ∷ [])) s)) e
      → Put d (report_words (reports x (take n (csr_steps c s.page)) s)) e
  said-dirty y w = rw (reports-turn x c n s, y, ← reports-served x c n s) w

  -- a clean one's nothing
  pub said-clean : {d : Buffer ℕ} → is_dirty s.page c ≡ false → Put d (report_words (reports x (take n (csr_steps c s.page)) s)) d
  said-clean {d} y = rw (reports-turn x c n s, y) (put-nothing d)

-- d became e as the turns of n numbers from k on said, with so many steps allowed
abbrev pub Said : (x : Xlen) → (ℕ → List Mark) → ℕ → ℕ → State → ℕ → Buffer ℕ → Buffer ℕ → Type 0
Said x f k n s limit d e = Put d (report_words (reports x (take limit (steps x (marks_from f k n) s)) s)) e

-- no turn yet
pub said-none : (x : Xlen) (f : ℕ → List Mark) (k : ℕ) (s : State) (limit : ℕ) (d : Buffer ℕ) → Said x f k 0 s limit d d
unfolding steps reports
said-none x f k s zero d = put-nothing d
said-none x f k s (suc limit) d = put-nothing d

module _ (x : Xlen) (f : ℕ → List Mark) (k i : ℕ) {s s' : State} {n l : ℕ} {b : Bool} (a : Made x (steps x (marks_from f k i) s) s n s' l b)
    {d e : Buffer ℕ} (w : Said x f k i s n d e) where
  -- a register's turn more
  pub said_more : (c : Csr) → f (k + i) ≡ Dirty c ∷ [] → IsPage x s.page → b ≡ false → {g : Buffer ℕ}
      → Put e (report_words (reports x (take l (csr_steps c s'.page)) s')) g → Said x f k (i + 1) s n d g
  said_more c had page o {g} v = subst (λ (rs : List Report). Put d (report_words rs) g) (sym more) (rw (words_append before (reports x (take l (csr_steps c s'.page)) s')) (w then v))
    where
      before : List Report
      before = reports x (take n (steps x (marks_from f k i) s)) s

      more : reports x (take n (steps x (marks_from f k (i + 1)) s)) s ≡ before ++ reports x (take l (csr_steps c s'.page)) s'
      more = ap (λ (ms : List Mark). reports x (take n (steps x ms s)) s) (marks-one f k i had) ∙ reports-more x (marks_from f k i) a (Dirty c) page o

  -- a number without a mark says nothing
  pub said-no-mark : f (k + i) ≡ [] → Said x f k (i + 1) s n d e
  said-no-mark none = subst (λ (ms : List Mark). Put d (report_words (reports x (take n (steps x ms s)) s)) e) (sym (marks-one f k i none ∙ append-nil (marks_from f k i))) w

  -- turns that stopped, before further ones
  pub said-stopped : (c : ℕ) → i ≤ c → b ≡ true → Said x f k c s n d e
  said-stopped c le o =
      let z : i + (c - i) ≡ c = omega arith in
      subst (λ (j : ℕ). Said x f k j s n d e) z
      (subst (λ (ms : List Mark). Put d (report_words (reports x (take n (steps x ms s)) s)) e) (sym (marks-more f k i (c - i)))
      (subst (λ (rs : List Report). Put d (report_words rs) e) (sym (reports-stopped x (marks_from f k i) a (marks_from f (k + i) (c - i)) o)) w))

  -- all turns
  pub said_all : (c : ℕ) → c ≡ i → Said x f k c s n d e
  said_all c z = rw z w

-- what a write says, from its number, its word and the reading after it
pub wrote-report : (c : Csr) {n v v' reading : ℕ} {h h' : Hart} {d e : Buffer ℕ} → n ≡ number c → reading ≡ read c h → v ≡ v' → h ≡ h'
    → Put d (report_words (report_with n (bit_xor v reading))) e → Put d (report_words (report_of c v' h')) e
unfolding report_of
wrote-report c en er ev eh w = rw (← ev, ← eh, ← er, ← en) w
