-- A rule of the registers, proved at all of them, or at all but some turns, by one equality of lists that antt computes.
use mathlib.Core.Path.{◌≡◌, refl}
use mathlib.Core.Bool.{Bool, false, cond, ◌||◌}
use mathlib.Core.List.{List, [], ◌∷◌, map}
use mathlib.Core.Logic.{⊎_elim}
use Prim.Native.Nat.{ℕ, zero, suc, ◌+◌, ◌≤◌, ◌<◌}
use native.Mathlib.Decide.{dec_lt}
use native.Mathlib.Nat.{add-zero, zero-add, add-suc, suc-add, eq-or-lt_of_le, le_of_suc-le-suc, not-suc-le-zero}
use native.Mathlib.Omega.{arith}
use borrow.Author.Tests.{ne_eqb}
use lib.Dec.{eqb, lit<}
use lib.ListN.{length}
use Rattle.csr.specs.Csrs.{Csr, Hstatus, Hgeip, Hgeie, Hideleg, Hvip, Hie, Hip, Vsie, Vsip, Hedeleg, Htimedelta, Htimedeltah, Hcounteren, Henvcfg, Henvcfgh, Htval, Htinst, Hgatp, Vsstatus, Vstvec, Vsscratch, Vsepc, Vscause, Vstval, Vsatp, csr_count, every_csr, turn_of, nth, at_turn}

-- a register has one of the turns, and that turn leads back to it
has-turn : (c : Csr) → (turn_of c < csr_count) × (at_turn (turn_of c) ≡ c)
has-turn Hstatus = (lit< tt, refl)
has-turn Hgeip = (lit< tt, refl)
has-turn Hgeie = (lit< tt, refl)
has-turn Hideleg = (lit< tt, refl)
has-turn Hvip = (lit< tt, refl)
has-turn Hie = (lit< tt, refl)
has-turn Hip = (lit< tt, refl)
has-turn Vsie = (lit< tt, refl)
has-turn Vsip = (lit< tt, refl)
has-turn Hedeleg = (lit< tt, refl)
has-turn Htimedelta = (lit< tt, refl)
has-turn Htimedeltah = (lit< tt, refl)
has-turn Hcounteren = (lit< tt, refl)
has-turn Henvcfg = (lit< tt, refl)
has-turn Henvcfgh = (lit< tt, refl)
has-turn Htval = (lit< tt, refl)
has-turn Htinst = (lit< tt, refl)
has-turn Hgatp = (lit< tt, refl)
has-turn Vsstatus = (lit< tt, refl)
has-turn Vstvec = (lit< tt, refl)
has-turn Vsscratch = (lit< tt, refl)
has-turn Vsepc = (lit< tt, refl)
has-turn Vscause = (lit< tt, refl)
has-turn Vstval = (lit< tt, refl)
has-turn Vsatp = (lit< tt, refl)

pub turn_of-lt : (c : Csr) → turn_of c < csr_count
turn_of-lt c = (has-turn c).0

pub at_turn-turn_of : (c : Csr) → at_turn (turn_of c) ≡ c
at_turn-turn_of c = (has-turn c).1

-- past the end of a list stands vsatp
nth_past : (cs : List Csr) (t : ℕ) → length cs ≤ t → nth cs t ≡ Vsatp
nth_past [] t h = refl
nth_past (c ∷ cs) zero h = absurd (not-suc-le-zero h)
nth_past (c ∷ cs) (suc t) h = nth_past cs t (le_of_suc-le-suc h)

-- the last turn and every one past it is vsatp's
pub at_turn-last : (t : ℕ) → turn_of Vsatp ≤ t → at_turn t ≡ Vsatp
at_turn-last t h = ⊎_elim (λ e. rw (← e)) (nth_past every_csr t) (eq-or-lt_of_le h)

-- t is one of a list of turns
abbrev pub one_of : List ℕ → ℕ → Bool
one_of [] t = false
one_of (k ∷ ks) t = eqb t k || one_of ks t

-- t is none of a list of turns, in the form in which the last arm of a match on t has it: the arm before it first
abbrev pub NoneOf : List ℕ → ℕ → Type 0
NoneOf [] t = Unit
NoneOf (k ∷ ks) t = NoneOf ks t × (t ≡ k → ⊥)

one_of-none : (ks : List ℕ) (t : ℕ) → NoneOf ks t → one_of ks t ≡ false
one_of-none [] t n = refl
one_of-none (k ∷ ks) t n = simp (ne_eqb t k n.1, one_of-none ks t n.0)

module _ {A : Type 0} where
  -- what f gives at each register of a list and its place, counted from k
  abbrev pub each : (ℕ → Csr → A) → ℕ → List Csr → List A
  each f k [] = []
  each f k (c ∷ cs) = f k c ∷ each f (suc k) cs

  each-nth : (f g : ℕ → Csr → A) (cs : List Csr) (k : ℕ) → each f k cs ≡ each g k cs → (t : ℕ) → t < length cs → f (k + t) (nth cs t) ≡ g (k + t) (nth cs t)
  each-nth f g [] k e t h = absurd (not-suc-le-zero h)
  each-nth f g (c ∷ cs) k e zero h = rw add-zero (cc)
  each-nth f g (c ∷ cs) k e (suc t) h = rw (add-suc, ← suc-add) (each-nth f g cs (suc k) (cc) t (le_of_suc-le-suc h))

  -- f and g agree at a turn and its register where they agree at each
  pub same_at : (f g : ℕ → Csr → A) → each f 0 every_csr ≡ each g 0 every_csr → (t : ℕ) → t < csr_count → f t (at_turn t) ≡ g t (at_turn t)
  same_at f g e t h = rw zero-add at (each-nth f g every_csr 0 e t h)

  -- f and g agree at a register where they agree at each
  pub same : (f g : Csr → A) → map f every_csr ≡ map g every_csr → (c : Csr) → f c ≡ g c
  same f g e c = rw at_turn-turn_of at (same_at (λ (t : ℕ). f) (λ (t : ℕ). g) e (turn_of c) (turn_of-lt c))

-- a turn's register has that turn
pub turn_of-at_turn : (t : ℕ) → t < csr_count → turn_of (at_turn t) ≡ t
turn_of-at_turn = same_at (λ (t : ℕ) (c : Csr). turn_of c) (λ (t : ℕ) (c : Csr). t) refl

module _ {A : Type 0} (ks : List ℕ) (f g : Csr → A) (e : map (λ c. cond (one_of ks (turn_of c)) (g c) (f c)) every_csr ≡ map g every_csr) where
  -- f and g agree at a register that is none of ks where they agree at each but those of ks
  same-other : (c : Csr) → one_of ks (turn_of c) ≡ false → f c ≡ g c
  same-other c o = simp o at (same (λ c. cond (one_of ks (turn_of c)) (g c) (f c)) g e c)

  -- the same of one of the turns
  pub same-below : (t : ℕ) → t < csr_count → NoneOf ks t → f (at_turn t) ≡ g (at_turn t)
  same-below t h n = same-other (at_turn t) (rw (turn_of-at_turn t h) (one_of-none ks t n))

  -- the same of every turn, where vsatp is none of ks
  pub same-but : one_of ks (turn_of Vsatp) ≡ false → (t : ℕ) → NoneOf ks t → f (at_turn t) ≡ g (at_turn t)
  same-but last t n = go (dec_lt t csr_count)
    where
      go : Dec (t < csr_count) → f (at_turn t) ≡ g (at_turn t)
      go (yes h) = same-below t h n
      go (no h) = rw (at_turn-last t (omega arith)) (same-other Vsatp last)
