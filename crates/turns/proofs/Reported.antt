-- What steps say: some after others, those that write nothing, and a register's turn.
use mathlib.Core.Path.{◌≡◌, refl, sym, ap, ◌∙◌, subst}
use mathlib.Core.Bool.{Bool, true, false, cond, true≢false}
use mathlib.Core.List.{List, [], ◌∷◌, ◌++◌, map, append_assoc, append-nil}
use Prim.Native.Nat.{ℕ, zero, suc, ◌+◌, ◌<◌, ◌≤◌}
use native.Mathlib.Omega.{arith}
use lib.Dec.{eqb}
use lib.ListN.{length, take, length-append}
use lib.Seq.{take-append-le, take-append-add, take_all}
use Rattle.layout.specs.declared.xlen.Xlen.{Xlen}
use Rattle.csr.specs.Csrs.{Csr, number, followers}
use Rattle.hart.specs.declared.record.Hart.{Hart}
use Rattle.hart.specs.Registers.{write}
use Rattle.hart.specs.Dropped.{Report, dropped_bits, report_of}
use Rattle.page.specs.Registers.{IsPage, is_dirty, csr_word}
use Rattle.page.specs.Entries.{is_pending, fence_at}
use Rattle.fence.specs.Table.{named}
use Rattle.world.specs.State.{State}
use Rattle.turns.specs.Marks.{Mark, Dirty, Pending}
use Rattle.turns.specs.Turn.{turn, turns, write_from_word}
use Rattle.turns.specs.Steps.{Step, Write, Clear, Store, Remove, Done, after, run, clean_stores, csr_steps, removals, entry_steps, turn_steps, steps, Made}
use Rattle.turns.specs.Reports.{said, reports}
use Rattle.turns.proofs.Made.{enough-allowed, all_made, too_few, steps-append}
use Rattle.turns.proofs.Closed.{clean}
use Rattle.turns.proofs.Stores.{stores-clean}
use Rattle.turns.proofs.Turns.{all-steps}

-- steps, and then others
pub reports-append : (x : Xlen) (xs ys : List Step) (s : State) → reports x (xs ++ ys) s ≡ reports x xs s ++ reports x ys (run x xs s)
unfolding reports run
reports-append x [] ys s = refl
reports-append x (y ∷ xs) ys s =
    ap (λ (rs : List Report). said x y s ++ rs) (reports-append x xs ys (after x y s))
    ∙ sym (append_assoc (said x y s) (reports x xs (after x y s)) (reports x ys (run x xs (after x y s))))

module _ (x : Xlen) {xs : List Step} {s s' : State} {n l : ℕ} {b : Bool} (a : Made x xs s n s' l b) (ys : List Step) where
  -- a run that stopped says nothing of further steps
  pub reports-halt : b ≡ true → reports x (take n (xs ++ ys)) s ≡ reports x (take n xs) s
  reports-halt o = let lt : n < length xs = too_few x a o in ap (λ (zs : List Step). reports x zs s) (take-append-le n xs ys (omega arith))

  -- a run that did not stop, and then further steps from what it leaves
  pub reports-join : b ≡ false → reports x (take n (xs ++ ys)) s ≡ reports x (take n xs) s ++ reports x (take l ys) s'
  reports-join o =
      ap (λ (zs : List Step). reports x zs s) again ∙ reports-append x xs (take l ys) s
      ∙ ap (λ (zs : List Step). reports x zs s ++ reports x (take l ys) (run x xs s)) (sym (take_all n xs le))
      ∙ ap (λ (t : State). reports x (take n xs) s ++ reports x (take l ys) t) (sym (all_made x a o))
    where
      le : length xs ≤ n
      le = enough-allowed x a o

      again : take n (xs ++ ys) ≡ xs ++ take l ys
      again = ap (λ (k : ℕ). take k (xs ++ ys)) (let e : n ≡ length xs + l = omega (arith, a.left_is, le) in e) ∙ take-append-add xs ys l

-- no step of these writes a register
pub quiet : List Step → Bool
quiet [] = true
quiet (Write c ∷ xs) = false
quiet (Clear c ∷ xs) = quiet xs
quiet (Store c ∷ xs) = quiet xs
quiet (Remove i ∷ xs) = quiet xs
quiet (Done e ∷ xs) = quiet xs

-- then they say nothing, and a part of them neither
pub reports-quiet : (x : Xlen) (n : ℕ) (xs : List Step) (s : State) → quiet xs ≡ true → reports x (take n xs) s ≡ []
unfolding reports quiet
reports-quiet x zero xs s q = refl
reports-quiet x (suc n) [] s q = refl
reports-quiet x (suc n) (Write c ∷ xs) s q = absurd (true≢false (sym q))
reports-quiet x (suc n) (Clear c ∷ xs) s q = reports-quiet x n xs (after x (Clear c) s) q
reports-quiet x (suc n) (Store c ∷ xs) s q = reports-quiet x n xs (after x (Store c) s) q
reports-quiet x (suc n) (Remove i ∷ xs) s q = reports-quiet x n xs (after x (Remove i) s) q
reports-quiet x (suc n) (Done e ∷ xs) s q = reports-quiet x n xs (after x (Done e) s) q

quiet-append : (xs ys : List Step) → quiet xs ≡ true → quiet ys ≡ true → quiet (xs ++ ys) ≡ true
unfolding quiet
quiet-append [] ys p q = q
quiet-append (Write c ∷ xs) ys p q = p
quiet-append (Clear c ∷ xs) ys p q = quiet-append xs ys p q
quiet-append (Store c ∷ xs) ys p q = quiet-append xs ys p q
quiet-append (Remove i ∷ xs) ys p q = quiet-append xs ys p q
quiet-append (Done e ∷ xs) ys p q = quiet-append xs ys p q

-- stores write no register
quiet-stores : (cs : List Csr) → quiet (map Store cs) ≡ true
unfolding quiet
quiet-stores [] = refl
quiet-stores (c ∷ cs) = quiet-stores cs

-- one of n allowed steps
abbrev pub if_any : ℕ → List Report → List Report
if_any zero rs = []
if_any (suc n) rs = rs

-- what the write of register c from its word says
abbrev pub write_says : (x : Xlen) → Csr → State → List Report
write_says x c s = report_of c (csr_word x s.page c) (write c (csr_word x s.page c) s.hart)

-- (C) and (D) of its turn
abbrev stored : Csr → List ℕ → List Step
stored c p = Store c ∷ clean_stores (followers c) p

quiet-stored : (c : Csr) (p : List ℕ) → quiet (stored c p) ≡ true
unfolding quiet
quiet-stored c p = ap quiet (stores-clean (followers c) p) ∙ quiet-stores (clean (followers c) p)

-- (A) to (D)
reports-dirty : (x : Xlen) (c : Csr) (n : ℕ) (s : State) → reports x (take n (Write c ∷ Clear c ∷ stored c s.page)) s ≡ if_any n (write_says x c s)
unfolding reports after write_from_word
reports-dirty x c zero s = refl
reports-dirty x c (suc zero) s = append-nil (write_says x c s)
reports-dirty x c (suc (suc k)) s =
    ap (λ (rs : List Report). write_says x c s ++ rs) (reports-quiet x k (stored c s.page) _ (quiet-stored c s.page)) ∙ append-nil (write_says x c s)

-- what a register's turn says: what its write does, if it is dirty and a step is allowed
pub reports-turn : (x : Xlen) (c : Csr) (n : ℕ) (s : State)
    → reports x (take n (csr_steps c s.page)) s ≡ cond (is_dirty s.page c) (if_any n (write_says x c s)) []
unfolding csr_steps
reports-turn x c n s = go (is_dirty s.page c)
  where
    go : (b : Bool) → reports x (take n (cond b (Write c ∷ Clear c ∷ []) [] ++ stored c s.page)) s ≡ cond b (if_any n (write_says x c s)) []
    go true = reports-dirty x c n s
    go false = reports-quiet x n (stored c s.page) s (quiet-stored c s.page)

-- an entry's turn writes no register
quiet-removals : (is : List ℕ) (e : ℕ) → quiet (removals is ++ (Done e ∷ [])) ≡ true
unfolding quiet removals
quiet-removals [] e = refl
quiet-removals (i ∷ is) e = quiet-removals is e

quiet-entry : (x : Xlen) (e : ℕ) (s : State) → quiet (entry_steps x e s) ≡ true
unfolding entry_steps quiet
quiet-entry x e s = go (is_pending x s.page e)
  where
    go : (b : Bool) → quiet (cond b (removals (named (fence_at x s.page e) s.table) ++ (Done e ∷ [])) []) ≡ true
    go true = quiet-removals (named (fence_at x s.page e) s.table) e
    go false = refl

-- ---- turns one after the other

module _ (x : Xlen) (ms : List Mark) {s s' : State} {n l : ℕ} {b : Bool} (a : Made x (steps x ms s) s n s' l b) where
  -- one turn more after turns that did not stop
  pub reports-more : (m : Mark) → IsPage x s.page → b ≡ false
      → reports x (take n (steps x (ms ++ (m ∷ [])) s)) s ≡ reports x (take n (steps x ms s)) s ++ reports x (take l (turn_steps x m s')) s'
  unfolding steps
  reports-more m g o = ap (λ (xs : List Step). reports x (take n xs) s) more ∙ reports-join x a (turn_steps x m s') o
    where
      there : turns x ms s ≡ s'
      there = sym (all_made x a o ∙ all-steps x ms s g)

      more : steps x (ms ++ (m ∷ [])) s ≡ steps x ms s ++ turn_steps x m s'
      more =
          steps-append x ms (m ∷ []) s
          ∙ ap (λ (xs : List Step). steps x ms s ++ xs) (append-nil (turn_steps x m (turns x ms s)) ∙ ap (turn_steps x m) there)

  -- and none of further ones after turns that stopped
  pub reports-stopped : (ks : List Mark) → b ≡ true → reports x (take n (steps x (ms ++ ks) s)) s ≡ reports x (take n (steps x ms s)) s
  reports-stopped ks o =
      ap (λ (xs : List Step). reports x (take n xs) s) (steps-append x ms ks s) ∙ reports-halt x a (steps x ks (turns x ms s)) o

-- entries' turns write no register
pub quiet-entries : (x : Xlen) (es : List ℕ) (s : State) → quiet (steps x (map Pending es) s) ≡ true
unfolding steps quiet
quiet-entries x [] s = refl
quiet-entries x (e ∷ es) s = quiet-append (entry_steps x e s) (steps x (map Pending es) (turn x (Pending e) s)) (quiet-entry x e s) (quiet-entries x es (turn x (Pending e) s))

-- ---- how many reports

-- how many of these steps write a register
pub writes : List Step → ℕ
writes [] = 0
writes (Write c ∷ xs) = 1 + writes xs
writes (Clear c ∷ xs) = writes xs
writes (Store c ∷ xs) = writes xs
writes (Remove i ∷ xs) = writes xs
writes (Done e ∷ xs) = writes xs

-- a write has one report at most
pub report-one : (c : Csr) (v : ℕ) (h : Hart) → length (report_of c v h) ≤ 1
unfolding report_of
report-one c v h = go (eqb (dropped_bits c v h) 0)
  where
    go : (b : Bool) → length {A = Report} (cond b [] (record { csr = number c; bits = dropped_bits c v h } ∷ [])) ≤ 1
    go true = omega arith
    go false = omega arith

-- so there are no more reports than writes
pub reports-few : (x : Xlen) (n : ℕ) (xs : List Step) (s : State) → length (reports x (take n xs) s) ≤ writes xs
unfolding reports writes
reports-few x zero xs s = omega arith
reports-few x (suc n) [] s = omega arith
reports-few x (suc n) (Write c ∷ xs) s =
    simp length-append (omega (arith, report-one c (csr_word x s.page c) (after x (Write c) s).hart, reports-few x n xs (after x (Write c) s)))
reports-few x (suc n) (Clear c ∷ xs) s = reports-few x n xs (after x (Clear c) s)
reports-few x (suc n) (Store c ∷ xs) s = reports-few x n xs (after x (Store c) s)
reports-few x (suc n) (Remove i ∷ xs) s = reports-few x n xs (after x (Remove i) s)
reports-few x (suc n) (Done e ∷ xs) s = reports-few x n xs (after x (Done e) s)

writes-append : (xs ys : List Step) → writes (xs ++ ys) ≡ writes xs + writes ys
unfolding writes
writes-append [] ys = omega arith
writes-append (Write c ∷ xs) ys = omega (arith, writes-append xs ys)
writes-append (Clear c ∷ xs) ys = writes-append xs ys
writes-append (Store c ∷ xs) ys = writes-append xs ys
writes-append (Remove i ∷ xs) ys = writes-append xs ys
writes-append (Done e ∷ xs) ys = writes-append xs ys

writes-stores : (cs : List Csr) → writes (map Store cs) ≡ 0
unfolding writes
writes-stores [] = refl
writes-stores (c ∷ cs) = writes-stores cs

-- a register's turn writes one at most
writes-turn : (c : Csr) (p : List ℕ) → writes (csr_steps c p) ≤ 1
unfolding csr_steps
writes-turn c p = go (is_dirty p c)
  where
    none : writes (stored c p) ≡ 0
    none = ap (λ (xs : List Step). writes (Store c ∷ xs)) (stores-clean (followers c) p) ∙ writes-stores (c ∷ clean (followers c) p)

    go : (b : Bool) → writes (cond b (Write c ∷ Clear c ∷ []) [] ++ stored c p) ≤ 1
    go true = omega (arith, writes-append (Write c ∷ Clear c ∷ []) (stored c p), none, two)
      where
        two : writes (Write c ∷ Clear c ∷ []) ≤ 1
        two = unfold writes in omega arith
    go false = omega (arith, none)

-- registers' turns write no more than there are of them
pub writes-turns : (x : Xlen) (cs : List Csr) (s : State) → writes (steps x (map Dirty cs) s) ≤ length cs
unfolding steps writes
writes-turns x [] s = omega arith
writes-turns x (c ∷ cs) s =
    omega (arith, writes-append (csr_steps c s.page) (steps x (map Dirty cs) (turn x (Dirty c) s)), writes-turn c s.page, writes-turns x cs (turn x (Dirty c) s))
