-- Well made (01; 02, Req 02 and 06): a fresh hart is, writes keep it, and the test says what is said there in words.
use Rattle.std.specs.Prelude.{Option, Some, None}
use mathlib.Core.Bool.{Bool, true, false, cond, true≢false, ◌&&◌, and-eq-true_iff}
use mathlib.Core.List.{List, [], ◌∷◌}
use mathlib.Core.Logic.{◌↔◌}
use mathlib.Core.Path.{◌≡◌, refl, sym, ap, subst, ◌∙◌}
use Prim.Native.Nat.{ℕ, zero, suc, zero-le, suc-le-suc, ◌%◌, ◌^◌, ◌<◌}
use native.Mathlib.Nat.{mod-lt, le_of_suc-le-suc, not-suc-le-zero}
use native.Mathlib.Decide.{ℕ_discrete, dec_lt}
use native.Mathlib.Omega.{arith}
use lib.Dec.{eqb, ltb, lit<}
use lib.ListN.{length, get_or}
use lib.Seq.{set_out, get_or-set_same, get_or-set_other}
use lib.Bits.{bit_and, and_zero_r}
use borrow.Author.Tests.{eqb-true, eq-eqb, ltb-true, lt-ltb}
use Rattle.layout.specs.declared.xlen.Xlen.{Xlen}
use Rattle.layout.specs.declared.xlen.Xlen.TheVariants.{X32, X64}
use Rattle.layout.specs.Width.{bits}
use Rattle.csr.specs.Csrs.{Csr, has, nth}
use Rattle.csr.proofs.Table.{same}
use Rattle.hart.specs.declared.record.Hart.{Hart}
use Rattle.hart.specs.Stored.{stored, place_of, held, hold, fresh_csrs}
use Rattle.hart.specs.Record.{fresh}
use Rattle.hart.specs.Registers.{written, write}
use Rattle.hart.specs.WellMade.{leaves, each_left, csrs_well_made, fits_word, each_fits, lines_well_made, shmem_well_made, other_words, well_made}
use Rattle.hart.proofs.Places.{Stored, stored_at, nth-stored, legal_at}
use Rattle.hart.proofs.Rules.{rule, write_keeps}
use Rattle.hart.proofs.Shape.{Words}

-- ---- the test, register by register

-- c holds something legal: a write of that very value leaves it there in a fresh hart
abbrev pub Legal : Xlen → List ℕ → Csr → Type 0
Legal x csrs c = leaves x c (held c csrs) ≡ true

-- a write keeps what each stored register holds legal
pub legal-write : (x : Xlen) (d : Csr) (v : ℕ) (csrs : List ℕ) (c : Csr) → Stored c → Legal x csrs c → Legal x (written x d v csrs) c
legal-write x d v csrs c s l =
    subst (λ (e : Csr). leaves x e (held c (written x d v csrs)) ≡ true) (stored_at c s)
    (write_keeps (λ k y. legal_at x k y ≡ true) x d v csrs ((rule x d v).legal csrs) (place_of c)
    (subst (λ (e : Csr). leaves x e (held c csrs) ≡ true) (sym (stored_at c s)) l))

-- the test of a list passes exactly if each register of it holds something legal
each_left_lem : (x : Xlen) (cs : List Csr) (csrs : List ℕ) → each_left x cs csrs ≡ true → (k : ℕ) → k < length cs → Legal x csrs (nth cs k)
each_left_lem x [] csrs e k h = absurd (not-suc-le-zero h)
each_left_lem x (c ∷ cs) csrs e zero h = ((and-eq-true_iff (leaves x c (held c csrs)) (each_left x cs csrs)).0 e).0
each_left_lem x (c ∷ cs) csrs e (suc k) h = each_left_lem x cs csrs ((and-eq-true_iff (leaves x c (held c csrs)) (each_left x cs csrs)).0 e).1 k (le_of_suc-le-suc h)

left-each : (x : Xlen) (cs : List Csr) (csrs : List ℕ) → ((k : ℕ) → k < length cs → Legal x csrs (nth cs k)) → each_left x cs csrs ≡ true
left-each x [] csrs f = refl
left-each x (c ∷ cs) csrs f =
    (and-eq-true_iff (leaves x c (held c csrs)) (each_left x cs csrs)).1 (f 0 (suc-le-suc zero-le), left-each x cs csrs (λ k h. f (suc k) (suc-le-suc h)))

-- the test passes exactly if each stored register holds something legal
pub csrs-legal : (h : Hart) → csrs_well_made h ≡ true ↔ ((c : Csr) → Stored c → Legal h.xlen h.csrs c)
csrs-legal h =
    (λ e c s. subst (Legal h.xlen h.csrs) (stored_at c s) (each_left_lem h.xlen stored h.csrs e (place_of c) s), λ f. left-each h.xlen stored h.csrs (λ k lt. f (nth stored k) (nth-stored k lt)))

-- a legal value put in a stored register's place leaves the test passed
pub hold-left : (x : Xlen) (d : Csr) (v : ℕ) (csrs : List ℕ) → Stored d → leaves x d v ≡ true → each_left x stored csrs ≡ true → each_left x stored (hold d v csrs) ≡ true
hold-left x d v csrs s l e =
    left-each x stored (hold d v csrs) (λ k lt. at (nth stored k) (nth-stored k lt) (each_left_lem x stored csrs e k lt) (ℕ_discrete (place_of (nth stored k)) (place_of d)))
  where
    own : Legal x csrs d → Dec (place_of d < length csrs) → Legal x (hold d v csrs) d
    own m (yes b) = rw (get_or-set_same csrs (place_of d) v 0 b) l
    own m (no b) = rw (set_out csrs (place_of d) v (omega arith)) m

    at : (c : Csr) → Stored c → Legal x csrs c → Dec (place_of c ≡ place_of d) → Legal x (hold d v csrs) c
    at c t m (yes q) =
        let same : d ≡ c = sym (stored_at d s) ∙ ap (nth stored) (sym q) ∙ stored_at c t in
        subst (Legal x (hold d v csrs)) same (own (subst (Legal x csrs) (sym same) m) (dec_lt (place_of d) (length csrs)))
    at c t m (no n) = rw (get_or-set_other csrs (place_of d) (place_of c) v 0 n) m

-- ---- the whole test, part by part

-- each of its eight parts is true
pub record Parts (h : Hart) : Type 0 where
  pub csrs : csrs_well_made h ≡ true
  pub lines : lines_well_made h.lines ≡ true
  pub sepc : eqb (h.sepc % 2) 0 ≡ true
  pub stvec : eqb (h.stvec % 4) 0 ≡ true
  pub shmem : shmem_well_made h.xlen h.shmem ≡ true
  pub x : eqb (get_or h.x 0 0) 0 ≡ true
  pub features : ltb h.features 16 ≡ true
  pub words : each_fits h.xlen (other_words h) ≡ true

-- eight tests from each
all-eight : {a b c d e f g h : Bool} → a ≡ true → b ≡ true → c ≡ true → d ≡ true → e ≡ true → f ≡ true → g ≡ true → h ≡ true
    → a && b && c && d && e && f && g && h ≡ true
all-eight p q r s t u v w = rw (p, q, r, s, t, u, v) w

-- the parts make the test
pub parts-well_made : (h : Hart) → Parts h → well_made h ≡ true
parts-well_made h p = all-eight p.csrs p.lines p.sepc p.stvec p.shmem p.x p.features p.words

-- each from eight tests
each-eight : (a b c d e f g h : Bool) → a && b && c && d && e && f && g && h ≡ true
    → (a ≡ true) × (b ≡ true) × (c ≡ true) × (d ≡ true) × (e ≡ true) × (f ≡ true) × (g ≡ true) × (h ≡ true)
each-eight a b c d e f g h t =
    let w = (and-eq-true_iff (a && b && c && d && e && f && g) h).0 t in
    let v = (and-eq-true_iff (a && b && c && d && e && f) g).0 w.0 in
    let p = (and-eq-true_iff (a && b && c && d && e) f).0 v.0 in
    let q = (and-eq-true_iff (a && b && c && d) e).0 p.0 in
    let r = (and-eq-true_iff (a && b && c) d).0 q.0 in
    let s = (and-eq-true_iff (a && b) c).0 r.0 in
    let u = (and-eq-true_iff a b).0 s.0 in
    (u.0, u.1, s.1, r.1, q.1, p.1, v.1, w.1)

-- the test gives the parts
pub well_made-parts : (h : Hart) → well_made h ≡ true → Parts h
well_made-parts h t =
    let p = each-eight (csrs_well_made h) (lines_well_made h.lines) (eqb (h.sepc % 2) 0) (eqb (h.stvec % 4) 0) (shmem_well_made h.xlen h.shmem)
    (eqb (get_or h.x 0 0) 0) (ltb h.features 16) (each_fits h.xlen (other_words h)) t in
    record { csrs = p.0; lines = p.1; sepc = p.2; stvec = p.3; shmem = p.4; x = p.5; features = p.6; words = p.7 }

-- each of the record's other words fits
pub record WordsFit (h : Hart) : Type 0 where
  pub pc : fits_word h.xlen h.pc ≡ true
  pub sepc : fits_word h.xlen h.sepc ≡ true
  pub stvec : fits_word h.xlen h.stvec ≡ true
  pub scause : fits_word h.xlen h.scause ≡ true
  pub stval : fits_word h.xlen h.stval ≡ true
  pub x : each_fits h.xlen h.x ≡ true

-- they do exactly if the test of the list passes
pub words-fit : (h : Hart) → each_fits h.xlen (other_words h) ≡ true → WordsFit h
words-fit h t =
    let a = (and-eq-true_iff (fits_word h.xlen h.pc) (each_fits h.xlen (h.sepc ∷ h.stvec ∷ h.scause ∷ h.stval ∷ h.x))).0 t in
    let b = (and-eq-true_iff (fits_word h.xlen h.sepc) (each_fits h.xlen (h.stvec ∷ h.scause ∷ h.stval ∷ h.x))).0 a.1 in
    let c = (and-eq-true_iff (fits_word h.xlen h.stvec) (each_fits h.xlen (h.scause ∷ h.stval ∷ h.x))).0 b.1 in
    let d = (and-eq-true_iff (fits_word h.xlen h.scause) (each_fits h.xlen (h.stval ∷ h.x))).0 c.1 in
    let e = (and-eq-true_iff (fits_word h.xlen h.stval) (each_fits h.xlen h.x)).0 d.1 in
    record { pc = a.0; sepc = b.0; stvec = c.0; scause = d.0; stval = e.0; x = e.1 }

pub fit_words : (h : Hart) → WordsFit h → each_fits h.xlen (other_words h) ≡ true
fit_words h f = rw (f.pc, f.sepc, f.stvec, f.scause, f.stval) f.x

-- ---- fresh harts and writes

-- a fresh hart is well made
pub well_made-fresh : (x : Xlen) (n : ℕ) → well_made (fresh x n) ≡ true
unfolding leaves
well_made-fresh X32 n = rw (lt-ltb (n % 16) 16 (mod-lt n (lit< tt)))
well_made-fresh X64 n = rw (lt-ltb (n % 16) 16 (mod-lt n (lit< tt)))

-- a write keeps the stored registers well made
pub csrs_well_made-write : (c : Csr) (v : ℕ) (h : Hart) → csrs_well_made h ≡ true → csrs_well_made (write c v h) ≡ true
csrs_well_made-write c v h e = (csrs-legal (write c v h)).1 (λ d s. legal-write h.xlen c v h.csrs d s ((csrs-legal h).0 e d s))

-- a write keeps a hart well made
pub well_made-write : (c : Csr) (v : ℕ) (h : Hart) → well_made h ≡ true → well_made (write c v h) ≡ true
well_made-write c v h e =
    let p = well_made-parts h e in
    parts-well_made (write c v h)
    (record { csrs = csrs_well_made-write c v h p.csrs; lines = p.lines; sepc = p.sepc; stvec = p.stvec; shmem = p.shmem; x = p.x; features = p.features; words = p.words })

-- ---- 01's words

-- a value of one word and the register of this width that it is written to
pub record Write (x : Xlen) : Type 0 where
  pub to : Csr
  pub there : has x to ≡ true
  pub value : ℕ
  pub fits : value < 2 ^ bits x

-- the hart after a list of writes
abbrev pub writes : {x : Xlen} → List (Write x) → Hart → Hart
writes [] h = h
writes (w ∷ ws) h = writes ws (write w.to w.value h)

-- c holds v after some writes from a fresh hart
pub record Left (x : Xlen) (c : Csr) (v : ℕ) : Type 0 where
  pub features : ℕ
  pub made : List (Write x)
  pub holds : held c (writes made (fresh x features)).csrs ≡ v

-- writes keep what a stored register holds legal
legal-writes : {x : Xlen} (ws : List (Write x)) (h : Hart) (c : Csr) → Stored c → Legal h.xlen h.csrs c → Legal h.xlen (writes ws h).csrs c
legal-writes [] h c s l = l
legal-writes (w ∷ ws) h c s l = legal-writes ws (write w.to w.value h) c s (legal-write h.xlen w.to w.value h.csrs c s l)

-- what writes can leave in a stored register is legal there
pub left-legal : (x : Xlen) (c : Csr) (v : ℕ) → Stored c → Left x c v → leaves x c v ≡ true
left-legal x c v s l =
    let start = (csrs-legal (fresh x l.features)).0 (well_made-parts (fresh x l.features) (well_made-fresh x l.features)).csrs c s in
    rw (← l.holds) (legal-writes l.made (fresh x l.features) c s start)

-- a register that the width does not have takes nothing
absent : (x : Xlen) (c : Csr) (v : ℕ) → has x c ≡ false → held c (fresh_csrs x) ≡ held c (written x c v (fresh_csrs x))
absent X32 c v e = absurd (true≢false e)
absent X64 c v e =
    simp e at
    (same (λ c. cond (has X64 c) 0 (held c (fresh_csrs X64))) (λ c. cond (has X64 c) 0 (held c (written X64 c v (fresh_csrs X64)))) (simp and_zero_r) c)

-- a legal word is left by a write of that word to a fresh hart, or by none where the width does not have the register
pub legal-left : (x : Xlen) (c : Csr) (v : ℕ) → v < 2 ^ bits x → leaves x c v ≡ true → Left x c v
unfolding leaves
legal-left x c v fits e = go (has x c) refl
  where
    holds : held c (written x c v (fresh_csrs x)) ≡ v
    holds = eqb-true (held c (written x c v (fresh_csrs x))) v e

    go : (b : Bool) → has x c ≡ b → Left x c v
    go true there = record { features = 0; made = record { to = c; there = there; value = v; fits = fits } ∷ []; holds = holds }
    go false none = record { features = 0; made = []; holds = absent x c v none ∙ holds }

-- the test passes exactly if each stored register holds something that writes from a fresh hart can leave
pub csrs-left : (h : Hart) → Words h → csrs_well_made h ≡ true ↔ ((c : Csr) → Stored c → Left h.xlen c (held c h.csrs))
csrs-left h w =
    (λ e c s. legal-left h.xlen c (held c h.csrs) (w.csrs (place_of c) s) ((csrs-legal h).0 e c s), λ left. (csrs-legal h).1 (λ c s. left-legal h.xlen c (held c h.csrs) s (left c s)))

-- at XLEN 32 bits above 31 clear
abbrev pub Narrow : Xlen → ℕ → Type 0
Narrow x v = x ≡ X32 → v < 2 ^ 32

-- well made, in 01's and 02's words
pub record WellMade (h : Hart) : Type 0 where
  -- each stored register holds something that writes from a fresh hart can leave
  pub csrs : (c : Csr) → Stored c → Left h.xlen c (held c h.csrs)
  -- lines only in bits 7:1
  pub lines : bit_and h.lines 0xFE ≡ h.lines
  -- sepc bit 0 clear
  pub sepc : h.sepc % 2 ≡ 0
  -- stvec's two low bits 0
  pub stvec : h.stvec % 4 ≡ 0
  -- page address 4096-aligned
  pub shmem : (a : ℕ) → h.shmem ≡ Some a → a % 4096 ≡ 0
  -- X0 is 0
  pub x : get_or h.x 0 0 ≡ 0
  -- feature set under 16
  pub features : h.features < 16
  -- at XLEN 32 bits above 31 clear in the page address, pc, sepc, stvec, scause, stval and the general registers; those above keep them clear in
  -- the others
  pub shmem_narrow : (a : ℕ) → h.shmem ≡ Some a → Narrow h.xlen a
  pub narrow : (k : ℕ) → Narrow h.xlen (get_or (other_words h) k 0)

-- the test of a word
fits-says : (x : Xlen) (v : ℕ) → fits_word x v ≡ true ↔ Narrow x v
fits-says X32 v = (λ e _. ltb-true v (2 ^ 32) e, λ f. lt-ltb v (2 ^ 32) (f refl))
fits-says X64 v = (λ e wide. absurd (let z : ◌≡◌ {A = ℕ} 0 1 = cc in omega arith), λ f. refl)

-- the test of a list of words
each-narrow : (x : Xlen) (vs : List ℕ) → each_fits x vs ≡ true → (k : ℕ) → Narrow x (get_or vs k 0)
each-narrow x [] e k = λ _. lit< tt
each-narrow x (v ∷ vs) e zero = (fits-says x v).0 ((and-eq-true_iff (fits_word x v) (each_fits x vs)).0 e).0
each-narrow x (v ∷ vs) e (suc k) = each-narrow x vs ((and-eq-true_iff (fits_word x v) (each_fits x vs)).0 e).1 k

narrow-each : (x : Xlen) (vs : List ℕ) → ((k : ℕ) → Narrow x (get_or vs k 0)) → each_fits x vs ≡ true
narrow-each x [] f = refl
narrow-each x (v ∷ vs) f = (and-eq-true_iff (fits_word x v) (each_fits x vs)).1 ((fits-says x v).1 (f 0), narrow-each x vs (λ k. f (suc k)))

-- the test of the page: at an aligned address that fits, or none
shmem-says : (x : Xlen) (s : Option ℕ) → shmem_well_made x s ≡ true ↔ ((a : ℕ) → s ≡ Some a → (a % 4096 ≡ 0) × Narrow x a)
shmem-says x None = (λ e a q. absurd (let z : ◌≡◌ {A = ℕ} 0 1 = cc in omega arith), λ f. refl)
shmem-says x (Some b) = (says, λ f. (and-eq-true_iff (eqb (b % 4096) 0) (fits_word x b)).1 (eq-eqb (b % 4096) 0 (f b refl).0, (fits-says x b).1 (f b refl).1))
  where
    says : eqb (b % 4096) 0 && fits_word x b ≡ true → (a : ℕ) → Some b ≡ Some a → (a % 4096 ≡ 0) × Narrow x a
    says e a q =
        let p = (and-eq-true_iff (eqb (b % 4096) 0) (fits_word x b)).0 e in
        let same : b ≡ a = cc in
        rw (← same) (eqb-true (b % 4096) 0 p.0, (fits-says x b).0 p.1)

-- the test passes exactly if the hart is well made
pub well_made-says : (h : Hart) → Words h → well_made h ≡ true ↔ WellMade h
well_made-says h w = (says, λ m. parts-well_made h (tested-so m))
  where
    says : well_made h ≡ true → WellMade h
    says e =
        let p = well_made-parts h e in
        record {
          csrs = (csrs-left h w).0 p.csrs;
          lines = eqb-true (bit_and h.lines 0xFE) h.lines p.lines;
          sepc = eqb-true (h.sepc % 2) 0 p.sepc;
          stvec = eqb-true (h.stvec % 4) 0 p.stvec;
          shmem = λ a q. ((shmem-says h.xlen h.shmem).0 p.shmem a q).0;
          x = eqb-true (get_or h.x 0 0) 0 p.x;
          features = ltb-true h.features 16 p.features;
          shmem_narrow = λ a q. ((shmem-says h.xlen h.shmem).0 p.shmem a q).1;
          narrow = each-narrow h.xlen (other_words h) p.words;
        }

    tested-so : WellMade h → Parts h
    tested-so m =
        record {
          csrs = (csrs-left h w).1 m.csrs;
          lines = eq-eqb (bit_and h.lines 0xFE) h.lines m.lines;
          sepc = eq-eqb (h.sepc % 2) 0 m.sepc;
          stvec = eq-eqb (h.stvec % 4) 0 m.stvec;
          shmem = (shmem-says h.xlen h.shmem).1 (λ a q. (m.shmem a q, m.shmem_narrow a q));
          x = eq-eqb (get_or h.x 0 0) 0 m.x;
          features = lt-ltb h.features 16 m.features;
          words = narrow-each h.xlen (other_words h) m.narrow;
        }
