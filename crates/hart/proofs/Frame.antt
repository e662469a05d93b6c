-- What a write leaves: every part of the hart but the stored registers, and the reading of every register that is neither the one written
-- nor one of its followers.
use mathlib.Core.Bool.{Bool, true, false, not, ◌||◌}
use mathlib.Core.List.{List, [], ◌∷◌}
use mathlib.Core.Logic.{⊎_elim}
use mathlib.Core.Path.{◌≡◌, refl, sym, ap, subst, subst₂, ◌∙◌}
use Prim.Native.Nat.{ℕ}
use lib.Dec.{T, T_not, eqb, eqb_refl}
use mir.Facts.{or_yes, or_no}
use lib.ListN.{length, set, length-set}
use lib.Seq.{get_or-set_other}
use Rattle.csr.specs.Csrs.{Csr, csr_count, turn_of, followers, at_turn}
use Rattle.csr.proofs.Table.{one_of, turn_of-lt, at_turn-turn_of}
use Rattle.hart.specs.declared.record.Hart.{Hart}
use Rattle.hart.specs.Record.{with_csrs}
use Rattle.hart.specs.Registers.{reading, read, write}
use Rattle.hart.proofs.Places.{changes}
use Rattle.hart.proofs.Readings.{Agree, reads}
use Rattle.hart.proofs.Rules.{rule}
use Rattle.hart.proofs.Shape.{Sized}
use Rattle.hart.proofs.Tests.{upto, upto-at}

-- ---- the parts that no write changes

-- two harts that differ at most in the stored registers
pub record SameRest (h h' : Hart) : Type 0 where
  pub xlen : h.xlen ≡ h'.xlen
  pub lines : h.lines ≡ h'.lines
  pub shmem : h.shmem ≡ h'.shmem
  pub virt : h.virt ≡ h'.virt
  pub mode : h.mode ≡ h'.mode
  pub pc : h.pc ≡ h'.pc
  pub sepc : h.sepc ≡ h'.sepc
  pub stvec : h.stvec ≡ h'.stvec
  pub scause : h.scause ≡ h'.scause
  pub stval : h.stval ≡ h'.stval
  pub sie : h.sie ≡ h'.sie
  pub spie : h.spie ≡ h'.spie
  pub spp : h.spp ≡ h'.spp
  pub dropped : h.dropped ≡ h'.dropped
  pub features : h.features ≡ h'.features
  pub x : h.x ≡ h'.x

-- a write changes the stored registers alone
pub write-csrs : (c : Csr) (v : ℕ) (h : Hart) → write c v h ≡ with_csrs h (write c v h).csrs
write-csrs c v h = refl

-- the same, part by part
pub write-rest : (c : Csr) (v : ℕ) (h : Hart) → SameRest (write c v h) h
write-rest c v h =
    record { xlen = refl; lines = refl; shmem = refl; virt = refl; mode = refl; pc = refl; sepc = refl; stvec = refl; scause = refl; stval = refl; sie = refl; spie = refl; spp = refl; dropped = refl; features = refl; x = refl }

-- a write keeps the lengths
pub write-sized : (c : Csr) (v : ℕ) (h : Hart) → Sized h → Sized (write c v h)
write-sized c v h s =
    record { csrs = ap length ((rule h.xlen c v).writes h.csrs) ∙ length-set h.csrs (changes c) ((rule h.xlen c v).value h.csrs) ∙ s.csrs; x = s.x }

-- ---- readings

-- the register is in the list
abbrev pub member : Csr → List Csr → Bool
member d [] = false
member d (c ∷ cs) = eqb (turn_of d) (turn_of c) || member d cs

-- d is neither c nor one of its followers
abbrev pub apart : Csr → Csr → Bool
apart c d = not (member d (c ∷ followers c))

-- d is c or a follower of c, or its reading does not use the place that a write of c changes
abbrev covered : Csr → Csr → Bool
covered c d = member d (c ∷ followers c) || not (one_of (reads d).uses (changes c))

-- so it is for all pairs, by their turns
all-covered : (c d : Csr) → T (covered c d)
all-covered c d =
    subst₂ (λ (a b : Csr). T (covered a b)) (at_turn-turn_of c) (at_turn-turn_of d)
    (upto-at (λ s. covered (at_turn (turn_of c)) (at_turn s)) csr_count (upto-at (λ t. upto (λ s. covered (at_turn t) (at_turn s)) csr_count) csr_count tt (turn_of c) (turn_of-lt c)) (turn_of d) (turn_of-lt d))

-- a store at one place leaves the others
agree-other : (csrs : List ℕ) (p x : ℕ) (ks : List ℕ) → T (not (one_of ks p)) → Agree (set csrs p x) csrs ks
agree-other csrs p x [] t = tt
agree-other csrs p x (k ∷ ks) t =
    let n = or_no (eqb p k) (one_of ks p) t in
    (get_or-set_other csrs p k x 0 (λ e. T_not (eqb p k) n.0 (subst (λ (j : ℕ). T (eqb p j)) (sym e) (eqb_refl p))), agree-other csrs p x ks n.1)

-- a store at the place that a write of c changes changes no reading but c's own and its followers'
pub place-frame : (c d : Csr) (x : ℕ) (csrs : List ℕ) (lines : ℕ) → apart c d ≡ true → reading d (set csrs (changes c) x) lines ≡ reading d csrs lines
place-frame c d x csrs lines e =
    (reads d).same (set csrs (changes c) x) csrs lines
    (agree-other csrs (changes c) x (reads d).uses
    (⊎_elim (λ t. absurd (T_not (member d (c ∷ followers c)) (subst T (sym e) tt) t)) (λ t. t)
    (or_yes (member d (c ∷ followers c)) (not (one_of (reads d).uses (changes c))) (all-covered c d))))

-- so a write changes no reading but the register's own and its followers'
pub write-frame : (c d : Csr) (v : ℕ) (h : Hart) → apart c d ≡ true → read d (write c v h) ≡ read d h
write-frame c d v h e =
    ap (λ (l : List ℕ). reading d l h.lines) ((rule h.xlen c v).writes h.csrs) ∙ place-frame c d ((rule h.xlen c v).value h.csrs) h.csrs h.lines e
