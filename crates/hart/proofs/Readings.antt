-- What the readings of all registers have in common: each is made of the lines and a few places, and fits a word of the width.
use mathlib.Core.Bool.{Bool, true, false, cond}
use mathlib.Core.List.{List, [], ◌∷◌}
use mathlib.Core.Path.{◌≡◌, refl, sym, ap, ◌∙◌}
use Prim.Native.Nat.{ℕ, ◌/◌, ◌^◌, ◌<◌}
use native.Mathlib.Nat.{zero-div}
use native.Mathlib.Omega.{arith}
use lib.Dec.{T, ltb, lit<}
use lib.Bits.{bit_and, bit_or, and_le_r, or_lt}
use lib.ListN.{get_or}
use Rattle.layout.specs.declared.xlen.Xlen.{Xlen}
use Rattle.layout.specs.Width.{bits}
use Rattle.csr.specs.Csrs.{Csr, Hstatus, Hgeip, Hgeie, Hideleg, Hvip, Hie, Hip, Vsie, Vsip, Hedeleg, Htimedelta, Htimedeltah, Hcounteren, Henvcfg, Henvcfgh, Htval, Htinst, Hgatp, Vsstatus, Vstvec, Vsscratch, Vsepc, Vscause, Vstval, Vsatp}
use Rattle.hart.specs.Stored.{stored_count, place_of, held}
use Rattle.hart.specs.Registers.{line_up, line_enabled, delegated, reading}
use Rattle.hart.proofs.BitLaws.{bit, bit-ext, bit-and, bit-or, in-word}
use Rattle.hart.proofs.Tests.{All, cond-all}

-- two lists of stored registers hold the same at these places
abbrev pub Agree : List ℕ → List ℕ → List ℕ → Type 0
Agree csrs csrs' ks = All (λ k. get_or csrs k 0 ≡ get_or csrs' k 0) ks

-- what d's reading is made of: the lines and the places that it uses
pub record Reads (d : Csr) : Type 0 where
  pub uses : List ℕ
  pub same : (csrs csrs' : List ℕ) (lines : ℕ) → Agree csrs csrs' uses → reading d csrs lines ≡ reading d csrs' lines
  pub fits : (x : Xlen) (csrs : List ℕ) (lines : ℕ) → ((k : ℕ) → k < stored_count → get_or csrs k 0 < 2 ^ bits x) → lines < 2 ^ bits x
      → reading d csrs lines < 2 ^ bits x

-- a register that reads its own place
abbrev own : {d : Csr} → T (ltb (place_of d) stored_count) → ((csrs : List ℕ) (lines : ℕ) → reading d csrs lines ≡ held d csrs) → Reads d
own {d} s e =
    record {
      uses = place_of d ∷ [];
      same = λ csrs csrs' lines a. e csrs lines ∙ a.0 ∙ sym (e csrs' lines);
      fits = λ x csrs lines w l. rw (e csrs lines) (w (place_of d) (lit< s));
    }

-- k or nothing
pub fits-if : (x : Xlen) (b : Bool) (k : ℕ) → k < 2 ^ 32 → cond b k 0 < 2 ^ bits x
fits-if x b k h = cond-all (λ (y : ℕ). y < 2 ^ bits x) b (in-word x h) (in-word x (lit< tt))

-- vsie's and vsip's readings fit a word, whatever they are made of
pub delegated-fits : (x : Xlen) (hideleg v : ℕ) → delegated hideleg v < 2 ^ bits x
delegated-fits x hideleg v = in-word x (omega (arith, and_le_r (bit_and v hideleg) 0x444))

-- bits that none of vsip's are made of
delegated-or : (hideleg x z : ℕ) → bit_and z 0x444 ≡ 0 → delegated hideleg (bit_or x z) ≡ delegated hideleg x
delegated-or hideleg x z e =
    ap (λ (y : ℕ). y / 2)
    (bit-ext (bit_and (bit_and (bit_or x z) hideleg) 0x444) (bit_and (bit_and x hideleg) 0x444)
    (λ k. simp (bit-and, bit-or) (omega (arith, simp bit-and at (ap (λ (y : ℕ). bit y k) e), zero-div (2 ^ k)))))

-- vsip does not show hip's bit 12, so hgeie has no part in it
pub read-vsip : (csrs : List ℕ) (lines : ℕ)
    → reading Vsip csrs lines ≡ delegated (held Hideleg csrs) (bit_or (held Hvip csrs) (cond (line_up (held Hstatus csrs) lines) 0x400 0))
read-vsip csrs lines =
    let up = line_up (held Hstatus csrs) lines in
    let enabled = line_enabled (held Hgeie csrs) lines in
    delegated-or (held Hideleg csrs) (bit_or (held Hvip csrs) (cond up 0x400 0)) (cond enabled 0x1000 0) (none enabled)
  where
    none : (b : Bool) → bit_and (cond b 0x1000 0) 0x444 ≡ 0
    none true = refl
    none false = refl

-- the reading of each register
abbrev pub reads : (d : Csr) → Reads d
reads Hstatus = own tt (λ csrs lines. refl)
reads Hgeip = record { uses = []; same = λ csrs csrs' lines a. refl; fits = λ x csrs lines w l. l }
reads Hgeie = own tt (λ csrs lines. refl)
reads Hideleg = own tt (λ csrs lines. refl)
reads Hvip = own tt (λ csrs lines. refl)
reads Hie = own tt (λ csrs lines. refl)
reads Hip =
    record {
      uses = 0 ∷ 1 ∷ 3 ∷ [];
      same = λ csrs csrs' lines a. cc;
      fits = λ x csrs lines w l. or_lt (bits x) _ _ (or_lt (bits x) _ _ (w 3 (lit< tt)) (fits-if x (line_up (held Hstatus csrs) lines) 0x400 (lit< tt))) (fits-if x (line_enabled (held Hgeie csrs) lines) 0x1000 (lit< tt));
    }
reads Vsie = record { uses = 2 ∷ 4 ∷ []; same = λ csrs csrs' lines a. cc; fits = λ x csrs lines w l. delegated-fits x (held Hideleg csrs) (held Hie csrs) }
reads Vsip =
    record {
      uses = 0 ∷ 2 ∷ 3 ∷ [];
      same = λ csrs csrs' lines a. read-vsip csrs lines ∙ (cc) ∙ sym (read-vsip csrs' lines);
      fits = λ x csrs lines w l. delegated-fits x (held Hideleg csrs) (reading Hip csrs lines);
    }
reads Hedeleg = own tt (λ csrs lines. refl)
reads Htimedelta = own tt (λ csrs lines. refl)
reads Htimedeltah = own tt (λ csrs lines. refl)
reads Hcounteren = own tt (λ csrs lines. refl)
reads Henvcfg = own tt (λ csrs lines. refl)
reads Henvcfgh = record { uses = []; same = λ csrs csrs' lines a. refl; fits = λ x csrs lines w l. in-word x (lit< tt) }
reads Htval = own tt (λ csrs lines. refl)
reads Htinst = own tt (λ csrs lines. refl)
reads Hgatp = own tt (λ csrs lines. refl)
reads Vsstatus = own tt (λ csrs lines. refl)
reads Vstvec = own tt (λ csrs lines. refl)
reads Vsscratch = own tt (λ csrs lines. refl)
reads Vsepc = own tt (λ csrs lines. refl)
reads Vscause = own tt (λ csrs lines. refl)
reads Vstval = own tt (λ csrs lines. refl)
reads Vsatp = own tt (λ csrs lines. refl)
