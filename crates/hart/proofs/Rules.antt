-- What the writes of all registers have in common, at either width: each changes one place, to a value that fits a word, that a second write
-- leaves, and that is legal where the old content was.
use mathlib.Core.Bool.{Bool, true, cond, ◌||◌}
use mathlib.Core.List.{List, [], ◌∷◌}
use mathlib.Core.Path.{◌≡◌, refl, sym, ap, ap₂, subst, ◌∙◌}
use Prim.Native.Nat.{ℕ, zero, suc, ◌+◌, ◌*◌, ◌^◌, ◌<◌}
use native.Mathlib.Omega.{arith}
use lib.Dec.{leb, eqb, ltb, lit<}
use lib.ListN.{length, get_or, set}
use lib.Seq.{get_or-set_same, get_or-set_other, set-get_or}
use lib.Bits.{bit_and}
use borrow.Author.Tests.{eqb-true, eq-eqb, ltb-true}
use Rattle.layout.specs.declared.xlen.Xlen.{Xlen}
use Rattle.layout.specs.declared.xlen.Xlen.TheVariants.{X32, X64}
use Rattle.layout.specs.Width.{bits}
use Rattle.layout.specs.Bits.{span, field}
use Rattle.csr.specs.Csrs.{Csr, Hstatus, Hgeip, Hgeie, Hideleg, Hvip, Hie, Hip, Vsie, Vsip, Hedeleg, Htimedelta, Htimedeltah, Hcounteren, Henvcfg, Henvcfgh, Htval, Htinst, Hgatp, Vsstatus, Vstvec, Vsscratch, Vsepc, Vscause, Vstval, Vsatp}
use Rattle.csr.proofs.Table.{same}
use Rattle.hart.specs.Bits.{take_bits}
use Rattle.hart.specs.Legal.{vgein_of, legal_vsstatus}
use Rattle.hart.specs.Stored.{stored_count, held, fresh_csrs}
use Rattle.hart.specs.Registers.{mask_of, written}
use Rattle.hart.specs.WellMade.{leaves}
use Rattle.hart.proofs.BitLaws.{and-twice, and_assoc, and-lt-mask, take_twice, take-lt, take_within, in-word}
use Rattle.hart.proofs.LegalLaws.{Keeps, keeps-lt, keeps-twice, keeps-legal, hstatus-keeps, hgatp-keeps, vstvec-keeps, vsatp-keeps, vsstatus-lt, vsstatus-twice}
use Rattle.hart.proofs.Places.{changes, legal_at}

-- what a write of c changes, as it stands
abbrev old : Csr → List ℕ → ℕ
old c csrs = get_or csrs (changes c) 0

-- what a write of v to c does at width x
pub record Rule (x : Xlen) (c : Csr) (v : ℕ) : Type 0 where
  pub value : List ℕ → ℕ
  pub writes : (csrs : List ℕ) → written x c v csrs ≡ set csrs (changes c) (value csrs)
  pub twice : (csrs : List ℕ) → changes c < length csrs → value (set csrs (changes c) (value csrs)) ≡ value csrs
  pub fits : (csrs : List ℕ) → old c csrs < 2 ^ bits x → value csrs < 2 ^ bits x
  pub legal : (csrs : List ℕ) → legal_at x (changes c) (old c csrs) ≡ true → legal_at x (changes c) (value csrs) ≡ true

-- a mask fits a word
mask_fits : (x : Xlen) (c : Csr) → mask_of x c < 2 ^ bits x
mask_fits X32 c = ltb-true _ _ (same (λ (c : Csr). ltb (mask_of X32 c) (2 ^ 32)) (λ (c : Csr). true) refl c)
mask_fits X64 c = ltb-true _ _ (same (λ (c : Csr). ltb (mask_of X64 c) (2 ^ 64)) (λ (c : Csr). true) refl c)

-- what is stored at a place of a fresh hart stands there
fresh_set : (x : Xlen) (k y : ℕ) → k < stored_count → get_or (set (fresh_csrs x) k y) k 0 ≡ y
fresh_set X32 k y h = get_or-set_same (fresh_csrs X32) k y 0 h
fresh_set X64 k y h = get_or-set_same (fresh_csrs X64) k y 0 h

-- the value y written makes of the place's content o f o y: y is legal there if it makes y of a fresh hart's
abbrev Legally : Xlen → ℕ → (ℕ → ℕ → ℕ) → Type 0
Legally x k f = (y : ℕ) → legal_at x k y ≡ eqb (get_or (set (fresh_csrs x) k (f (get_or (fresh_csrs x) k 0) y)) k 0) y

module _ {x : Xlen} {c : Csr} {v : ℕ} where
  -- nothing
  none : ((csrs : List ℕ) → written x c v csrs ≡ csrs) → Rule x c v
  none w =
      record {
        value = old c;
        writes = λ csrs. w csrs ∙ sym (set-get_or csrs (changes c) 0);
        twice = λ csrs inside. get_or-set_same csrs (changes c) (old c csrs) 0 inside;
        fits = λ csrs e. e;
        legal = λ csrs e. e;
      }

  -- a value made of the place's old content alone
  own : (f : ℕ → ℕ) → ((csrs : List ℕ) → written x c v csrs ≡ set csrs (changes c) (f (old c csrs))) → ((y : ℕ) → f (f y) ≡ f y)
      → ((y : ℕ) → f y < 2 ^ bits x) → ((y : ℕ) → legal_at x (changes c) y ≡ true → legal_at x (changes c) (f y) ≡ true) → Rule x c v
  own f w twice fits legal =
      record {
        value = λ csrs. f (old c csrs);
        writes = w;
        twice = λ csrs inside. ap f (get_or-set_same csrs (changes c) (f (old c csrs)) 0 inside) ∙ twice (old c csrs);
        fits = λ csrs _. fits (old c csrs);
        legal = λ csrs. legal (old c csrs);
      }

  -- the bits of a mask
  bits_of : (m : ℕ) → m < 2 ^ bits x → ((csrs : List ℕ) → written x c v csrs ≡ set csrs (changes c) (bit_and v m)) → Legally x (changes c) (λ _ y. bit_and y m)
      → changes c < stored_count → Rule x c v
  bits_of m fits w l inside =
      own (λ _. bit_and v m) w (λ _. refl) (λ _. and-lt-mask (bits x) v m fits)
      (λ y _. l (bit_and v m) ∙ eq-eqb _ _ (fresh_set x (changes c) (bit_and (bit_and v m) m) inside ∙ and-twice v m))

  -- the bits of the register's own mask
  masked : ((csrs : List ℕ) → written x c v csrs ≡ set csrs (changes c) (bit_and v (mask_of x c))) → Legally x (changes c) (λ _ y. bit_and y (mask_of x c))
      → changes c < stored_count → Rule x c v
  masked = bits_of (mask_of x c) (mask_fits x c)

  -- some bits taken, within the mask m of the register behind; which, may depend on other places
  partly : (m : ℕ) (taken : List ℕ → ℕ) (u : ℕ) → m < 2 ^ 32 → changes c < stored_count
      → ((csrs : List ℕ) → written x c v csrs ≡ set csrs (changes c) (take_bits (taken csrs) u (old c csrs)))
      → Legally x (changes c) (λ _ y. bit_and y m) → ((csrs : List ℕ) (y : ℕ) → taken (set csrs (changes c) y) ≡ taken csrs)
      → ((csrs : List ℕ) → bit_and (taken csrs) m ≡ taken csrs) → Rule x c v
  partly m taken u fits inside w l same within =
      record {
        value = value;
        writes = w;
        twice = λ csrs here. ap₂ (λ (k y : ℕ). take_bits k u y) (same csrs (value csrs)) (get_or-set_same csrs (changes c) (value csrs) 0 here) ∙ take_twice (taken csrs) u (old c csrs);
        fits = λ csrs h. take-lt (bits x) (taken csrs) u (old c csrs) h (rw (← (within csrs)) (and-lt-mask (bits x) (taken csrs) m (in-word x fits)));
        legal = λ csrs e. legally (value csrs) ∙ eq-eqb _ _ (take_within (taken csrs) u (old c csrs) m (eqb-true _ _ (sym (legally (old c csrs)) ∙ e)) (within csrs));
      }
    where
      value : List ℕ → ℕ
      value csrs = take_bits (taken csrs) u (old c csrs)

      legally : (y : ℕ) → legal_at x (changes c) y ≡ eqb (bit_and y m) y
      legally y = l y ∙ ap (λ (z : ℕ). eqb z y) (fresh_set x (changes c) (bit_and y m) inside)

  -- a field taken if it passes a test, else kept
  kept : {n : ℕ} {F : ℕ → ℕ} {g : ℕ → ℕ → ℕ} → Keeps (bits x) n F g → (t : ℕ → Bool) → t (F (old c (fresh_csrs x))) ≡ true → changes c < stored_count
      → ((csrs : List ℕ) → written x c v csrs ≡ set csrs (changes c) (g v (cond (t (F v)) (F v) (F (old c csrs)))))
      → Legally x (changes c) (λ o y. g y (cond (t (F y)) (F y) (F o))) → Rule x c v
  kept {n} {F} {g} K t starts inside w l =
      own _ w (λ y. keeps-twice K t y v) (λ y. keeps-lt K t y v)
      (λ y e. legally _ ∙ eq-eqb _ _ (keeps-legal K t (old c (fresh_csrs x)) starts y v (eqb-true _ _ (sym (legally y) ∙ e))))
    where
      legally : (y : ℕ) → legal_at x (changes c) y ≡ eqb (g y (cond (t (F y)) (F y) (F (old c (fresh_csrs x))))) y
      legally y = l y ∙ ap (λ (z : ℕ). eqb z y) (fresh_set x (changes c) (g y (cond (t (F y)) (F y) (F (old c (fresh_csrs x))))) inside)

-- VGEIN of a fresh hart
vgein-starts : (x : Xlen) → leb (vgein_of (held Hstatus (fresh_csrs x))) 7 ≡ true
vgein-starts X32 = refl
vgein-starts X64 = refl

-- vstvec's mode in a fresh hart
vectoring-starts : (x : Xlen) → leb (field (held Vstvec (fresh_csrs x)) 0 2) 1 ≡ true
vectoring-starts X32 = refl
vectoring-starts X64 = refl

-- the rule of each register
pub rule : (x : Xlen) (c : Csr) (v : ℕ) → Rule x c v
unfolding leaves
rule x Hstatus v = kept (hstatus-keeps x) (λ y. leb y 7) (vgein-starts x) (lit< tt) (λ _. refl) (λ _. refl)
rule x Hgeip v = none (λ _. refl)
rule x Hgeie v = masked (λ _. refl) (λ _. refl) (lit< tt)
rule x Hideleg v = masked (λ _. refl) (λ _. refl) (lit< tt)
rule x Hvip v = masked (λ _. refl) (λ _. refl) (lit< tt)
rule x Hie v = masked (λ _. refl) (λ _. refl) (lit< tt)
rule x Hip v = partly 0x444 (λ csrs. 4) v (lit< tt) (lit< tt) (λ _. refl) (λ _. refl) (λ csrs y. refl) (λ _. refl)
rule x Vsie v =
    partly 0x1444 (λ csrs. bit_and (held Hideleg csrs) 0x444) (bit_and v 0x222 * 2) (lit< tt) (lit< tt) (λ _. refl) (λ _. refl)
    (λ csrs y. ap (λ (z : ℕ). bit_and z 0x444) (get_or-set_other csrs 4 2 y 0 (omega arith))) (λ csrs. and_assoc (held Hideleg csrs) 0x444 0x1444)
rule x Vsip v =
    partly 0x444 (λ csrs. bit_and (held Hideleg csrs) 4) (bit_and v 2 * 2) (lit< tt) (lit< tt) (λ _. refl) (λ _. refl)
    (λ csrs y. ap (λ (z : ℕ). bit_and z 4) (get_or-set_other csrs 3 2 y 0 (omega arith))) (λ csrs. and_assoc (held Hideleg csrs) 4 0x444)
rule x Hedeleg v = masked (λ _. refl) (λ _. refl) (lit< tt)
rule x Htimedelta v = masked (λ _. refl) (λ _. refl) (lit< tt)
rule x Htimedeltah v = masked (λ _. refl) (λ _. refl) (lit< tt)
rule x Hcounteren v = masked (λ _. refl) (λ _. refl) (lit< tt)
rule x Henvcfg v = masked (λ _. refl) (λ _. refl) (lit< tt)
rule x Henvcfgh v = none (λ _. refl)
rule x Htval v = masked (λ _. refl) (λ _. refl) (lit< tt)
rule x Htinst v = masked (λ _. refl) (λ _. refl) (lit< tt)
rule X32 Hgatp v = bits_of (span 31 31 + span 28 22 + span 21 2) (lit< tt) (λ _. refl) (λ _. refl) (lit< tt)
rule X64 Hgatp v = kept hgatp-keeps (λ y. eqb y 0 || eqb y 8) refl (lit< tt) (λ _. refl) (λ _. refl)
rule x Vsstatus v =
    own (λ _. legal_vsstatus x v) (λ _. refl) (λ _. refl) (λ _. vsstatus-lt x v)
    (λ _ _. eq-eqb _ (legal_vsstatus x v) (fresh_set x 12 (legal_vsstatus x (legal_vsstatus x v)) (lit< tt) ∙ vsstatus-twice x v))
rule x Vstvec v = kept (vstvec-keeps x) (λ y. leb y 1) (vectoring-starts x) (lit< tt) (λ _. refl) (λ _. refl)
rule x Vsscratch v = masked (λ _. refl) (λ _. refl) (lit< tt)
rule x Vsepc v = masked (λ _. refl) (λ _. refl) (lit< tt)
rule x Vscause v = masked (λ _. refl) (λ _. refl) (lit< tt)
rule x Vstval v = masked (λ _. refl) (λ _. refl) (lit< tt)
rule X32 Vsatp v = bits_of (span 31 31 + span 30 22 + span 21 0) (lit< tt) (λ _. refl) (λ _. refl) (lit< tt)
rule X64 Vsatp v = kept vsatp-keeps (λ y. eqb y 0 || eqb y 8) refl (lit< tt) (λ _. refl) (λ _. refl)

-- what a list with x at place p holds there, stored there
pub set_back : (l : List ℕ) (p x : ℕ) → set l p (get_or (set l p x) p 0) ≡ set l p x
set_back [] p x = refl
set_back (a ∷ l) zero x = refl
set_back (a ∷ l) (suc p) x = ap (λ (r : List ℕ). a ∷ r) (set_back l p x)

-- what a write leaves at the place that it changes, stored there, is the whole write
pub one_place : (x : Xlen) (c : Csr) (v : ℕ) (csrs : List ℕ) → set csrs (changes c) (get_or (written x c v csrs) (changes c) 0) ≡ written x c v csrs
one_place x c v csrs = rw ((rule x c v).writes csrs) (set_back csrs (changes c) ((rule x c v).value csrs))

-- what holds of each place's content still holds of the list with x at place p, if it then holds there
set_keeps : (P : ℕ → ℕ → Type 0) (l : List ℕ) (p x : ℕ) → (P p (get_or l p 0) → P p x) → (k : ℕ) → P k (get_or l k 0) → P k (get_or (set l p x) k 0)
set_keeps P [] p x f k y = y
set_keeps P (a ∷ l) zero x f zero y = f y
set_keeps P (a ∷ l) zero x f (suc k) y = y
set_keeps P (a ∷ l) (suc p) x f zero y = y
set_keeps P (a ∷ l) (suc p) x f (suc k) y = set_keeps (λ j. P (suc j)) l p x f k y

-- what holds of each place's content still holds after a write, if it holds of the value written
pub write_keeps : (P : ℕ → ℕ → Type 0) (x : Xlen) (c : Csr) (v : ℕ) (csrs : List ℕ) → (P (changes c) (old c csrs) → P (changes c) ((rule x c v).value csrs))
    → (k : ℕ) → P k (get_or csrs k 0) → P k (get_or (written x c v csrs) k 0)
write_keeps P x c v csrs f k y =
    subst (λ (l : List ℕ). P k (get_or l k 0)) (sym ((rule x c v).writes csrs)) (set_keeps P csrs (changes c) ((rule x c v).value csrs) f k y)
