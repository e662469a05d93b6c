-- The code of a request is that of the first test that fails, in 02's order.
use mathlib.Core.Path.{◌≡◌, refl, sym, ap, ◌∙◌}
use mathlib.Core.Bool.{Bool, true, false, cond, not, ◌&&◌, ◌||◌}
use mathlib.Core.List.{List, [], ◌∷◌}
use Prim.Native.Nat.{ℕ, zero, suc, ◌+◌, ◌≤◌}
use native.Mathlib.Nat.{zero-add}
use native.Mathlib.Omega.{arith}
use lib.Dec.{eqb, leb, ltb}
use lib.IntN.{ℤ, pos, neg_ℤ}
use lib.ListN.{length, drop}
use borrow.Author.Tests.{lt-ltb, le-ltb}
use Rattle.layout.specs.declared.xlen.Xlen.{Xlen}
use Rattle.layout.specs.Width.{bytes}
use Rattle.layout.specs.Geometry.{entry_count, page_size}
use Rattle.csr.specs.Csrs.{Csr, number, turn_of, turn_order, find_number, lookup}
use Rattle.hart.specs.WellMade.{fits_word, each_fits}
use Rattle.page.specs.Entries.{entries_from, every_entry, is_pending}
use Rattle.claims.specs.Claims.{Check, first_code, any_of}
use Rattle.std.specs.Prelude.{Ok, Err, Some}
use Rattle.hypervisor.specs.declared.answer.Refusal.TheVariants.{Failed, InvalidParam, Denied}
use Rattle.hypervisor.specs.Answers.{code_of, value_of}
use Rattle.hypervisor.specs.Fences.{max_vmid, max_asid, of_range, good_fence}
use Rattle.hypervisor.specs.Requests.{Request, Register, Hfence, Context, free_from, free, good_register, answer_to}
use Rattle.halves.specs.Claims.{CodeIs, CodesByTheTests}

-- the code of three refusals, one after the other
codes : (a b c : Bool) (v : ℕ) → code_of (cond (not a) (Err Failed) (cond (not b) (Err InvalidParam) (cond (not c) (Err Denied) (Ok v))))
    ≡ cond a (cond b (cond c (pos 0) (neg_ℤ (pos 4))) (neg_ℤ (pos 3))) (neg_ℤ (pos 1))
codes true true true v = refl
codes true true false v = refl
codes true false c v = refl
codes false b c v = refl

-- a value that is 0 where the request is accepted is 0
zero-value : (a b c : Bool) → value_of (cond (not a) (Err Failed) (cond (not b) (Err InvalidParam) (cond (not c) (Err Denied) (Ok 0)))) ≡ 0
zero-value true true true = refl
zero-value true true false = refl
zero-value true false c = refl
zero-value false b c = refl

-- two tests with one code, and six, are one test
both-tests : (a b : Bool) (r n : ℤ) → cond (a && b) r n ≡ cond a (cond b r n) n
both-tests true b r n = refl
both-tests false b r n = refl

six-tests : (a b c d e f : Bool) (r n : ℤ) → cond (a && b && c && d && e && f) r n ≡ cond a (cond b (cond c (cond d (cond e (cond f r n) n) n) n) n) n
six-tests a b c d e f r n =
    both-tests (a && b && c && d && e) f r n ∙ both-tests (a && b && c && d) e (cond f r n) n ∙ both-tests (a && b && c) d (cond e (cond f r n) n) n
    ∙ both-tests (a && b) c (cond d (cond e (cond f r n) n) n) n ∙ both-tests a b (cond c (cond d (cond e (cond f r n) n) n) n) n

-- ---- a register

-- a number that is found is that of one of the registers
found-one : (x : Xlen) (v n : ℕ) (cs : List Csr) → good_register x v (find_number cs n) ≡ (any_of (λ (c : Csr). eqb n (number c)) cs && fits_word x v)
unfolding any_of
found-one x v n [] = refl
found-one x v n (c ∷ cs) = go (eqb n (number c)) (found-one x v n cs)
  where
    go : (b : Bool) → good_register x v (find_number cs n) ≡ (any_of (λ (d : Csr). eqb n (number d)) cs && fits_word x v)
        → good_register x v (cond b (Some (turn_of c)) (find_number cs n)) ≡ ((b || any_of (λ (d : Csr). eqb n (number d)) cs) && fits_word x v)
    go true rest = refl
    go false rest = rest

-- ---- a fence

-- an entry is found exactly if one is not pending
from-any : (x : Xlen) (p : List ℕ) (e n : ℕ) → ltb (free_from x p e n) (e + n) ≡ any_of (λ (d : ℕ). not (is_pending x p d)) (entries_from e n)
unfolding free_from any_of
from-any x p e zero = le-ltb e (e + 0) (omega arith)
from-any x p e (suc n) = go (is_pending x p e) (from-any x p (e + 1) n)
  where
    go : (b : Bool) → ltb (free_from x p (e + 1) n) (e + 1 + n) ≡ any_of (λ (d : ℕ). not (is_pending x p d)) (entries_from (e + 1) n)
        → ltb (cond b (free_from x p (e + 1) n) e) (e + suc n) ≡ (not b || any_of (λ (d : ℕ). not (is_pending x p d)) (entries_from (e + 1) n))
    go true rest = let q : e + suc n ≡ e + 1 + n = omega arith in ap (ltb (free_from x p (e + 1) n)) q ∙ rest
    go false rest = lt-ltb e (e + suc n) (omega arith)

free-any : (x : Xlen) (p : List ℕ) → ltb (free x p) (entry_count (bytes x)) ≡ any_of (λ (d : ℕ). not (is_pending x p d)) (every_entry x)
unfolding free
free-any x p = ap (ltb (free_from x p 0 (entry_count (bytes x)))) (sym (zero-add (entry_count (bytes x)))) ∙ from-any x p 0 (entry_count (bytes x))

pub codes-by-tests : CodesByTheTests
unfolding answer_to good_fence
codes-by-tests x (Register n v) p =
    let page = eqb (length p) (page_size (bytes x)) in
    let good = good_register x v (lookup x n) in
    record {
      code =
          codes page good true 0
          ∙ ap (λ (b : Bool). cond page (cond b (pos 0) (neg_ℤ (pos 3))) (neg_ℤ (pos 1))) (found-one x v n (turn_order x))
          ∙ ap (λ (r : ℤ). cond page r (neg_ℤ (pos 1))) (both-tests (any_of (λ (c : Csr). eqb n (number c)) (turn_order x)) (fits_word x v) (pos 0) (neg_ℤ (pos 3)));
      value = λ _. zero-value page good true;
    }
codes-by-tests x (Hfence a) p =
    let page = eqb (length p) (page_size (bytes x)) in
    record {
      code =
          codes page (good_fence x a) (ltb (free x p) (entry_count (bytes x))) (free x p)
          ∙ ap (λ (b : Bool). cond page (cond (good_fence x a) (cond b (pos 0) (neg_ℤ (pos 4))) (neg_ℤ (pos 3))) (neg_ℤ (pos 1))) (free-any x p)
          ∙ ap (λ (r : ℤ). cond page r (neg_ℤ (pos 1)))
          (six-tests (leb a.kind 7) (leb a.order 127) (leb a.vmid (max_vmid x)) (leb a.asid (max_asid x)) (fits_word x (of_range a a.number))
          (fits_word x (of_range a a.count)) (cond (any_of (λ (d : ℕ). not (is_pending x p d)) (every_entry x)) (pos 0) (neg_ℤ (pos 4))) (neg_ℤ (pos 3)));
      value = λ n. absurd (n a refl);
    }
codes-by-tests x (Context vs) p =
    let page = eqb (length p) (page_size (bytes x)) in
    let good = eqb (length vs) 32 && each_fits x (drop 1 vs) in
    record {
      code =
          codes page good true 0
          ∙ ap (λ (r : ℤ). cond page r (neg_ℤ (pos 1))) (both-tests (eqb (length vs) 32) (each_fits x (drop 1 vs)) (pos 0) (neg_ℤ (pos 3)));
      value = λ _. zero-value page good true;
    }
