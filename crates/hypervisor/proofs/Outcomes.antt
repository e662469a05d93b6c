-- What a function has shown of its request gives what it promises.
use mathlib.Core.Path.{◌≡◌, sym, ap, ◌∙◌}
use mathlib.Core.Bool.{Bool, true, false, cond, not}
use mathlib.Core.List.{List}
use Prim.Native.Nat.{ℕ, ◌≤◌}
use native.Mathlib.Omega.{arith}
use lib.Dec.{eqb}
use lib.ListN.{length, take}
use borrow.Author.Tests.{eq-eqb, ne_eqb}
use Rattle.layout.specs.declared.xlen.Xlen.{Xlen}
use Rattle.layout.specs.declared.xlen.Xlen.TheVariants.{X32, X64}
use Rattle.layout.specs.Width.{bytes}
use Rattle.layout.specs.Geometry.{page_size}
use Rattle.page.specs.Registers.{IsPage}
use Rattle.std.specs.Prelude.{Ok, Err}
use Rattle.hypervisor.specs.declared.answer.Refusal.TheVariants.{Failed, InvalidParam, Denied}
use Rattle.hypervisor.specs.Answers.{Answer, code_of, value_of, is_done}
use Rattle.hypervisor.specs.Requests.{Request, Register, Hfence, Context, stored_all, stores, good_params, has_room, value_asked, answer_to, AnswerIs, RequestIs, RequestFor}
use Rattle.hypervisor.proofs.Scan.{free-most}
use Rattle.hypervisor.proofs.Answered.{left-done, after-done, left-same, after_same}

module _ (x : Xlen) (r : Request) (p : List ℕ) where
  pub failed : (length p ≡ page_size (bytes x) → ⊥) → Err Failed ≡ answer_to x r p
  unfolding answer_to
  failed n = rw (ne_eqb (length p) (page_size (bytes x)) n)

  pub invalid : IsPage x p → good_params x r ≡ false → Err InvalidParam ≡ answer_to x r p
  unfolding answer_to
  invalid i n = rw (eq-eqb (length p) (page_size (bytes x)) i, n)

  pub denied : IsPage x p → good_params x r ≡ true → has_room x r p ≡ false → Err Denied ≡ answer_to x r p
  unfolding answer_to
  denied i g n = rw (eq-eqb (length p) (page_size (bytes x)) i, g, n)

  pub done : {v : ℕ} → IsPage x p → good_params x r ≡ true → has_room x r p ≡ true → v ≡ value_asked x r p → Ok v ≡ answer_to x r p
  unfolding answer_to
  done i g h v = rw (eq-eqb (length p) (page_size (bytes x)) i, g, h, v)

  answers : {a : Answer} → a ≡ answer_to x r p → AnswerIs x r p a
  answers e = record { same = e; code = ap code_of e; value = ap value_of e }

  module _ {a : Answer} (e : a ≡ answer_to x r p) where
    pub refusal : is_done a ≡ false → RequestIs x r p a p
    refusal n = record { answer = answers e; page = sym (left-same x r p (ap is_done (sym e) ∙ n)) }

    pub refusal-for : (n : ℕ) → is_done a ≡ false → RequestFor n x r p a p
    refusal-for n f = record { answer = answers e; page = sym (after_same x r p n (ap is_done (sym e) ∙ f)) }

    pub outcome : {q : List ℕ} → is_done a ≡ true → q ≡ stored_all x (stores x r p) p → RequestIs x r p a q
    outcome t s = record { answer = answers e; page = s ∙ sym (left-done x r p (ap is_done (sym e) ∙ t)) }

    pub outcome-for : (n : ℕ) {q : List ℕ} → is_done a ≡ true → q ≡ stored_all x (take n (stores x r p)) p → RequestFor n x r p a q
    outcome-for n t s = record { answer = answers e; page = s ∙ sym (after-done x r p n (ap is_done (sym e) ∙ t)) }

-- a value is an entry's number, or 0
pub value-most : (x : Xlen) (r : Request) (p : List ℕ) → value_of (answer_to x r p) ≤ 120
unfolding answer_to
value-most x r p = go (eqb (length p) (page_size (bytes x))) (good_params x r) (has_room x r p)
  where
    few : (x : Xlen) (r : Request) → value_asked x r p ≤ 120
    few x (Register n v) = omega arith
    few X32 (Hfence a) = free-most X32 p
    few X64 (Hfence a) = omega (arith, free-most X64 p)
    few x (Context vs) = omega arith

    go : (a b c : Bool) → value_of (cond (not a) (Err Failed) (cond (not b) (Err InvalidParam) (cond (not c) (Err Denied) (Ok (value_asked x r p))))) ≤ 120
    go true true true = few x r
    go true true false = omega arith
    go true false c = omega arith
    go false b c = omega arith
