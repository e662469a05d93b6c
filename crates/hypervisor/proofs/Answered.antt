-- What an answer says of the page, the parameters and the room, and what an accepted request leaves.
use mathlib.Core.Path.{◌≡◌, refl, sym, ap, ◌∙◌}
use mathlib.Core.Bool.{Bool, true, false, cond, not, true≢false}
use mathlib.Core.List.{List}
use Prim.Native.Nat.{ℕ}
use native.Mathlib.Omega.{arith}
use lib.Dec.{eqb}
use lib.ListN.{length, take}
use borrow.Author.Tests.{eqb-true, eq-eqb}
use Rattle.layout.specs.declared.xlen.Xlen.{Xlen}
use Rattle.layout.specs.Width.{bytes}
use Rattle.layout.specs.Geometry.{page_size}
use Rattle.page.specs.Registers.{IsPage}
use Rattle.std.specs.Prelude.{Ok, Err}
use Rattle.hypervisor.specs.declared.answer.Refusal.TheVariants.{Failed, InvalidParam, Denied}
use Rattle.hypervisor.specs.Answers.{Answer, value_of, is_done}
use Rattle.hypervisor.specs.Requests.{Request, stored_all, stores, good_params, has_room, value_asked, answer_to, left_after, left}

-- a refusal first, then the rest
guard : (b : Bool) (r y : Answer) → is_done r ≡ false → is_done (cond (not b) r y) ≡ true → (b ≡ true) × (is_done y ≡ true)
guard true r y n t = (refl, t)
guard false r y n t = absurd (true≢false (sym t ∙ n))

-- the three tests that an accepted request passes
pub record Passed (x : Xlen) (r : Request) (p : List ℕ) : Type 0 where
  pub page : IsPage x p
  pub good : good_params x r ≡ true
  pub room : has_room x r p ≡ true

module _ (x : Xlen) (r : Request) (p : List ℕ) where
  pub passed : is_done (answer_to x r p) ≡ true → Passed x r p
  unfolding answer_to
  passed t =
      let (page, t₁) = guard (eqb (length p) (page_size (bytes x))) (Err Failed) _ refl t in
      let (good, t₂) = guard (good_params x r) (Err InvalidParam) _ refl t₁ in
      let (room, t₃) = guard (has_room x r p) (Err Denied) (Ok (value_asked x r p)) refl t₂ in
      record { page = eqb-true (length p) (page_size (bytes x)) page; good = good; room = room }

  -- it is answered with its value
  pub answered : Passed x r p → answer_to x r p ≡ Ok (value_asked x r p)
  unfolding answer_to
  answered q = rw (eq-eqb (length p) (page_size (bytes x)) q.page, q.good, q.room)

  -- the value in the answer is the request's
  pub value-is : {v : ℕ} → answer_to x r p ≡ Ok v → value_asked x r p ≡ v
  value-is {v} e = ap value_of (sym (answered (passed (ap is_done e))) ∙ e)

  -- where the answer is that there is no room, there is none
  pub no_room : answer_to x r p ≡ Err Denied → has_room x r p ≡ false
  unfolding answer_to
  no_room e = go (eqb (length p) (page_size (bytes x))) (good_params x r) (has_room x r p) e
    where
      go : (a b c : Bool) → cond (not a) (Err Failed) (cond (not b) (Err InvalidParam) (cond (not c) (Err Denied) (Ok (value_asked x r p)))) ≡ Err Denied → c ≡ false
      go true true true e = absurd (true≢false (ap is_done e))
      go true true false e = refl
      go true false c e = absurd (let z : ◌≡◌ {A = ℕ} 0 1 = cc in omega arith)
      go false b c e = absurd (let z : ◌≡◌ {A = ℕ} 0 1 = cc in omega arith)

  -- and where there is none for good parameters on a page, that is the answer
  pub refused : IsPage x p → good_params x r ≡ true → has_room x r p ≡ false → answer_to x r p ≡ Err Denied
  unfolding answer_to
  refused g good n = rw (eq-eqb (length p) (page_size (bytes x)) g, good, n)

  -- what an accepted request leaves, and its first n stores
  pub left-done : is_done (answer_to x r p) ≡ true → left x r p ≡ stored_all x (stores x r p) p
  unfolding left
  left-done t = rw t

  pub after-done : (n : ℕ) → is_done (answer_to x r p) ≡ true → left_after n x r p ≡ stored_all x (take n (stores x r p)) p
  unfolding left_after
  after-done n t = rw t

  -- a refused one
  pub left-same : is_done (answer_to x r p) ≡ false → left x r p ≡ p
  unfolding left
  left-same t = rw t

  pub after_same : (n : ℕ) → is_done (answer_to x r p) ≡ false → left_after n x r p ≡ p
  unfolding left_after
  after_same n t = rw t
