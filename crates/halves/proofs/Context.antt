-- A context that was filled is X1 to X31 as they were given, and word 0 is zero.
use mathlib.Core.Path.{◌≡◌, refl, sym, subst}
use mathlib.Core.Bool.{true, and-eq-true_iff}
use mathlib.Core.List.{List, ◌∷◌}
use Prim.Native.Nat.{ℕ, zero, suc, ◌+◌, ◌^◌, ◌<◌}
use native.Mathlib.Nat.{zero-add}
use native.Mathlib.Omega.{arith}
use lib.Dec.{eqb}
use lib.ListN.{length, get_or, drop, length-drop}
use lib.Seq.{get_or-drop}
use borrow.Author.Tests.{eqb-true}
use Rattle.layout.specs.declared.xlen.Xlen.{Xlen}
use Rattle.layout.specs.Width.{bytes}
use Rattle.layout.specs.Geometry.{context_at}
use Rattle.layout.specs.Words.{word_at}
use Rattle.hart.specs.WellMade.{each_fits}
use Rattle.sret.proofs.ContextLaws.{Loaded, loaded-all}
use Rattle.hypervisor.specs.Answers.{is_done}
use Rattle.hypervisor.specs.Requests.{Context, stored_all, context_stores, stores, good_params, answer_to, left}
use Rattle.hypervisor.proofs.Answered.{Passed, passed, left-done}
use Rattle.hypervisor.proofs.Stores.{word_fits, zero-fits, each_fits_lem}
use Rattle.hypervisor.proofs.Filled.{filled-word}
use Rattle.halves.specs.Claims.{Of64Bits, InContext, ContextIsFilled}

-- the words that are stored: 32
pub words-stored : (x : Xlen) (vs : List ℕ) → good_params x (Context vs) ≡ true → length (0 ∷ drop 1 vs) ≡ 32
words-stored x vs t =
    let n = eqb-true (length vs) 32 ((and-eq-true_iff (eqb (length vs) 32) (each_fits x (drop 1 vs))).0 t).0 in
    omega (arith, n, length-drop 1 vs)

-- they fit
words-fit : (x : Xlen) (vs : List ℕ) → Of64Bits (Context vs) → good_params x (Context vs) ≡ true → (k : ℕ) → get_or (0 ∷ drop 1 vs) k 0 < 256 ^ bytes x
words-fit x vs o t zero = word_fits x 0 (zero-fits x) (omega arith)
words-fit x vs o t (suc k) =
    word_fits x (get_or (drop 1 vs) k 0) (each_fits_lem x (drop 1 vs) k ((and-eq-true_iff (eqb (length vs) 32) (each_fits x (drop 1 vs))).0 t).1)
    (omega (arith, get_or-drop 1 vs k 0, o (1 + k)))

-- what an accepted request leaves
pub stores-filled : (x : Xlen) (vs p : List ℕ) → is_done (answer_to x (Context vs) p) ≡ true → left x (Context vs) p ≡ stored_all x (context_stores x 0 (0 ∷ drop 1 vs)) p
unfolding stores
stores-filled x vs p d = left-done x (Context vs) p d

pub context-filled : ContextIsFilled
context-filled x vs p o d =
    subst (InContext x vs) (sym (stores-filled x vs p d))
    (record { registers = sym (loaded-all x q (0 ∷ drop 1 vs) 32 (omega arith) loaded); word-0 = word 0 (omega arith) })
  where
    q : List ℕ
    q = stored_all x (context_stores x 0 (0 ∷ drop 1 vs)) p

    a : Passed x (Context vs) p
    a = passed x (Context vs) p d

    size : length (0 ∷ drop 1 vs) ≡ 32
    size = words-stored x vs a.good

    word : (k : ℕ) → k < 32 → word_at (bytes x) q (context_at (bytes x) k) ≡ get_or (0 ∷ drop 1 vs) k 0
    word k h = let n = size in rw (zero-add k) at (filled-word x 0 (0 ∷ drop 1 vs) p k (omega arith) a.page (words-fit x vs o a.good) (omega arith))

    loaded : Loaded x q (0 ∷ drop 1 vs) 32
    loaded = record { some = omega arith; most = omega arith; size = size; zeroth = refl; words = λ k f h. sym (word k h) }
