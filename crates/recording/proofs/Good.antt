-- What a good length is at least and at most.
use mathlib.Core.Bool.{true, ◌&&◌, and-eq-true_iff}
use mathlib.Core.Path.{◌≡◌, ◌∙◌}
use mathlib.Core.List.{List}
use Prim.Native.Nat.{ℕ, ◌≤◌, ◌<◌}
use native.Mathlib.Omega.{arith}
use Rattle.std.proofs.lemmas.Grind.{common_steps}
use lib.Dec.{ltb}
use borrow.Author.Tests.{ltb-true, lt-ltb, le-ltb}
use Rattle.recording.specs.Format.{header_length, body_length, good_length, good_header, record_length}
use Rattle.recording.specs.Gathering.{partial}

-- a body has 8 to 4,104 bytes
pub good-bounds : (kind n : ℕ) → good_length kind n ≡ true → (8 ≤ n) × (n ≤ 4104)
unfolding good_length
good-bounds kind n e = grind (arith, common_steps)

-- of a partial record with its header there: the header is good, so the record is no longer than the longest, and it is not all there
pub partial-good : (r : List ℕ) (have : ℕ) → header_length ≤ have → partial r have ≡ true → (good_header r ≡ true) × (have < record_length r)
unfolding partial
partial-good r have l e =
    let f : good_header r && ltb have (record_length r) ≡ true = rw (le-ltb have header_length l) at e in
    let p = (and-eq-true_iff (good_header r) (ltb have (record_length r))).0 f in
    (p.0, ltb-true have (record_length r) p.1)

-- what is there is less than a header, or begins with a good one
pub partial-short : (r : List ℕ) (have : ℕ) → have < header_length → partial r have ≡ true
unfolding partial
partial-short r have l = rw (lt-ltb have header_length l)

pub partial-long : (r : List ℕ) (have : ℕ) → header_length ≤ have → good_header r ≡ true → partial r have ≡ ltb have (record_length r)
unfolding partial
partial-long r have l e = rw (le-ltb have header_length l, e)

-- a good header is the beginning of a record
pub partial-header : (r : List ℕ) → good_header r ≡ true → partial r header_length ≡ true
partial-header r e =
    partial-long r header_length (omega arith) e ∙ lt-ltb header_length (record_length r) (omega (arith, good-bounds _ _ e))

-- what an addition of a body's length needs
pub bounds : (r : List ℕ) → good_header r ≡ true → (8 ≤ body_length r) × (body_length r ≤ 4104)
bounds r e = good-bounds _ _ e
