-- The records of some bytes: one step of them, what the first one may be, and bytes that come later.
use Rattle.std.proofs.Common.{◌≡◌, ℕ, zero, suc, ◌<◌, ◌≤◌, Bool, true, false, cond, not, ltb, List, length, drop, refl, ap, ◌∙◌, arith, length-drop, ltb-false, le-ltb, lt-ltb}
use Rattle.world.specs.World.{World}
use Rattle.recording.specs.Format.{header_length, good_header, record_length}
use Rattle.replay.specs.Replay.{Fed, following, waiting, spoilt, after, effect_of, line_of, records, through}

-- where the test fails only the second way counts
else-way : {A : Type 0} (t : Bool) (a b b' : A) → (t ≡ false → b ≡ b') → cond t a b ≡ cond t a b'
else-way true a b b' f = refl
else-way false a b b' f = f refl

-- one step, with what the rest gives
step : ℕ → World → List ℕ → Fed → Fed
step n w bytes rest =
    cond (ltb (length bytes) header_length) (waiting n w bytes)
    (cond (not (good_header bytes)) (spoilt n w) (cond (ltb (length bytes) (record_length bytes)) (waiting n w bytes) (after (line_of n w bytes) rest)))

-- the rest counts only where a header was there
step-cong : (n : ℕ) (w : World) (bytes : List ℕ) (f g : Fed) → (header_length ≤ length bytes → f ≡ g) → step n w bytes f ≡ step n w bytes g
unfolding step
step-cong n w bytes f g h =
    else-way (ltb (length bytes) header_length) _ _ _ (λ e.
    else-way (not (good_header bytes)) _ _ _ (λ _.
    else-way (ltb (length bytes) (record_length bytes)) _ _ _ (λ _.
    ap (after (line_of n w bytes)) (h (ltb-false (length bytes) header_length e)))))

-- a bound on the records that is not less than the bytes doesn't count
enough : (k j n : ℕ) (w : World) (bytes : List ℕ) → length bytes ≤ k → length bytes ≤ j → records k n w bytes ≡ records j n w bytes
unfolding records step
enough zero zero n w bytes a b = refl
enough zero (suc j) n w bytes a b = rw (lt-ltb (length bytes) header_length (omega arith))
enough (suc k) zero n w bytes a b = rw (lt-ltb (length bytes) header_length (omega arith))
enough (suc k) (suc j) n w bytes a b =
    step-cong n w bytes _ _ (λ l.
    enough k j (following n) (effect_of w bytes).world (drop (record_length bytes) bytes) (simp length-drop (omega arith)) (simp length-drop (omega arith)))

-- one step, and then the records of what is left
through-step : (n : ℕ) (w : World) (bytes : List ℕ) → through n w bytes
    ≡ step n w bytes (through (following n) (effect_of w bytes).world (drop (record_length bytes) bytes))
unfolding records step
through-step n w bytes =
    enough (length bytes) (suc (length bytes)) n w bytes (omega arith) (omega arith)
    ∙ step-cong n w bytes _ _ (λ l.
    enough (length bytes) (length (drop (record_length bytes) bytes)) (following n) (effect_of w bytes).world (drop (record_length bytes) bytes)
    (simp length-drop (omega arith)) (omega arith))

-- what is there is less than a header
pub through-short : (n : ℕ) (w : World) (bytes : List ℕ) → length bytes < header_length → through n w bytes ≡ waiting n w bytes
unfolding step
through-short n w bytes l = through-step n w bytes ∙ rw (lt-ltb (length bytes) header_length l)

-- a header that is not good
pub through-bad : (n : ℕ) (w : World) (bytes : List ℕ) → header_length ≤ length bytes → good_header bytes ≡ false → through n w bytes ≡ spoilt n w
unfolding step
through-bad n w bytes l g = through-step n w bytes ∙ rw (le-ltb (length bytes) header_length l, g)

-- a good header, and less than its record
pub through-part : (n : ℕ) (w : World) (bytes : List ℕ) → header_length ≤ length bytes → good_header bytes ≡ true → length bytes < record_length bytes
    → through n w bytes ≡ waiting n w bytes
unfolding step
through-part n w bytes l g s = through-step n w bytes ∙ rw (le-ltb (length bytes) header_length l, g, lt-ltb (length bytes) (record_length bytes) s)

-- a whole record
pub through-whole : (n : ℕ) (w : World) (bytes : List ℕ) → good_header bytes ≡ true → record_length bytes ≤ length bytes
    → through n w bytes ≡ after (line_of n w bytes) (through (following n) (effect_of w bytes).world (drop (record_length bytes) bytes))
unfolding step
through-whole n w bytes g s =
    through-step n w bytes
    ∙ rw (le-ltb (length bytes) header_length (omega arith), g, le-ltb (length bytes) (record_length bytes) s)
