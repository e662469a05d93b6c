-- How long the lines are, and the pieces of a record's line.
use Rattle.std.proofs.Common.{◌≡◌, Ok, Err, ℕ, zero, suc, ◌+◌, ◌*◌, ◌<◌, ◌≤◌, List, [], ◌∷◌, ◌++◌, length, get_or, take, drop, sym, refl, ap, ◌∙◌, append_assoc, append-nil, arith, length-append, length-take, take_all, take_at}
use lib.Seq.{take-nil}
use mir.Syntax.{w64}
use mir.Val.{SFits}
use Rattle.text.specs.Ascii.{ascii}
use Rattle.text.specs.Buffer.{Wrote}
use Rattle.text.specs.Numerals.{last_digits, decimal}
use Rattle.text.proofs.Lengths.{length-hex, length-decimal}
use Rattle.text.proofs.Writing.{over-start, wrote-length}
use Rattle.hart.specs.Dropped.{Report, report_words}
use Rattle.checks.specs.declared.answer.Refusal.TheVariants.{Failed, NotSupported, InvalidParam, InvalidAddress, NoShmem}
use Rattle.checks.specs.Codes.{Answer, code_of}
use Rattle.replay.specs.Lines.{signed, pair, pairs, line_start, reports_told, cut_line}
use Rattle.replay.specs.Code.{longest_line}

-- a code has at most two characters
pub length-code : (a : Answer) → length (signed (code_of a)) ≤ 2
unfolding signed last_digits
length-code (Ok s) = omega arith
length-code (Err Failed) = omega arith
length-code (Err NotSupported) = omega arith
length-code (Err InvalidParam) = omega arith
length-code (Err InvalidAddress) = omega arith
length-code (Err NoShmem) = omega arith

-- a code is a number of 64 bits
pub code-fits : (a : Answer) → SFits w64 (code_of a)
code-fits (Ok s) = record { sfits = omega arith }
code-fits (Err Failed) = record { sfits = omega arith }
code-fits (Err NotSupported) = record { sfits = omega arith }
code-fits (Err InvalidParam) = record { sfits = omega arith }
code-fits (Err InvalidAddress) = record { sfits = omega arith }
code-fits (Err NoShmem) = record { sfits = omega arith }

-- ---- the pairs

pub length-pair : (c b : ℕ) → length (pair c b) ≡ 21
unfolding pair
length-pair c b = simp length-append (omega (arith, length-hex 3 c, length-hex 16 b))

length_pairs : (rs : List Report) → length (pairs rs) ≡ 21 * length rs
unfolding pairs
length_pairs [] = refl
length_pairs (r ∷ rs) = simp length-append (omega (arith, length-pair r.csr r.bits, length_pairs rs))

-- two words of each
few-reports : (ws : List ℕ) → 2 * length (reports_told ws) ≤ length ws
unfolding reports_told
few-reports [] = omega arith
few-reports (w ∷ []) = omega arith
few-reports (c ∷ b ∷ ws) = omega (arith, few-reports ws)

-- the pairs of at most 52 words
pub few-pairs : (ws : List ℕ) → length ws ≤ 52 → length (pairs (reports_told ws)) ≤ 546
few-pairs ws le = omega (arith, length_pairs (reports_told ws), few-reports ws)

-- words of reports tell these
words-tell : (rs : List Report) → reports_told (report_words rs) ≡ rs
unfolding reports_told
words-tell [] = refl
words-tell (r ∷ rs) = ap (λ (qs : List Report). r ∷ qs) (words-tell rs)

-- words written at the start of a buffer that has room for 52
module _ {d e : List ℕ} {n : ℕ} (rs : List Report) (le : length (report_words rs) ≤ 52) (room : length d ≡ 52) (w : Wrote d 0 (report_words rs) e n) where
  -- they are there
  pub told-within : n ≤ length e
  told-within = omega (arith, w.place, wrote-length w)

  -- they are not more
  pub told-few : length (take n e) ≤ 52
  told-few = simp length-take (omega (arith, w.place))

  -- and tell the reports
  pub told-tell : reports_told (take n e) ≡ rs
  told-tell = ap reports_told (rw (whole, w.bytes, over-start ws d, take_all (length d) ws fits) (take_at ws (drop (length ws) d) (length ws) refl)) ∙ words-tell rs
    where
      ws : List ℕ
      ws = report_words rs

      whole : n ≡ length ws
      whole = omega (arith, w.place)

      fits : length ws ≤ length d
      fits = omega arith

twice : (i : ℕ) → 2 * suc i ≡ suc (suc (2 * i))
twice i = omega arith

-- the pairs of the first 2i words
abbrev pub first_pairs : ℕ → List ℕ → List ℕ
first_pairs i ws = pairs (reports_told (take (2 * i) ws))

-- no more than i pairs
pub length-first : (i : ℕ) (ws : List ℕ) → length (first_pairs i ws) ≤ 21 * i
length-first i ws =
    let le : length (take (2 * i) ws) ≤ 2 * i = simp length-take (omega arith) in
    omega (arith, length_pairs (reports_told (take (2 * i) ws)), few-reports (take (2 * i) ws))

-- one pair more
pub pairs-more : (i : ℕ) (ws : List ℕ) → 2 * i + 1 < length ws → first_pairs i ws ++ pair (get_or ws (2 * i) 0) (get_or ws (2 * i + 1) 0) ≡ first_pairs (suc i) ws
unfolding pairs reports_told
pairs-more i [] h = absurd (omega arith)
pairs-more i (w ∷ []) h = absurd (omega arith)
pairs-more zero (c ∷ b ∷ ws) h = sym (append-nil (pair c b))
pairs-more (suc i) (c ∷ b ∷ ws) h =
    let e : suc (suc (2 * i)) + 1 ≡ suc (suc (2 * i + 1)) = omega arith in
    rw (twice (suc i), twice i, e)
    (append_assoc (pair c b) (first_pairs i ws) (pair (get_or ws (2 * i) 0) (get_or ws (2 * i + 1) 0))
    ∙ ap (λ (t : List ℕ). pair c b ++ t) (rw (twice i) at (pairs-more i ws (omega arith))))

-- all of them
pub pairs-all : (i : ℕ) (ws : List ℕ) → length ws ≤ 2 * i + 1 → first_pairs i ws ≡ pairs (reports_told ws)
unfolding pairs reports_told
pairs-all i [] h = rw take-nil
pairs-all zero (w ∷ []) h = refl
pairs-all zero (c ∷ b ∷ ws) h = absurd (omega arith)
pairs-all (suc i) (w ∷ []) h = rw (twice i)
pairs-all (suc i) (c ∷ b ∷ ws) h = rw (twice i) (ap (λ (t : List ℕ). pair c b ++ t) (pairs-all i ws (omega arith)))

-- ---- the lines

module _ (n kind : ℕ) (a : Answer) (steps removed : ℕ) where
  -- the pieces as they are put: a space and the number after it are one
  pub start-pieces : decimal n ++ (ascii " " ++ decimal kind) ++ ascii " " ++ signed (code_of a) ++ (ascii " " ++ decimal steps)
      ++ (ascii " " ++ decimal removed) ≡ line_start n kind a steps removed
  unfolding line_start
  start-pieces = simp append_assoc

  pub length-start : length (line_start n kind a steps removed) ≤ 86
  unfolding line_start
  length-start =
      simp length-append
      (omega (arith, length-decimal n, length-decimal kind, length-code a, length-decimal steps, length-decimal removed))

pub length_cut : (n : ℕ) → length (cut_line n) ≤ longest_line
unfolding cut_line
length_cut n = simp length-append (omega (arith, length-decimal n))
