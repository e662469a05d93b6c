-- A header is a record's first six bytes: bytes behind them don't count.
use Rattle.std.proofs.Common.{◌≡◌, ℕ, ◌+◌, ◌-◌, ◌<◌, ◌≤◌, List, ◌++◌, length, get_or, take, ap, ap₂, arith, get_or-take}
use lib.ListN.{get_or-append}
use Rattle.layout.proofs.WordLaws.{word-cong}
use Rattle.recording.specs.Format.{header_length, body_length, kind_of, good_length, good_header, record_length}

-- the same length and the same kind
pub record SameHeader (p q : List ℕ) : Type 0 where
  pub length : body_length p ≡ body_length q
  pub kind : kind_of p ≡ kind_of q

pub same-header : (p q : List ℕ) → ((j : ℕ) → j < header_length → get_or p j 0 ≡ get_or q j 0) → SameHeader p q
same-header p q f =
    record { length = word-cong 4 p q 0 0 (λ j b. f (0 + j) (omega arith)); kind = word-cong 2 p q 4 4 (λ j b. f (4 + j) (omega arith)) }

pub same_good : {p q : List ℕ} → SameHeader p q → good_header p ≡ good_header q
same_good h = ap₂ good_length h.kind h.length

pub same_end : {p q : List ℕ} → SameHeader p q → record_length p ≡ record_length q
same_end h = ap (λ (n : ℕ). header_length + n) h.length

-- with others behind it
pub append-header : (p q : List ℕ) → header_length ≤ length p → SameHeader (p ++ q) p
append-header p q l = same-header (p ++ q) p (λ j b. get_or-append p q 0 j (omega arith))

-- the beginning of a buffer
pub take-header : (n : ℕ) (p : List ℕ) → header_length ≤ n → SameHeader (take n p) p
take-header n p l = same-header (take n p) p (λ j b. get_or-take n p j 0 (omega arith))

-- what is behind the first of two lengths is the second
pub plus-less : (a b : ℕ) → a + b - a ≡ b
plus-less a b = omega arith
