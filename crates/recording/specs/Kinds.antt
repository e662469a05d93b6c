-- The kinds of records, and the numbers by which headers give them.
use Rattle.std.specs.Prelude.{◌≡◌, ℕ, Result, MatchResult}
use Rattle.recording.specs.declared.kinds.Kind.{Kind}
use Rattle.recording.specs.declared.kinds.Kind.TheVariants.{Call, Write, Lines, Slot, Trap}
use Rattle.recording.specs.declared.kinds.UnknownKind.{UnknownKind}

-- the number of a kind
abbrev pub number : Kind → ℕ
number Call = 1
number Write = 2
number Lines = 3
number Slot = 4
number Trap = 5

-- the result is the kind with this number, or the number, which no kind has
abbrev pub Decodes : ℕ → Result Kind UnknownKind → Type 0
Decodes n r = MatchResult r (λ kind. number kind ≡ n) (λ e. (e.0 ≡ n) × ((kind : Kind) → number kind ≡ n → ⊥))
