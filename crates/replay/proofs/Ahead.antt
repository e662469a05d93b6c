-- A memory write or a slot that is whole in the part, carried out straight from there.
use Rattle.std.proofs.Common.{◌≡◌, ℕ, ◌+◌, ◌≤◌, true, ◌&&◌, eqb, leb, List, [], length, sym, refl, ap, arith, eqb-true, leb-true}
use mathlib.Core.Bool.{and-eq-true_iff}
use Rattle.text.specs.Buffer.{Put}
use Rattle.text.specs.declared.Buffer.{Buffer}
use Rattle.hart.specs.declared.record.Hart.{Hart}
use Rattle.world.specs.World.{lent}
use Rattle.checks.specs.Codes.{Answer}
use Rattle.recording.specs.Format.{header_length, longest, kind_of, good_header, record_length, whole_in, is_store}
use Rattle.apply.specs.Effects.{memory_base, Effect, plain}
use Rattle.replay.specs.Lines.{line}
use Rattle.replay.specs.Replay.{following, effect_of, fed}
use Rattle.replay.specs.Code.{longest_line}
use Rattle.replay.specs.Inner.{Stepped, between, store_ahead}
use Rattle.replay.proofs.Tellings.{told-applied}

-- what the test says
pub record Store (have : ℕ) (part : List ℕ) : Type 0 where
  pub first : have ≡ 0
  pub good : good_header part ≡ true
  pub fits : record_length part ≤ length part
  pub kind : is_store (kind_of part) ≡ true

pub store-parts : (have : ℕ) (part : List ℕ) → store_ahead have part ≡ true → Store have part
unfolding store_ahead whole_in
store-parts have part e =
    let a = (and-eq-true_iff (eqb have 0) (whole_in part && is_store (kind_of part))).0 e in
    let b = (and-eq-true_iff (whole_in part) (is_store (kind_of part))).0 a.1 in
    let c = (and-eq-true_iff (leb header_length (length part)) (good_header part && leb (record_length part) (length part))).0 b.0 in
    let d = (and-eq-true_iff (good_header part) (leb (record_length part) (length part))).0 c.1 in
    record { first = eqb-true have 0 a.0; good = d.0; fits = leb-true (record_length part) (length part) d.1; kind = b.1 }

-- what it leaves is what the part gives
pub stepped-store : (h : Hart) (n : ℕ) {b b' : Buffer ℕ} (memory table pending part memory' table' : List ℕ) (a : Answer) → longest ≤ length pending
    → good_header part ≡ true → record_length part ≤ length part
    → effect_of (lent h memory_base memory table) part ≡ plain a (lent h memory_base memory' table')
    → Put b (line n (kind_of part) a 0 0 []) b' → b'.at ≤ b.at + longest_line
    → Stepped (between h n) memory table pending part b (between h (following n)) (record_length part) memory' table' pending b'
unfolding fed
stepped-store h n memory table pending part memory' table' a room g fits e puts most =
    record {
      some = omega arith;
      within = fits;
      told =
          told-applied h n memory table pending room part (record { answer = a; hart = h; steps = 0; removed = 0; told = 0 }) memory' table'
          (following n) g fits
          (record {
            answer = sym (ap (λ (v : Effect). v.answer) e);
            steps = sym (ap (λ (v : Effect). v.steps) e);
            removed = sym (ap (λ (v : Effect). v.removed) e);
            world = sym (ap (λ (v : Effect). v.world) e);
          })
          refl (rw (ap (λ (v : Effect). v.reports) e) puts) most;
    }

-- a whole record has a header
pub whole_header : (part : List ℕ) → whole_in part ≡ true → header_length ≤ length part
unfolding whole_in
whole_header part e =
    leb-true header_length (length part) ((and-eq-true_iff (leb header_length (length part)) (good_header part && leb (record_length part) (length part))).0 e).0
