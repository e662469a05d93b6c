-- A number that no kind has.
use Rattle.std.proofs.Common.{◌≡◌, ℕ, true, false, refl, sym, ◌∙◌, true≢false, Result, Ok, Err, IsOk, arith}
use Rattle.std.proofs.lemmas.Grind.{common_steps}
use Rattle.recording.specs.declared.kinds.Kind.{Kind}
use Rattle.recording.specs.declared.kinds.UnknownKind.{UnknownKind}
use Rattle.recording.specs.declared.kinds.Kind.TheVariants.{Call, Write, Lines, Slot, Trap}
use Rattle.recording.specs.Format.{good_length, is_store}
use Rattle.recording.specs.Kinds.{number, Decodes}

module _ (n : ℕ) (none : (kind : Kind) → number kind ≡ n → ⊥) where
  -- it has no good length
  pub no-length : (m : ℕ) → good_length n m ≡ false
  unfolding good_length
  no-length m =
      let a = none Call in let b = none Write in let c = none Lines in let d = none Slot in let e = none Trap in
      grind (arith, common_steps, a, b, c, d, e)

  -- it is no store's
  pub no-store : is_store n ≡ false
  no-store = let b = none Write in let d = none Slot in grind (arith, common_steps, b, d)

-- a number with a good length is that of a kind
pub decoded : (n m : ℕ) (r : Result Kind UnknownKind) → Decodes n r → good_length n m ≡ true → IsOk r
decoded n m (Ok kind) d g = refl
decoded n m (Err e) d g = absurd (true≢false (sym g ∙ no-length n d.1 m))
