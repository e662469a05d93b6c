-- Text put into a buffer piece by piece is the pieces joined.
use mathlib.Core.Path.{◌≡◌, refl, ◌∙◌}
use mathlib.Core.List.{List, [], ◌++◌}
use Prim.Native.Nat.{ℕ}
use Rattle.text.specs.Buffer.{Wrote, Put}
use Rattle.text.specs.declared.Buffer.{Buffer}
use Rattle.text.proofs.Writing as w

-- nothing put
pub put-nothing : {A : Type 0} (b : Buffer A) → Put b [] b
put-nothing b = record { same = refl; wrote = w.wrote_nothing b.out.now b.at }

infixl 60 ◌then◌
-- one text, and another after it
pub ◌then◌ : {A : Type 0} {b c d : Buffer A} {s t : List A} → Put b s c → Put c t d → Put b (s ++ t) d
p then q = record { same = q.same ∙ p.same; wrote = w.◌then◌ p.wrote q.wrote }

-- what is put into a buffer that is at this place of this lent slice
pub put-at : {A : Type 0} {b c : Buffer A} {d s : List A} {at : ℕ} → b.out.now ≡ d → b.at ≡ at → Put b s c → Wrote d at s c.out.now c.at
put-at {c = c} {s = s} p q w = rw (← p, ← q) w.wrote
