-- Whatever the cuts, state and lines are those of the whole recording.
use mathlib.Core.Path.{◌≡◌, refl, sym, ap, ◌∙◌}
use mathlib.Core.List.{List, [], ◌∷◌, ◌++◌, append_assoc, append-nil}
use Prim.Native.Nat.{ℕ}
use Rattle.replay.specs.Replay.{State, Fed, started, after, records, fed, ending}
use Rattle.replay.proofs.Cuts.{then, fed-parts}
use Rattle.replayed.specs.Claims.{joined, fed_all, CutsDoNotCount, PrintedInParts, BeginsFresh}

-- lines before lines
after-after : (k l : List ℕ) (f : Fed) → after k (after l f) ≡ after (k ++ l) f
after-after k l f = ap (λ (m : List ℕ). record { state = f.state; lines = m }) (sym (append_assoc k l f.lines))

-- a part, and then the others
in_parts : (ps : List (List ℕ)) (s : State) (p : List ℕ) → after (fed s p).lines (fed_all (fed s p).state ps) ≡ fed s (p ++ joined ps)
in_parts [] s p =
    ap (λ (m : List ℕ). record { state = (fed s p).state; lines = m }) (append-nil (fed s p).lines) ∙ ap (fed s) (sym (append-nil p))
in_parts (q ∷ qs) s p =
    after-after (fed s p).lines (fed (fed s p).state q).lines (fed_all (fed (fed s p).state q).state qs)
    ∙ ap (λ (f : Fed). after f.lines (fed_all f.state qs)) (sym (fed-parts s p q))
    ∙ in_parts qs s (p ++ q) ∙ ap (fed s) (append_assoc p q (joined qs))

pub cuts-do-not-count : CutsDoNotCount
unfolding fed records
cuts-do-not-count [] = refl
cuts-do-not-count (p ∷ ps) = in_parts ps started p

pub printed-in-parts : PrintedInParts
printed-in-parts parts = ap (λ (f : Fed). f.lines ++ ending f.state) (cuts-do-not-count parts)

pub begins-fresh : BeginsFresh
begins-fresh pending = refl
