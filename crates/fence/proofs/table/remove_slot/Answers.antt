-- `remove_slot` meets its contract: a slice of four zeroes is four zero words.
use Rattle.std.proofs.Common.{◌≡◌, ℕ, zero, suc, ◌+◌, ◌*◌, ◌-◌, ◌≤◌, List, [], ◌∷◌, length, take, drop, set, refl, ap, arith}
use Rattle.std.proofs.lemmas.List.{length-take-le, length-drop}
use borrow.Rule.Slice.PartMut.{put_mid}
use Rattle.fence.proofs.table.remove_slot.Goals as goal

-- four zeroes from place p on
four : (t : List ℕ) (p : ℕ) → p + 4 ≤ length t → put_mid p 4 t (0 ∷ 0 ∷ 0 ∷ 0 ∷ []) ≡ set (set (set (set t p 0) (p + 1) 0) (p + 2) 0) (p + 3) 0
four [] p h = absurd (omega arith)
four (a ∷ []) zero h = absurd (omega arith)
four (a ∷ b ∷ []) zero h = absurd (omega arith)
four (a ∷ b ∷ c ∷ []) zero h = absurd (omega arith)
four (a ∷ b ∷ c ∷ d ∷ t) zero h = refl
four (a ∷ t) (suc q) h =
    let e1 : suc q + 1 ≡ suc (q + 1) = omega arith in
    let e2 : suc q + 2 ≡ suc (q + 2) = omega arith in
    let e3 : suc q + 3 ≡ suc (q + 3) = omega arith in
    rw (e1, e2, e3) (ap (λ (r : List ℕ). a ∷ r) (four t q (omega arith)))

pub returns : goal.returns
returns c = let at = 4 * c.args.i in
    let t = c.args.table.now in
    let n : at + 4 - at ≡ 4 = omega arith in
    let k : length (take (at + 4 - at) (drop at t)) ≡ 4 = rw n (omega (arith, length-take-le 4 (drop at t) (omega (arith, length-drop at t)))) in
    rw (c.fill.ensures.after (λ y e. e), k, n) (four t at c.requires)
