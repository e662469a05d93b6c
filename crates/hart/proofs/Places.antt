-- The 20 places of the stored registers: which register each belongs to, which a write changes, and what it may hold.
use mathlib.Core.Bool.{Bool, cond}
use mathlib.Core.List.{[], ◌∷◌}
use mathlib.Core.Path.{◌≡◌, refl}
use Prim.Native.Nat.{ℕ, ◌<◌}
use lib.Dec.{ltb, ltb→lt}
use lib.ListN.{get_or}
use borrow.Author.Tests.{lt-ltb}
use Rattle.layout.specs.declared.xlen.Xlen.{Xlen}
use Rattle.csr.specs.Csrs.{Csr, turn_of, nth}
use Rattle.csr.proofs.Table.{same}
use Rattle.hart.specs.Stored.{stored_count, stored, place_of}
use Rattle.hart.specs.WellMade.{leaves}
use Rattle.hart.proofs.Tests.{upto-at}

-- the register is stored: it has a place of its own
abbrev pub Stored : Csr → Type 0
Stored c = place_of c < stored_count

-- a stored register stands at its place
pub stored_at : (c : Csr) → Stored c → nth stored (place_of c) ≡ c
stored_at c h =
    simp (lt-ltb (place_of c) stored_count h) at (same (λ c. cond (ltb (place_of c) stored_count) (nth stored (place_of c)) c) (λ c. c) refl c)

-- at each place stands a stored register
pub nth-stored : (k : ℕ) → k < stored_count → Stored (nth stored k)
nth-stored k h = ltb→lt _ _ (upto-at (λ k. ltb (place_of (nth stored k)) stored_count) stored_count tt k h)

-- the place that a write of the register changes: hvip's for hip and vsip, hie's for vsie, and the one behind the last for hgeip and henvcfgh, which
-- change none
abbrev pub changes : Csr → ℕ
changes c =
    get_or (0 ∷ 20 ∷ 1 ∷ 2 ∷ 3 ∷ 4 ∷ 3 ∷ 4 ∷ 3 ∷ 5 ∷ 6 ∷ 19 ∷ 7 ∷ 8 ∷ 20 ∷ 9 ∷ 10 ∷ 11 ∷ 12 ∷ 13 ∷ 14 ∷ 15 ∷ 16 ∷ 17 ∷ 18 ∷ []) (turn_of c) 0

-- place k may hold v: a write of v to its register leaves v there in a fresh hart
abbrev pub legal_at : Xlen → ℕ → ℕ → Bool
legal_at x k v = leaves x (nth stored k) v
