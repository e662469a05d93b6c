-- The sample tickets on fences (01, "Sample tickets"), one list of what is computed and what the paper gives.
use Prim.Native.Nat.{ℕ, ◌+◌, ◌-◌, ◌*◌, ◌^◌}
use mathlib.Core.Bool.{cond}
use mathlib.Core.List.{List, [], ◌∷◌, map}
use mathlib.Core.Path.{◌≡◌, refl}
use Rattle.layout.specs.declared.xlen.Xlen.TheVariants.{X64}
use Rattle.fence.specs.Entry.{clear_pending, decoded, everything}
use Rattle.fence.specs.Names.{names}
use Rattle.fence.specs.Table.{named, remove_named}

-- what becomes of a slot
abbrev keep : ℕ
keep = 0

abbrev remove : ℕ
remove = 1

-- of used slots with these guest physical pages, under a pending entry of type 0 with this Order, Page_Number and Page_Count
abbrev physical : ℕ → ℕ → ℕ → List ℕ → List ℕ
physical order number count pages =
    map (λ p. cond (names (decoded X64 (0x8000_0000_0000_0000 + order * 2 ^ 48) number 0 count) 0x8000_0000_0000_0000 0 p) remove keep) pages

-- the same of guest virtual pages, under type 4
abbrev virtual : ℕ → ℕ → ℕ → List ℕ → List ℕ
virtual order number count pages =
    map (λ p. cond (names (decoded X64 (0x8400_0000_0000_0000 + order * 2 ^ 48) number 0 count) 0x8000_0000_0000_0000 p 0) remove keep) pages

abbrev pub samples : List (List ℕ × List ℕ)
samples =
    -- T10: Order 9, Page_Number 1, Page_Count 1: pages 512 to 1023; 511 and 1024 stay
    (physical 9 1 1 (511 ∷ 512 ∷ 1023 ∷ 1024 ∷ []), keep ∷ remove ∷ remove ∷ keep ∷ [])
    ∷ (virtual 9 1 1 (511 ∷ 512 ∷ 1023 ∷ 1024 ∷ []), keep ∷ remove ∷ remove ∷ keep ∷ [])
    -- T11: Page_Number 2^64-1, Page_Count 2, Order 0: not page 0
    ∷ (physical 0 (2 ^ 64 - 1) 2 (0 ∷ []), keep ∷ [])
    ∷ (virtual 0 (2 ^ 64 - 1) 2 (0 ∷ []), keep ∷ [])
    -- T12: Config 0x8200000000050000 becomes 0x0200000000050000
    ∷ (clear_pending X64 0x8200_0000_0005_0000 ∷ [], 0x0200_0000_0005_0000 ∷ [])
    -- Page_Count 0 names nothing
    ∷ (physical 0 5 0 (4 ∷ 5 ∷ 6 ∷ []), keep ∷ keep ∷ keep ∷ [])
    ∷ (virtual 127 0 0 (0 ∷ []), keep ∷ [])
    -- no slots
    ∷ (named everything [], [])
    ∷ (remove_named everything [], [])
    ∷ []

pub samples-hold : map (λ s. s.0) samples ≡ map (λ s. s.1) samples
samples-hold = refl
