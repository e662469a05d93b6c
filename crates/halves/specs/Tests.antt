-- The tests of a request, in 02's order, each with the code of a request that fails it.
use Rattle.std.specs.Prelude.{Bool, not, List, [], ◌∷◌, ◌++◌, ℕ, eqb, leb, ℤ, pos, neg_ℤ, length, drop}
use Rattle.layout.specs.declared.xlen.Xlen.{Xlen}
use Rattle.layout.specs.Width.{bytes}
use Rattle.layout.specs.Geometry.{page_size}
use Rattle.csr.specs.Csrs.{Csr, number, turn_order}
use Rattle.hart.specs.WellMade.{fits_word, each_fits}
use Rattle.page.specs.Entries.{every_entry, is_pending}
use Rattle.claims.specs.Claims.{Check, any_of}
use Rattle.hypervisor.specs.Fences.{max_vmid, max_asid, of_range}
use Rattle.hypervisor.specs.Requests.{Request, Register, Hfence, Context}

-- -3 where the test fails
abbrev pub wants : Bool → Check
wants passes = record { passes = passes; code = neg_ℤ (pos 3) }

-- of a register: the width has one with this number, and the value fits a word; of a fence: its fields are within their limits, and what its type
-- stores as Page_Number and Page_Count fits; of a context: 32 words, of which X1 to X31 fit
abbrev pub param_tests : Xlen → Request → List Check
param_tests x (Register n v) = wants (any_of (λ (c : Csr). eqb n (number c)) (turn_order x)) ∷ wants (fits_word x v) ∷ []
param_tests x (Hfence a) =
    wants (leb a.kind 7) ∷ wants (leb a.order 127) ∷ wants (leb a.vmid (max_vmid x)) ∷ wants (leb a.asid (max_asid x)) ∷
    wants (fits_word x (of_range a a.number)) ∷ wants (fits_word x (of_range a a.count)) ∷ []
param_tests x (Context vs) = wants (eqb (length vs) 32) ∷ wants (each_fits x (drop 1 vs)) ∷ []

-- of a fence: some entry is not pending, else -4
abbrev pub room_tests : Xlen → Request → List ℕ → List Check
room_tests x (Register n v) p = []
room_tests x (Hfence a) p = record { passes = any_of (λ (e : ℕ). not (is_pending x p e)) (every_entry x); code = neg_ℤ (pos 4) } ∷ []
room_tests x (Context vs) p = []

-- the page's length, else -1; the parameters; room
abbrev pub tests_of : Xlen → Request → List ℕ → List Check
tests_of x r p = record { passes = eqb (length p) (page_size (bytes x)); code = neg_ℤ (pos 1) } ∷ (param_tests x r ++ room_tests x r p)
