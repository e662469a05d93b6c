-- For the contracts of inner functions: an entry as plain numbers that a slot is compared with, and the parts of the pass.
use Rattle.std.specs.Prelude.{◌≡◌, Bool, true, cond, ◌&&◌, List, ℕ, zero, suc, ◌+◌, ◌*◌, ◌^◌, ◌<◌, ◌≤◌, leb, ltb}
use Rattle.std.specs.List.{All, Any, list_any}
use Rattle.layout.specs.Bits.{field}
use Rattle.layout.specs.declared.xlen.Xlen.{Xlen}
use Rattle.layout.specs.Width.{bytes}
use Rattle.layout.specs.Geometry.{entry_count}
use Rattle.fence.specs.declared.entry.Fence.{Fence}
use Rattle.fence.specs.declared.entry.Target.{Target}
use Rattle.fence.specs.declared.entry.Target.TheVariants.{AnyVmid, OneVmid, VmidAsid}
use Rattle.fence.specs.declared.entry.Range.{Range}
use Rattle.fence.specs.Slots.{slot_asid, slot_vmid, slot_word, used}
use Rattle.fence.specs.Names.{aimed_at, in_range, names}
use Rattle.page.specs.Entries.{is_pending, fence_at, clear_entry}
use Rattle.pass.specs.declared.bounds.Page.{Page}
use Rattle.pass.specs.declared.bounds.Page.TheVariants.{Virtual, Physical}
use Rattle.pass.specs.declared.bounds.Test.{Test}
use Rattle.pass.specs.declared.bounds.Span.{Span}

-- VMID, ASID and the global bit of a slot's word 0, in this order, as one number
abbrev pub who : ℕ → ℕ
who word0 = slot_vmid word0 * 2 ^ 17 + slot_asid word0 * 2 + field word0 62 1

-- from low to last, both included
abbrev pub within : ℕ → ℕ → ℕ → Bool
within low last v = leb low v && leb v last

-- the span has the pages of the range
abbrev pub SpanOf : Range → Span → Type 0
SpanOf r s = (p : ℕ) → p < 2 ^ 64 → within s.low s.last p ≡ in_range r p

-- the span has the number of a slot exactly if the slot is aimed at
abbrev pub WhoOf : Target → Span → Type 0
WhoOf t s = (word0 : ℕ) → within s.low s.last (who word0) ≡ aimed_at t word0

-- VMID has no more than a slot's 14 bits, and ASID no more than its 16
abbrev pub target_fits : Target → Bool
target_fits AnyVmid = true
target_fits (OneVmid vmid) = ltb vmid (2 ^ 14)
target_fits (VmidAsid vmid asid) = ltb vmid (2 ^ 14) && ltb asid (2 ^ 16)

-- the page of a slot that is asked for, its word 1 or its word 2
abbrev pub page_in : Page → ℕ → ℕ → ℕ
page_in Virtual word1 word2 = word1
page_in Physical word1 word2 = word2

-- a slot passes the test: the page that is asked for, and its VMID, ASID and global bit as one number
abbrev pub passes_by : Test → ℕ → ℕ → ℕ → Bool
passes_by t whose word1 word2 = within t.pages.low t.pages.last (page_in t.page word1 word2) && within t.who.low t.who.last whose

-- the same, by the slot's words
abbrev pub passes : Test → ℕ → ℕ → ℕ → Bool
passes t word0 word1 word2 = passes_by t (who word0) word1 word2

-- the test of an entry: a used slot passes it exactly if the entry names it
pub record TestOf (f : Fence) (t : Test) : Type 0 where
  pub names : (word0 word1 word2 : ℕ) → word1 < 2 ^ 64 → word2 < 2 ^ 64 → used word0 ≡ true → passes t word0 word1 word2 ≡ names f word0 word1 word2

-- the test is of a pending entry below entry e
abbrev pub IsOfPending : Xlen → List ℕ → ℕ → Test → Type 0
IsOfPending x page e t = (d : ℕ) × (d < e) × (is_pending x page d ≡ true) × TestOf (fence_at x page d) t

-- the tests are of pending entries below entry e, and each of these has one
pub record Gathered (x : Xlen) (page : List ℕ) (e : ℕ) (ts : List Test) : Type 0 where
  pub pending : All (IsOfPending x page e) ts
  pub counted : (d : ℕ) → d < e → is_pending x page d ≡ true → Any (TestOf (fence_at x page d)) ts

-- a slot passes one of the tests
abbrev pub passes_any_by : List Test → ℕ → ℕ → ℕ → Bool
passes_any_by ts whose word1 word2 = list_any (λ (t : Test). passes_by t whose word1 word2) ts

-- the same, by the slot's words
abbrev pub passes_any : List Test → ℕ → ℕ → ℕ → Bool
passes_any ts word0 word1 word2 = passes_any_by ts (who word0) word1 word2

-- slot i is used and passes one of the tests
abbrev pub named_by : List Test → List ℕ → ℕ → Bool
named_by ts t i = used (slot_word t i 0) && passes_any ts (slot_word t i 0) (slot_word t i 1) (slot_word t i 2)

-- what the tests ask of VMID, ASID and the global bit lies in the span
abbrev pub Around : List Test → Span → Type 0
Around ts s = All (λ (t : Test). (s.low ≤ t.who.low) × (t.who.last ≤ s.last)) ts

-- the page with Pending of the entries below e cleared, one after the other
unfoldable pub cleared_to : Xlen → ℕ → List ℕ → List ℕ
cleared_to x zero page = page
cleared_to x (suc e) page = cond (is_pending x (cleared_to x e page) e) (clear_entry x e (cleared_to x e page)) (cleared_to x e page)

-- how many these are
unfoldable pub cleared_count : Xlen → ℕ → List ℕ → ℕ
cleared_count x zero page = 0
cleared_count x (suc e) page = cleared_count x e page + cond (is_pending x (cleared_to x e page) e) 1 0

-- entry e is pending, and no other
pub record OnlyPending (x : Xlen) (page : List ℕ) (e : ℕ) : Type 0 where
  pub below : e < entry_count (bytes x)
  pub pending : is_pending x page e ≡ true
  pub others : (k : ℕ) → k < entry_count (bytes x) → is_pending x page k ≡ true → k ≡ e
