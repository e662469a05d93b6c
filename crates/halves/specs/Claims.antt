-- What holds of the hypervisor's half of the page (02, Req 01), and of both halves together. Each claim names a wrong program that it shuts out.
use Rattle.std.specs.Prelude.{◌≡◌, Bool, true, false, ◌&&◌, ◌||◌, ◌≢◌, ℕ, ◌+◌, ◌*◌, ◌%◌, ◌^◌, ◌<◌, ◌≤◌, eqb, leb, ltb, length, get_or, drop, Ok, Err, Option, Some, None}
use mathlib.Core.List.{List, [], ◌∷◌, Memᴰ}
use Rattle.layout.specs.declared.xlen.Xlen.{Xlen}
use Rattle.layout.specs.Width.{bytes}
use Rattle.layout.specs.Bits.{bit_of}
use Rattle.layout.specs.Geometry.{context_at, csr_at, dirty_at, entry_at, entry_count, page_size}
use Rattle.layout.specs.Words.{word_at}
use Rattle.layout.specs.Dirty.{dirty}
use Rattle.csr.specs.Csrs.{Csr, at_turn, lookup}
use Rattle.hart.specs.Features.{has_feature}
use Rattle.fence.specs.Entry.{type_of, order_of, vmid_of, asid_of, readable}
use Rattle.page.specs.Registers.{index, is_dirty, csr_word}
use Rattle.page.specs.Entries.{entry_word, is_pending, fence_at}
use Rattle.world.specs.World.{World, width}
use Rattle.checks.specs.Fids.{fid_set, fid_sret}
use Rattle.checks.specs.Codes.{accepted}
use Rattle.checks.specs.Checks.{call_answer, check7}
use Rattle.sret.specs.Context.{general}
use Rattle.nacl.specs.Calls.{call_left}
use Rattle.claims.specs.Events.{Call, OfTypes, passable, blanks, page_in}
use Rattle.claims.specs.Claims.{first_code}
use Rattle.hypervisor.specs.declared.answer.Refusal.TheVariants.{Denied}
use Rattle.hypervisor.specs.declared.fences.Asked.{Asked}
use Rattle.hypervisor.specs.Answers.{code_of, value_of, is_done}
use Rattle.hypervisor.specs.Fences.{good_fence, of_range, of_vmid, of_asid, fence_asked}
use Rattle.hypervisor.specs.Requests.{Request, Register, Hfence, Context, free, stores, answer_to, left_after, left}
use Rattle.halves.specs.Both.{all_done, filled, BothServe}
use Rattle.halves.specs.Tests.{tests_of}

-- the words that a request is given
abbrev pub words_of : Request → List ℕ
words_of (Register n v) = v ∷ []
words_of (Hfence a) = a.number ∷ a.count ∷ []
words_of (Context vs) = vs

-- they are of 64 bits: the code's types say so
abbrev pub Of64Bits : Request → Type 0
Of64Bits r = (k : ℕ) → get_or (words_of r) k 0 < 2 ^ 64

-- byte j is one of the n from offset o on
abbrev pub among : ℕ → ℕ → ℕ → Bool
among o n j = leb o j && ltb j (o + n)

-- bit k of byte j belongs to the word of the register that is found, or is its bit of the bitmap; where none is found, no bit does
abbrev pub of_register : Xlen → Option ℕ → ℕ → ℕ → Bool
of_register x (Some t) j k =
    among (csr_at (bytes x) (index (at_turn t))) (bytes x) j || (eqb j (dirty_at (index (at_turn t))) && eqb k (index (at_turn t) % 8))
of_register x None j k = false

-- bit k of byte j may change: a register's word and mark; the four words of the lowest entry that is not Pending; the 32 words of the context
abbrev pub may_change : Xlen → Request → List ℕ → ℕ → ℕ → Bool
may_change x (Register n v) p j k = of_register x (lookup x n) j k
may_change x (Hfence a) p j k = among (entry_at (bytes x) (free x p)) (4 * bytes x) j
may_change x (Context vs) p j k = ltb j (32 * bytes x)

-- c is marked, and its word is v
pub record Marked (x : Xlen) (c : Csr) (v : ℕ) (q : List ℕ) : Type 0 where
  pub mark : is_dirty q c ≡ true
  pub word : csr_word x q c ≡ v

-- entry e, the lowest of p that is not Pending, is Pending in q with the fence a: decoded to it, readable, with zero in what its type leaves out
pub record Queued (x : Xlen) (a : Asked) (p q : List ℕ) (e : ℕ) : Type 0 where
  pub entry : e < entry_count (bytes x)
  pub was_free : is_pending x p e ≡ false
  pub lowest : (d : ℕ) → d < e → is_pending x p d ≡ true
  pub pending : is_pending x q e ≡ true
  pub decodes : fence_at x q e ≡ fence_asked a
  pub is-readable : readable x (entry_word x q e 0) (entry_word x q e 2) ≡ true
  pub kind : type_of x (entry_word x q e 0) ≡ a.kind
  pub order : order_of x (entry_word x q e 0) ≡ of_range a a.order
  pub vmid : vmid_of x (entry_word x q e 0) ≡ of_vmid a a.vmid
  pub asid : asid_of x (entry_word x q e 0) ≡ of_asid a a.asid
  pub number : entry_word x q e 1 ≡ of_range a a.number
  pub word-2 : entry_word x q e 2 ≡ 0
  pub count : entry_word x q e 3 ≡ of_range a a.count

-- denied says that every entry is Pending, and where they are so, a good fence on a page is denied
pub record FullIsDenied (x : Xlen) (a : Asked) (p : List ℕ) : Type 0 where
  pub full : answer_to x (Hfence a) p ≡ Err Denied → (e : ℕ) → e < entry_count (bytes x) → is_pending x p e ≡ true
  pub denied : length p ≡ page_size (bytes x) → good_fence x a ≡ true → ((e : ℕ) → e < entry_count (bytes x) → is_pending x p e ≡ true)
      → answer_to x (Hfence a) p ≡ Err Denied

-- the code, and the value
pub record CodeIs (x : Xlen) (r : Request) (p : List ℕ) : Type 0 where
  pub code : code_of (answer_to x r p) ≡ first_code (tests_of x r p)
  pub value : ((a : Asked) → r ≢ Hfence a) → value_of (answer_to x r p) ≡ 0

-- q has X1 to X31 of vs in its context, and zero in word 0
pub record InContext (x : Xlen) (vs q : List ℕ) : Type 0 where
  pub registers : general x q ≡ 0 ∷ drop 1 vs
  pub word-0 : word_at (bytes x) q (context_at (bytes x) 0) ≡ 0

-- The code is that of the first test that fails, in 02's order, and 0 if none does; the value is 0 but for a fence that is queued. Shut out:
-- refusing everything, a limit that is one too low, -4 before -3.
abbrev pub CodesByTheTests : Type 0
CodesByTheTests = (x : Xlen) (r : Request) (p : List ℕ) → CodeIs x r p

-- A refusal changes no byte. Shut out: a word stored before a bad type is found.
abbrev pub RefusalsChangeNothing : Type 0
RefusalsChangeNothing =
    (n : ℕ) (x : Xlen) (r : Request) (p : List ℕ) → is_done (answer_to x r p) ≡ false → (left_after n x r p ≡ p) × (left x r p ≡ p)

-- The page's length stays, and every bit that the request may not change, after any number of its stores. Shut out: a mark that sets the whole
-- byte; a fence that stores into a second entry; a context of 33 words.
abbrev pub OtherBitsStay : Type 0
OtherBitsStay =
    (n : ℕ) (x : Xlen) (r : Request) (p : List ℕ) → (length (left_after n x r p) ≡ length p)
    × ((j k : ℕ) → may_change x r p j k ≡ false → bit_of (get_or (left_after n x r p) j 0) k ≡ bit_of (get_or p j 0) k)

-- As many stores as a request has, or more, leave what the request leaves. Shut out: a fence cut off after four stores that has made three.
abbrev pub AllStoresAreWhole : Type 0
AllStoresAreWhole = (n : ℕ) (x : Xlen) (r : Request) (p : List ℕ) → length (stores x r p) ≤ n → left_after n x r p ≡ left x r p

-- A register whose request is accepted is marked, and its word is the value. Shut out: a mark without the word.
abbrev pub RegistersAreMarked : Type 0
RegistersAreMarked =
    (x : Xlen) (n v t : ℕ) (p : List ℕ) → Of64Bits (Register n v) → lookup x n ≡ Some t → is_done (answer_to x (Register n v) p) ≡ true
    → Marked x (at_turn t) v (left x (Register n v) p)

-- A fence that is accepted is in the entry that is answered, the lowest that was not Pending, which decodes to what was asked and is zero in what
-- its type leaves out. Shut out: an entry taken that is still Pending; a VMID cut to its field; an ASID stored for type 2.
abbrev pub FencesAreQueued : Type 0
FencesAreQueued =
    (x : Xlen) (a : Asked) (p : List ℕ) (e : ℕ) → Of64Bits (Hfence a) → answer_to x (Hfence a) p ≡ Ok e
    → Queued x a p (left x (Hfence a) p) e

-- A fence is denied only where every entry is Pending, and a good one on a page is so wherever they are. Shut out: -4 with an entry free; a full
-- page overwritten.
abbrev pub DeniedWhenFull : Type 0
DeniedWhenFull = (x : Xlen) (a : Asked) (p : List ℕ) → FullIsDenied x a p

-- Before its last store the entry that a fence takes is not Pending. Shut out: Config first.
abbrev pub PendingComesLast : Type 0
PendingComesLast =
    (n : ℕ) (x : Xlen) (a : Asked) (p : List ℕ) (e : ℕ) → answer_to x (Hfence a) p ≡ Ok e → n < 4
    → is_pending x (left_after n x (Hfence a) p) e ≡ false

-- Before its last store a register's request leaves every dirty bit as it was. Shut out: the mark before the word.
abbrev pub MarksComeLast : Type 0
MarksComeLast =
    (n : ℕ) (x : Xlen) (m v : ℕ) (p : List ℕ) (i : ℕ) → n < 2 → i < 1024 → dirty (left_after n x (Register m v) p) i ≡ dirty p i

-- The context of a page that was filled is X1 to X31 as they were given, and word 0 is zero. Shut out: X0 copied; words stored one too far.
abbrev pub ContextIsFilled : Type 0
ContextIsFilled =
    (x : Xlen) (vs p : List ℕ) → Of64Bits (Context vs) → is_done (answer_to x (Context vs) p) ≡ true → InContext x vs (left x (Context vs) p)

-- SRET loads it. Shut out: a context filled at another place than SRET reads.
abbrev pub ContextIsLoaded : Type 0
ContextIsLoaded =
    (eid a0 a1 a2 : ℕ) (w : World) (vs : List ℕ) → check7 w ≡ true → Of64Bits (Context vs)
    → is_done (answer_to (width w) (Context vs) (page_in w w)) ≡ true → OfTypes (filled (Context vs ∷ []) w)
    → accepted (call_answer eid fid_sret a0 a1 a2 (filled (Context vs ∷ []) w)) ≡ true
    → (call_left eid fid_sret a0 a1 a2 (filled (Context vs ∷ []) w)).hart.x ≡ 0 ∷ drop 1 vs

-- On a page that was just set, with features 0 and 1, the registers and fences of any requests that are accepted are served by the two
-- synchronizations; of the context nothing is said. Shut out: a queued fence that the monitor never sees, or decodes to more than was asked.
abbrev pub BothHalvesMeet : Type 0
BothHalvesMeet =
    (eid a0 a1 a2 : ℕ) (w : World) (rs : List Request) → blanks (Call eid fid_set a0 a1 a2) w ≡ true → passable (Call eid fid_set a0 a1 a2) w ≡ true
    → has_feature w.hart.features 0 ≡ true → has_feature w.hart.features 1 ≡ true
    → ((r : Request) → Memᴰ r rs → Of64Bits r)
    → all_done (width w) rs (page_in (call_left eid fid_set a0 a1 a2 w) (call_left eid fid_set a0 a1 a2 w)) ≡ true
    → BothServe eid rs (filled rs (call_left eid fid_set a0 a1 a2 w))

-- Every claim.
pub record Claims : Type 0 where
  pub codes : CodesByTheTests
  pub refusals : RefusalsChangeNothing
  pub other-bits : OtherBitsStay
  pub whole : AllStoresAreWhole
  pub registers : RegistersAreMarked
  pub fences : FencesAreQueued
  pub denied : DeniedWhenFull
  pub last : PendingComesLast
  pub marks : MarksComeLast
  pub context : ContextIsFilled
  pub loaded : ContextIsLoaded
  pub halves : BothHalvesMeet
