-- The hypervisor's requests on a page (02, Req 01): what each is answered and what it stores, in order.
use Rattle.std.specs.Prelude.{◌≡◌, Bool, true, false, cond, not, ◌&&◌, List, [], ◌∷◌, ℕ, zero, suc, ◌+◌, ◌*◌, eqb, ltb, ◌<◌, length, take, drop, Option, MatchOption, Ok, Err, Some, None}
use Rattle.layout.specs.declared.xlen.Xlen.{Xlen}
use Rattle.layout.specs.Width.{bytes}
use Rattle.layout.specs.Geometry.{context_at, csr_at, entry_at, entry_count, page_size}
use Rattle.layout.specs.Words.{put_word}
use Rattle.layout.specs.Dirty.{set_dirty}
use Rattle.csr.specs.Csrs.{at_turn, lookup}
use Rattle.hart.specs.WellMade.{fits_word, each_fits}
use Rattle.page.specs.Registers.{index}
use Rattle.page.specs.Entries.{is_pending}
use Rattle.hypervisor.specs.declared.answer.Refusal.TheVariants.{Failed, InvalidParam, Denied}
use Rattle.hypervisor.specs.declared.fences.Asked.{Asked}
use Rattle.hypervisor.specs.Answers.{Answer, code_of, value_of, is_done}
use Rattle.hypervisor.specs.Fences.{good_fence, of_range, config_of}

-- to write a register, by its CSR number, with a value; to queue a fence; to fill the SRET context from 32 words, X0 to X31, of
-- which X0 is not looked at
pub data Request : Type 0 where
  Register : ℕ → ℕ → Request
  Hfence : Asked → Request
  Context : List ℕ → Request

-- one store: a word at an offset, or the dirty bit of an index
pub data Store : Type 0 where
  Word : ℕ → ℕ → Store
  Mark : ℕ → Store

-- the page after a store
abbrev pub stored : Xlen → Store → List ℕ → List ℕ
stored x (Word o v) p = put_word (bytes x) p o v
stored x (Mark i) p = set_dirty p i

-- the page after these, one after the other
unfoldable pub stored_all : Xlen → List Store → List ℕ → List ℕ
stored_all x [] p = p
stored_all x (s ∷ ss) p = stored_all x ss (stored x s p)

-- the register's word, and then its mark
abbrev pub register_stores : Xlen → ℕ → Option ℕ → List Store
register_stores x v (Some t) = Word (csr_at (bytes x) (index (at_turn t))) v ∷ Mark (index (at_turn t)) ∷ []
register_stores x v None = []

-- the first of n entries from e on that is not Pending, or the one after them
unfoldable pub free_from : Xlen → List ℕ → ℕ → ℕ → ℕ
free_from x p e zero = e
free_from x p e (suc n) = cond (is_pending x p e) (free_from x p (e + 1) n) e

-- the lowest entry with Pending clear; the number of entries if there is none
unfoldable pub free : Xlen → List ℕ → ℕ
free x p = free_from x p 0 (entry_count (bytes x))

-- an entry that was found is that one; none is found where there is none
abbrev pub FreeIs : Xlen → List ℕ → Option ℕ → Type 0
FreeIs x p found =
    MatchOption found (free x p ≡ entry_count (bytes x)) (λ e. (e ≡ free x p) × (e < entry_count (bytes x)))

-- entry e's words: Page_Number, Page_Count, zero in word 2, and Config last
unfoldable pub entry_stores : Xlen → Asked → ℕ → List Store
entry_stores x a e =
    Word (entry_at (bytes x) e + bytes x * 1) (of_range a a.number) ∷ Word (entry_at (bytes x) e + bytes x * 3) (of_range a a.count) ∷
    Word (entry_at (bytes x) e + bytes x * 2) 0 ∷ Word (entry_at (bytes x) e) (config_of x a) ∷ []

-- words of the context, from word i on
unfoldable pub context_stores : Xlen → ℕ → List ℕ → List Store
context_stores x i [] = []
context_stores x i (v ∷ vs) = Word (context_at (bytes x) i) v ∷ context_stores x (i + 1) vs

-- what an accepted request stores, in order
unfoldable pub stores : Xlen → Request → List ℕ → List Store
stores x (Register n v) p = register_stores x v (lookup x n)
stores x (Hfence a) p = entry_stores x a (free x p)
stores x (Context vs) p = context_stores x 0 (0 ∷ drop 1 vs)

-- the register is implemented, and the value fits a word
abbrev pub good_register : Xlen → ℕ → Option ℕ → Bool
good_register x v (Some t) = fits_word x v
good_register x v None = false

-- the parameters are good: a register is implemented and its value fits; a fence is good; a context has 32 words, of which X1 to X31 fit
abbrev pub good_params : Xlen → Request → Bool
good_params x (Register n v) = good_register x v (lookup x n)
good_params x (Hfence a) = good_fence x a
good_params x (Context vs) = eqb (length vs) 32 && each_fits x (drop 1 vs)

-- there is room: not all entries are pending, for a fence
abbrev pub has_room : Xlen → Request → List ℕ → Bool
has_room x (Register n v) p = true
has_room x (Hfence a) p = ltb (free x p) (entry_count (bytes x))
has_room x (Context vs) p = true

-- the value: of a fence its entry's number
abbrev pub value_asked : Xlen → Request → List ℕ → ℕ
value_asked x (Register n v) p = 0
value_asked x (Hfence a) p = free x p
value_asked x (Context vs) p = 0

-- what a request is answered: -1 for a page of another length, -3 for a bad parameter, -4 where there is no room
unfoldable pub answer_to : Xlen → Request → List ℕ → Answer
answer_to x r p =
    cond (not (eqb (length p) (page_size (bytes x)))) (Err Failed)
    (cond (not (good_params x r)) (Err InvalidParam) (cond (not (has_room x r p)) (Err Denied) (Ok (value_asked x r p))))

-- the page after the first n stores of a request; a refusal stores nothing
unfoldable pub left_after : ℕ → Xlen → Request → List ℕ → List ℕ
left_after n x r p = cond (is_done (answer_to x r p)) (stored_all x (take n (stores x r p)) p) p

-- the page that a request leaves
unfoldable pub left : Xlen → Request → List ℕ → List ℕ
left x r p = cond (is_done (answer_to x r p)) (stored_all x (stores x r p) p) p

-- the answer a is the request's, with its code and value
pub record AnswerIs (x : Xlen) (r : Request) (p : List ℕ) (a : Answer) : Type 0 where
  pub same : a ≡ answer_to x r p
  pub code : code_of a ≡ code_of (answer_to x r p)
  pub value : value_of a ≡ value_of (answer_to x r p)

-- the request r on the page p is answered a and leaves q
pub record RequestIs (x : Xlen) (r : Request) (p : List ℕ) (a : Answer) (q : List ℕ) : Type 0 where
  pub answer : AnswerIs x r p a
  pub page : q ≡ left x r p

-- the same of its first n stores
pub record RequestFor (n : ℕ) (x : Xlen) (r : Request) (p : List ℕ) (a : Answer) (q : List ℕ) : Type 0 where
  pub answer : AnswerIs x r p a
  pub page : q ≡ left_after n x r p
