-- A fence entry's words in the page, its Pending, and the entry decoded, at the register width x.
use Rattle.std.specs.Prelude.{◌≡◌, Bool, true, false, List, [], ◌∷◌, ℕ, zero, suc, ◌+◌, ◌*◌, ◌≤◌, ◌<◌}
use Rattle.layout.specs.declared.xlen.Xlen.{Xlen}
use Rattle.layout.specs.Width.{bytes}
use Rattle.layout.specs.Geometry.{entry_at, entry_count}
use Rattle.layout.specs.Words.{word_at, put_word}
use Rattle.fence.specs.declared.entry.Fence.{Fence}
use Rattle.fence.specs.Entry.{pending, clear_pending, decoded}

-- the numbers of n entries from entry e on
abbrev pub entries_from : ℕ → ℕ → List ℕ
entries_from e zero = []
entries_from e (suc n) = e ∷ entries_from (e + 1) n

-- the entries of a page, ascending
abbrev pub every_entry : Xlen → List ℕ
every_entry x = entries_from 0 (entry_count (bytes x))

-- word k of entry e
unfoldable pub entry_word : Xlen → List ℕ → ℕ → ℕ → ℕ
entry_word x p e k = word_at (bytes x) p (entry_at (bytes x) e + bytes x * k)

-- entry e is Pending
unfoldable pub is_pending : Xlen → List ℕ → ℕ → Bool
is_pending x p e = pending x (entry_word x p e 0)

-- r is the first pending entry from e on, or `end` if there is none before it
pub record NextPending (x : Xlen) (p : List ℕ) (e end r : ℕ) : Type 0 where
  pub from : e ≤ r
  pub within : r ≤ end
  pub passed : (k : ℕ) → e ≤ k → k < r → is_pending x p k ≡ false
  pub found : r < end → is_pending x p r ≡ true

-- entry e, decoded
unfoldable pub fence_at : Xlen → List ℕ → ℕ → Fence
fence_at x p e = decoded x (entry_word x p e 0) (entry_word x p e 1) (entry_word x p e 2) (entry_word x p e 3)

-- the page with entry e's Pending cleared, the other Config bits as they are
unfoldable pub clear_entry : Xlen → ℕ → List ℕ → List ℕ
clear_entry x e p = put_word (bytes x) p (entry_at (bytes x) e) (clear_pending x (entry_word x p e 0))
