-- A part of L1 memory: so many bytes, by their physical address or by their offset from memory's first byte.
use Rattle.std.specs.Prelude.{Bool, ◌&&◌, List, ◌++◌, ℕ, ◌+◌, leb, length, take, drop}

-- the n bytes from address a lie wholly in the memory whose first byte is at address base
abbrev pub within : ℕ → ℕ → List ℕ → ℕ → Bool
within n base memory a = leb base a && leb (a + n) (base + length memory)

-- the n bytes at offset o
unfoldable pub part_at : ℕ → ℕ → List ℕ → List ℕ
part_at n o memory = take n (drop o memory)

-- memory with other bytes in place of the n at offset o
unfoldable pub with_part : ℕ → ℕ → List ℕ → List ℕ → List ℕ
with_part n o part memory = take o memory ++ (part ++ drop n (drop o memory))
