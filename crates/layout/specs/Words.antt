-- Words of w bytes in a list of bytes, little-endian (01, H).
use Rattle.std.specs.Prelude.{List, ℕ, zero, suc, ◌+◌, ◌*◌, ◌/◌, ◌%◌, get_or, set}

-- the word of w bytes at offset o: the first byte is the lowest
abbrev pub word_at : ℕ → List ℕ → ℕ → ℕ
word_at zero p o = 0
word_at (suc w) p o = get_or p o 0 + 256 * word_at w p (o + 1)

-- p with the low w bytes of v stored at offset o, the lowest first
abbrev pub put_word : ℕ → List ℕ → ℕ → ℕ → List ℕ
put_word zero p o v = p
put_word (suc w) p o v = put_word w (set p o (v % 256)) (o + 1) (v / 256)
