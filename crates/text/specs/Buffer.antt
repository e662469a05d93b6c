-- What is written into a lent buffer: text as bytes, reports as words. Texts and buffers are lists of any one type.
use Rattle.std.specs.Prelude.{◌≡◌, List, [], ◌∷◌, ◌++◌, ℕ, ◌+◌, length, take, drop, set}
use Rattle.text.specs.declared.Buffer.{Buffer}

-- the buffer d with the text s from place at on; what is past the end of d is left out
unfoldable pub over : {A : Type 0} → List A → ℕ → List A → List A
over d at [] = d
over d at (b ∷ s) = over (set d at b) (at + 1) s

-- the buffer d with the text s from its start on: as much of s as d has room for, then what d held there before
abbrev pub filled : {A : Type 0} → List A → List A → List A
filled d s = take (length d) s ++ drop (length s) d

-- d became d' as s was written from place at on, and next is the place after it, whether s had room or not
pub record Wrote {A : Type 0} (d : List A) (at : ℕ) (s d' : List A) (next : ℕ) : Type 0 where
  pub bytes : d' ≡ over d at s
  pub place : next ≡ at + length s

-- b became b' as s was written from its place on; the lent buffer in it is the one that it was
pub record Put {A : Type 0} (b : Buffer A) (s : List A) (b' : Buffer A) : Type 0 where
  pub same : b'.out.ghost_name ≡ b.out.ghost_name
  pub wrote : Wrote b.out.now b.at s b'.out.now b'.at
