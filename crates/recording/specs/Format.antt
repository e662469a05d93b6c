-- A recording (02, Req 05): records one after the other, each of them a 4-byte body length, a 2-byte kind and the body, little-endian.
use Rattle.std.specs.Prelude.{Bool, false, cond, ◌&&◌, ◌||◌, List, ℕ, ◌+◌, ◌*◌, eqb, leb, length}
use Rattle.layout.specs.Words.{word_at}

-- how many bytes a header has
abbrev pub header_length : ℕ
header_length = 6

-- how many bytes the longest record has: a memory write of 4,096 bytes
abbrev pub longest : ℕ
longest = 4110

-- the body length and the kind that a record's first six bytes give
abbrev pub body_length : List ℕ → ℕ
body_length r = word_at 4 r 0

abbrev pub kind_of : List ℕ → ℕ
kind_of r = word_at 2 r 4

-- kind 1, a call: EID, FID, three arguments; 2, a memory write: an offset, then 1 to 4,096 bytes; 3, a line change; 4, a slot placed: an index,
-- then four words; 5, a trap back: cause, tval, htval, htinst, GVA. There is no other kind.
unfoldable pub good_length : ℕ → ℕ → Bool
good_length kind n =
    cond (eqb kind 1) (eqb n 40)
    (cond (eqb kind 2) (leb 9 n && leb n 4104) (cond (eqb kind 3) (eqb n 8) (cond (eqb kind 4) (eqb n 40) (cond (eqb kind 5) (eqb n 40) false))))

-- the header is good: the length is right for the kind
abbrev pub good_header : List ℕ → Bool
good_header r = good_length (kind_of r) (body_length r)

-- how many bytes the record with this header has
abbrev pub record_length : List ℕ → ℕ
record_length r = header_length + body_length r

-- the bytes begin with a whole record
unfoldable pub whole_in : List ℕ → Bool
whole_in r = leb header_length (length r) && (good_header r && leb (record_length r) (length r))

-- a memory write or a slot: the hart has no part in it
abbrev pub is_store : ℕ → Bool
is_store kind = eqb kind 2 || eqb kind 4

-- word i of a body
abbrev pub body_word : List ℕ → ℕ → ℕ
body_word body i = word_at 8 body (8 * i)
