-- `layout::word::put_word` meets its contract: the bytes that are copied are the number's low bytes, and the word is their stores one by one.
use mathlib.Core.Path.{◌≡◌, refl, sym, ap, ◌∙◌}
use mathlib.Core.List.{List, [], ◌∷◌, ◌++◌}
use Prim.Native.Nat.{ℕ, zero, suc, ◌+◌, ◌/◌, ◌%◌, ◌^◌, ◌≤◌}
use native.Mathlib.Nat.{div-one, div-div-eq-div-mul, pow-suc}
use native.Mathlib.Omega.{arith}
use lib.ListN.{length, set, take, drop}
use borrow.Author.Rules.{rules}
use borrow.Rule.Slice.PartMut.{put_mid}
use Rattle.std.specs.Int.{bytes_low_first}
use Rattle.std.proofs.Common.{add-one, append_assoc}
use Rattle.std.proofs.lemmas.List.Edits.{sets, sets-eq, paste_all}
use Rattle.std.proofs.lemmas.Slice.{put_mid-paste}
use Rattle.layout.specs.Words.{put_word}
use Rattle.layout.proofs.word.put_word.Goals as goal

-- the low w bytes of v, the lowest first
abbrev low_bytes : ℕ → ℕ → List ℕ
low_bytes zero v = []
low_bytes (suc w) v = v % 256 ∷ low_bytes w (v / 256)

length-low : (w v : ℕ) → length (low_bytes w v) ≡ w
length-low zero v = refl
length-low (suc w) v = ap suc (length-low w (v / 256))

-- the library's bytes of a number, from byte i up
bytes-low : (w i v : ℕ) → bytes_low_first i w v ≡ low_bytes w (v / 256 ^ i)
bytes-low zero i v = refl
bytes-low (suc w) zero v = rw (bytes-low w 1 v, div-one v)
bytes-low (suc w) (suc i) v =
    let rest : v / 256 ^ suc i / 256 ≡ v / 256 ^ suc (suc i) = simp (pow-suc, div-div-eq-div-mul) in
    rw (bytes-low w (suc (suc i)) v, rest)

-- a word is stored byte by byte
put-sets : (w : ℕ) (p : List ℕ) (o v : ℕ) → put_word w p o v ≡ sets p o (low_bytes w v)
put-sets zero p o v = refl
put-sets (suc w) p o v = rw add-one (put-sets w (set p o (v % 256)) (suc o) (v / 256))

-- so it is the list with those bytes in place of w
put-part : (w : ℕ) (p : List ℕ) (o v k : ℕ) (bs : List ℕ) → o + w ≤ length p → k ≡ w → bs ≡ bytes_low_first 0 w v → put_mid o k p bs ≡ put_word w p o v
put-part w p o v k bs h e b =
    let low : bs ≡ low_bytes w v = rw (bytes-low w 0 v, div-one v) at b in
    let n : length (low_bytes w v) ≡ w = length-low w v in
    let within : o + length (low_bytes w v) ≤ length p = omega arith in
    let stored : put_word w p o v ≡ take o p ++ low_bytes w v ++ drop (o + w) p = rw n at (put-sets w p o v ∙ sets-eq (low_bytes w v) p o within) in
    put_mid-paste o k p bs (low_bytes w v) w low (sym e) (sym n) ∙ paste_all p o (low_bytes w v) w (sym n) ∙ sym (stored ∙ append_assoc (take o p) (low_bytes w v) (drop (o + w) p))

pub returns-in-X32 : goal.returns-in-X32
returns-in-X32 c =
    let copied : c.copy_from_slice.new.self ≡ bytes_low_first 0 4 c.args.v = search rules in
    rw c.in-X32.is (put-part 4 _ _ _ _ _ (rw c.in-X32.is at c.requires) (omega arith) copied)

pub returns-in-X64 : goal.returns-in-X64
returns-in-X64 c =
    let copied : c.copy_from_slice-in-X64.new.self ≡ bytes_low_first 0 8 c.args.v = search rules in
    rw c.in-X64.is (put-part 8 _ _ _ _ _ (rw c.in-X64.is at c.requires) (omega arith) copied)
