-- The bytes that a buffer begins with after others were put behind its first ones.
use mathlib.Core.Path.{◌≡◌, sym, ap, ◌∙◌}
use mathlib.Core.List.{List, ◌++◌, append_assoc}
use Prim.Native.Nat.{ℕ, ◌+◌, ◌≤◌}
use lib.ListN.{length, take, drop, length-append}
use lib.Seq.{take_at, drop_at, drop-drop, length-take-le}
use borrow.Rule.Slice.PartMut.{put_mid, post_of}

pub gathered : (h n k : ℕ) (r ys : List ℕ) → h ≤ length r → length ys ≡ n → take (h + n) (put_mid h k r ys) ≡ take h r ++ ys
gathered h n k r ys l e =
    ap (take (h + n)) (sym (append_assoc (take h r) ys (post_of h k r)))
    ∙ take_at (take h r ++ ys) (post_of h k r) (h + n) (length-append (take h r) ys ∙ rw (length-take-le h r l, e))

-- those behind them stay
pub stayed : (h n k : ℕ) (r ys : List ℕ) → h ≤ length r → length ys ≡ n → k ≡ n → drop (h + n) (put_mid h k r ys) ≡ drop (h + n) r
stayed h n k r ys l e q =
    ap (drop (h + n)) (sym (append_assoc (take h r) ys (post_of h k r)))
    ∙ drop_at (take h r ++ ys) (post_of h k r) (h + n) (length-append (take h r) ys ∙ rw (length-take-le h r l, e)) ∙ rw q (drop-drop n h r)
