-- A replay's state and its block say the same; what the tests of what is lent say; and what a crossing gives.
use mathlib.Core.Path.{◌≡◌, refl, sym, ap, ◌∙◌, subst}
use mathlib.Core.Bool.{true, false, ◌&&◌, true≢false}
use mathlib.Core.List.{List, [], ◌∷◌, ◌++◌}
use Prim.Native.Nat.{ℕ, ◌+◌, ◌^◌, ◌<◌}
use native.Mathlib.Omega.{arith}
use lib.Dec.{eqb, leb}
use lib.IntN.{pos, neg_ℤ}
use lib.ListN.{length, take, get_or, set, drop, length-append, length-drop}
use lib.Seq.{take_at, get_or-append-add}
use borrow.Author.Tests.{eqb-true, eq-eqb}
use borrow.Rule.Slice.PartMut.{put_mid}
use Rattle.text.specs.Buffer.{Wrote}
use Rattle.hart.proofs.Shape.{Sized}
use Rattle.checks.proofs.Truth.{both}
use Rattle.block.specs.Block.{block_length, flag_word, is_flag, block_of, well_formed}
use Rattle.block.proofs.BlockLaws.{flag-back, flag-fits, record-of-block, block-formed, formed}
use Rattle.replay.specs.declared.Replay.{Replay}
use Rattle.replay.specs.declared.Taken.{Taken}
use Rattle.replay.specs.Code.{ready, longest_line, FedOn}
use Rattle.replay_abi.specs.Replays.{state_length, memory_length, table_length, state_word, replay_of, replay_block, is_replay, is_lent, can_tell, can_start, can_feed, FeedCrosses, can_finish, last_line, FinishCrosses}
use Rattle.block.proofs.Words.{three-behind}

-- a state whose record has as many registers as a block has room for, and a count of 32 bits
module _ (s : Replay) (z : Sized s.hart) (small : s.hart.dropped < 2 ^ 32) where
  abbrev words : List ℕ
  words = s.number ∷ s.have ∷ flag_word s.ended ∷ []

  size : length (block_of s.hart) ≡ block_length
  size = (formed (block_of s.hart) (block-formed s.hart z small)).size

  hart-back : take block_length (block_of s.hart ++ words) ≡ block_of s.hart
  hart-back = take_at (block_of s.hart) words block_length size

  word_back : (k : ℕ) → state_word (block_of s.hart ++ words) k ≡ get_or words k 0
  word_back k =
      subst (λ (n : ℕ). get_or (block_of s.hart ++ words) (n + k) 0 ≡ get_or words k 0) size (get_or-append-add (block_of s.hart) words k 0)

  -- its block holds it
  replay-of-block : replay_of (replay_block s) ≡ s
  unfolding replay_of replay_block
  replay-of-block =
      rw (hart-back, word_back 0, word_back 1, word_back 2) (rw (record-of-block s.hart z small, flag-back s.ended))

  -- and is some state's
  block-is-replay : is_replay (replay_block s) ≡ true
  unfolding is_replay replay_block
  block-is-replay =
      rw (eq-eqb (length (block_of s.hart ++ words)) state_length (omega (arith, length-append (block_of s.hart) words, size)))
      (rw (hart-back, word_back 2) (rw (block-formed s.hart z small, flag-fits s.ended)))

  -- stored in the place of another
  module _ (b : List ℕ) (n : length b ≡ state_length) {h : List ℕ} {f : ℕ} (e : h ≡ block_of s.hart) (g : f ≡ flag_word s.ended) where
    abbrev put : List ℕ
    put = set (set (set (put_mid 0 block_length b h) block_length s.number) (block_length + 1) s.have) (block_length + 2) f

    laid : put ≡ replay_block s
    unfolding replay_block
    laid =
        rw (e, g)
        (three-behind (block_of s.hart) (drop block_length b) block_length s.number s.have (flag_word s.ended) size (omega (arith, length-drop block_length b)))

    pub stored : (put ≡ replay_block s) × (replay_of put ≡ s) × (is_replay put ≡ true)
    stored = (laid, ap replay_of laid ∙ replay-of-block, ap is_replay laid ∙ block-is-replay)

-- a state's block has its length
pub state-size : (b : List ℕ) → is_replay b ≡ true → length b ≡ state_length
unfolding is_replay
state-size b t =
    let a = eqb (length b) state_length in
    let w = well_formed (take block_length b) in
    eqb-true (length b) state_length (both a w (both (a && w) (is_flag (state_word b 2)) t).0).0

-- two words are said
said-size : (out said : List ℕ) → can_tell out said ≡ true → length said ≡ 2
said-size out said t = eqb-true (length said) 2 (both (leb longest_line (length out)) (eqb (length said) 2) t).1

-- a start finds every length right
pub start-sizes : (state memory table : List ℕ) → can_start state memory table ≡ true
    → (length state ≡ state_length) × (length memory ≡ memory_length) × (length table ≡ table_length)
start-sizes state memory table t =
    let (a, b) = both (eqb (length state) state_length) (is_lent memory table) t in
    let (d, e) = both (eqb (length memory) memory_length) (eqb (length table) table_length) b in
    (eqb-true (length state) state_length a, eqb-true (length memory) memory_length d, eqb-true (length table) table_length e)

module _ (s m t p part o w : List ℕ) where
  -- a part that cannot be fed
  pub feed-refused : can_feed s m t p o w ≡ false → FeedCrosses s m t p part o w (neg_ℤ (pos 1)) s m t p o w
  feed-refused n =
      record {
        code = rw n;
        done = λ y. absurd (true≢false (sym y ∙ n));
        refused = λ _. record { state = refl; memory = refl; table = refl; pending = refl; out = refl; said = refl };
      }

  -- one that can
  module _ (y : can_feed s m t p o w ≡ true) where
    pub feed-tests : (length s ≡ state_length) × (length w ≡ 2) × (ready (replay_of s) p ≡ true)
    feed-tests =
        let (a, b) = both (is_replay s && is_lent m t && can_tell o w) (ready (replay_of s) p) y in
        let (d, e) = both (is_replay s && is_lent m t) (can_tell o w) a in
        (state-size s (both (is_replay s) (is_lent m t) d).0, said-size o w e, b)

    pub fed-across : {r : Taken} {s' m' t' p' o' w' : List ℕ} → FedOn (replay_of s) m t p part o r m' t' p' o'
        → (replay_of s' ≡ r.replay) × (is_replay s' ≡ true) → w' ≡ r.taken ∷ r.written ∷ [] → FeedCrosses s m t p part o w (pos 0) s' m' t' p' o' w'
    fed-across f (e, i) g =
        record {
          code = rw y;
          done = λ _. record { fed = rw (e, g) f; state = i; said = rw g };
          refused = λ n. absurd (true≢false (sym y ∙ n));
        }

module _ (s o w : List ℕ) where
  -- a replay that cannot be finished
  pub finish-refused : can_finish s o w ≡ false → FinishCrosses s o w (neg_ℤ (pos 1)) o w
  finish-refused n = record { code = rw n; done = λ y. absurd (true≢false (sym y ∙ n)); refused = λ _. (refl, refl) }

  -- one that can
  module _ (y : can_finish s o w ≡ true) where
    pub finish-tests : (length s ≡ state_length) × (length w ≡ 2)
    finish-tests = let (a, b) = both (is_replay s) (can_tell o w) y in (state-size s a, said-size o w b)

    pub finished-across : {n : ℕ} {o' w' : List ℕ} → Wrote o 0 (last_line s) o' n → w' ≡ 0 ∷ n ∷ [] → FinishCrosses s o w (pos 0) o' w'
    finished-across {n} {o'} {w'} l g =
        record {
          code = rw y;
          done = λ _. record { line = record { bytes = l.bytes; place = sym count ∙ l.place }; said = g ∙ rw count };
          refused = λ f. absurd (true≢false (sym y ∙ f));
        }
      where
        count : n ≡ length (last_line s)
        count = omega (arith, l.place)
