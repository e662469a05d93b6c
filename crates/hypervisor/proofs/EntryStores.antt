-- The four stores of a fence, one after the other.
use mathlib.Core.Path.{◌≡◌, refl, sym, ap, ◌∙◌}
use mathlib.Core.List.{List, [], ◌∷◌, ◌++◌, map}
use Prim.Native.Nat.{ℕ, ◌+◌, ◌*◌}
use native.Mathlib.Omega.{arith}
use lib.ListN.{length, take}
use Rattle.std.proofs.lemmas.List.{map-append, take-map}
use Rattle.layout.specs.declared.xlen.Xlen.{Xlen}
use Rattle.layout.specs.Width.{bytes}
use Rattle.layout.specs.Geometry.{entry_at}
use Rattle.layout.specs.Words.{put_word}
use Rattle.page.specs.Registers.{IsPage}
use Rattle.hypervisor.specs.declared.fences.Asked.{Asked}
use Rattle.hypervisor.specs.Fences.{stored_asked, config_of}
use Rattle.hypervisor.specs.Requests.{Store, Word, Hfence, stored_all, free, entry_stores, stores, left_after, left}
use Rattle.hypervisor.proofs.Stores.{length-all, stored-more}

-- the words of the entry, in the order of their stores
abbrev pub words_asked : Xlen → Asked → List (ℕ × ℕ)
words_asked x a = (1, (stored_asked a).number) ∷ (3, (stored_asked a).count) ∷ (2, 0) ∷ (0, config_of x a) ∷ []

module _ (x : Xlen) (e : ℕ) where
  -- its store
  abbrev word_store : ℕ × ℕ → Store
  word_store w = Word (entry_at (bytes x) e + bytes x * w.0) w.1

  -- the page q after these on the page p
  abbrev pub Entered : List (ℕ × ℕ) → List ℕ → List ℕ → Type 0
  Entered ws p q = q ≡ stored_all x (map word_store ws) p

  pub entered-none : (p : List ℕ) → Entered [] p p
  unfolding stored_all
  entered-none p = refl

  pub entered-more : (ws : List (ℕ × ℕ)) (w : ℕ × ℕ) (p q r : List ℕ) → Entered ws p q
      → r ≡ put_word (bytes x) q (entry_at (bytes x) e + bytes x * w.0) w.1 → Entered (ws ++ w ∷ []) p r
  entered-more ws w p q r s t =
      t ∙ ap (λ (l : List ℕ). put_word (bytes x) l (entry_at (bytes x) e + bytes x * w.0) w.1) s ∙ sym (rw map-append (stored-more x (map word_store ws) (word_store w) p))

  -- it is a page still
  pub entered-page : (ws : List (ℕ × ℕ)) (p q : List ℕ) → Entered ws p q → IsPage x p → IsPage x q
  entered-page ws p q s g = ap length s ∙ length-all x (map word_store ws) p ∙ g

  -- after the first n of them
  pub entered-all : (a : Asked) (n : ℕ) (p q : List ℕ) → Entered (take n (words_asked x a)) p q → q ≡ stored_all x (take n (entry_stores x a e)) p
  unfolding entry_stores
  entered-all a n p q s = s ∙ rw (← take-map) (let first : entry_at (bytes x) e + bytes x * 0 ≡ entry_at (bytes x) e = omega arith in rw first)

-- the entry being the lowest that is free, they are the request's
pub stored-free : (x : Xlen) (a : Asked) (p : List ℕ) (n : ℕ) {e : ℕ} {q : List ℕ} → e ≡ free x p → q ≡ stored_all x (take n (entry_stores x a e)) p
    → q ≡ stored_all x (take n (stores x (Hfence a) p)) p
unfolding stores
stored-free x a p n f s = rw f at s

-- all of them are four
pub all-four : (x : Xlen) (a : Asked) (p : List ℕ) → left_after 4 x (Hfence a) p ≡ left x (Hfence a) p
unfolding left_after left stores entry_stores
all-four x a p = refl
