-- What the stores of a request with good parameters touch: no bit but those that the request may change.
use Rattle.std.specs.Prelude.{Option, Some, None}
use mathlib.Core.Path.{◌≡◌, refl}
use mathlib.Core.Bool.{Bool, true, false, ◌&&◌, ◌||◌}
use mathlib.Core.List.{List, [], ◌∷◌}
use mathlib.Core.Logic.{◌⊎◌, inl, inr, ⊎_elim}
use Prim.Native.Nat.{ℕ, ◌+◌, ◌*◌, ◌%◌, ◌≤◌, ◌<◌}
use native.Mathlib.Nat.{mul-le-mul_left}
use native.Mathlib.Omega.{arith}
use lib.Dec.{eqb, leb}
use lib.ListN.{length, drop}
use borrow.Author.Tests.{leb-false, ltb-false, le-leb, lt-leb, le-ltb}
use Rattle.layout.specs.declared.xlen.Xlen.{Xlen}
use Rattle.layout.specs.Width.{bytes}
use Rattle.layout.specs.Geometry.{context_at, csr_at, dirty_at, entry_at}
use Rattle.csr.specs.Csrs.{at_turn, lookup}
use Rattle.page.specs.Registers.{index}
use Rattle.turns.proofs.Truth.{either, neither}
use Rattle.hypervisor.specs.declared.fences.Asked.{Asked}
use Rattle.hypervisor.specs.Requests.{Request, Register, Hfence, Context, Store, Word, Mark, free, register_stores, entry_stores, context_stores, stores, good_params}
use Rattle.halves.specs.Claims.{among, of_register, may_change}
use Rattle.halves.proofs.Context.{words-stored}

-- the store may change bit k of byte j
abbrev pub touches : Xlen → Store → ℕ → ℕ → Bool
touches x (Word o v) j k = among o (bytes x) j
touches x (Mark i) j k = eqb j (dirty_at i) && eqb k (i % 8)

-- one of these may
abbrev pub any_touches : Xlen → List Store → ℕ → ℕ → Bool
any_touches x [] j k = false
any_touches x (s ∷ ss) j k = touches x s j k || any_touches x ss j k

-- a byte that is none of some is before or after them
pub apart : (o n j : ℕ) → among o n j ≡ false → (j < o) ⊎ (o + n ≤ j)
apart o n j e = ⊎_elim (λ t. inr (ltb-false j (o + n) (rw t at e))) (λ f. inl (leb-false o j f)) (either (leb o j))

-- and one before or after them is none of them
outside : (o n j : ℕ) → (j < o) ⊎ (o + n ≤ j) → among o n j ≡ false
outside o n j (inl l) = rw (lt-leb o j l)
outside o n j (inr l) = rw (le-leb o j (omega arith), le-ltb j (o + n) l)

module _ (x : Xlen) (j k : ℕ) where
  -- a register that is found has its word and its mark, another nothing
  register : (v : ℕ) (f : Option ℕ) → of_register x f j k ≡ false → any_touches x (register_stores x v f) j k ≡ false
  register v (Some t) n =
      let (w, m) = neither (among (csr_at (bytes x) (index (at_turn t))) (bytes x) j) (eqb j (dirty_at (index (at_turn t))) && eqb k (index (at_turn t) % 8)) n in
      rw (w, m)
  register v None n = refl

  -- a fence its entry's words
  fence : (a : Asked) (e : ℕ) → among (entry_at (bytes x) e) (4 * bytes x) j ≡ false → any_touches x (entry_stores x a e) j k ≡ false
  unfolding entry_stores
  fence a e n = rw (word 1 (omega arith), word 3 (omega arith), word 2 (omega arith), config)
    where
      o : ℕ
      o = entry_at (bytes x) e

      away : (j < o) ⊎ (o + 4 * bytes x ≤ j)
      away = apart o (4 * bytes x) j n

      word : (i : ℕ) → i < 4 → among (o + bytes x * i) (bytes x) j ≡ false
      word i h =
          outside (o + bytes x * i) (bytes x) j
          (⊎_elim (λ l. inl (omega arith)) (λ l. inr (omega (arith, mul-le-mul_left (bytes x) h))) away)

      config : among o (bytes x) j ≡ false
      config = outside o (bytes x) j (⊎_elim (λ l. inl l) (λ l. inr (omega arith)) away)

  -- the context its words
  context : (i : ℕ) (vs : List ℕ) → i + length vs ≤ 32 → 32 * bytes x ≤ j → any_touches x (context_stores x i vs) j k ≡ false
  unfolding context_stores
  context i [] b l = refl
  context i (v ∷ vs) b l =
      let h : i < 32 = omega arith in
      rw (outside (context_at (bytes x) i) (bytes x) j (inr (omega (arith, mul-le-mul_left (bytes x) h)))) (context (i + 1) vs (omega arith) l)

  pub untouched : (r : Request) (p : List ℕ) → good_params x r ≡ true → may_change x r p j k ≡ false → any_touches x (stores x r p) j k ≡ false
  unfolding stores
  untouched (Register m v) p g n = register v (lookup x m) n
  untouched (Hfence a) p g n = fence a (free x p) n
  untouched (Context vs) p g n = context 0 (0 ∷ drop 1 vs) (omega (arith, words-stored x vs g)) (ltb-false j (32 * bytes x) n)
