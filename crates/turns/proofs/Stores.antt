-- (A) to (D) of a register's turn as the code makes them: the record by (A), the page by (B), (C) and (D).
use mathlib.Core.Path.{◌≡◌, refl, ap}
use mathlib.Core.Bool.{Bool, true, false, cond}
use mathlib.Core.List.{List, [], ◌∷◌, map}
use Prim.Native.Nat.{ℕ, zero, suc, ◌-◌, ◌≤◌}
use native.Mathlib.Omega.{arith}
use lib.ListN.{take}
use Rattle.layout.specs.declared.xlen.Xlen.{Xlen}
use Rattle.csr.specs.Csrs.{Csr, followers}
use Rattle.hart.specs.declared.record.Hart.{Hart}
use Rattle.hart.specs.Registers.{read, write}
use Rattle.page.specs.Registers.{is_dirty, clear_mark, csr_word, put_csr}
use Rattle.world.specs.State.{State}
use Rattle.turns.specs.Turn.{write_from_word, clear_its_bit, store_reading}
use Rattle.turns.specs.Steps.{Step, Write, Clear, Store, after, run, clean_stores, Made}
use Rattle.turns.proofs.Puts.{put_all}
use Rattle.turns.proofs.Closed.{clean, over}
use Rattle.turns.proofs.Made.{whole, cut, stop}

-- the stores of D are those of the clean followers
pub stores-clean : (fs : List Csr) (p : List ℕ) → clean_stores fs p ≡ map Store (clean fs p)
unfolding clean_stores clean
stores-clean [] p = refl
stores-clean (f ∷ fs) p = go (is_dirty p f) (stores-clean fs p)
  where
    go : (b : Bool) → clean_stores fs p ≡ map Store (clean fs p)
        → cond b (clean_stores fs p) (Store f ∷ clean_stores fs p) ≡ map Store (cond b (clean fs p) (f ∷ clean fs p))
    go true e = e
    go false e = ap (λ (xs : List Step). Store f ∷ xs) e

-- the registers whose readings (C) and (D) of a turn store
abbrev pub stores : Csr → List ℕ → List Csr
stores c p = c ∷ clean (followers c) p

-- stores leave the page with the readings in the words
pub stores_run : (xlen : Xlen) (cs : List Csr) (s : State) → run xlen (map Store cs) s ≡ over s s.hart (put_all xlen cs s.hart s.page)
unfolding run after store_reading put_all
stores_run xlen [] s = refl
stores_run xlen (c ∷ cs) s = stores_run xlen cs (store_reading xlen c s)

pub take-map : (n : ℕ) (cs : List Csr) → take n (map Store cs) ≡ map Store (take n cs)
take-map zero cs = refl
take-map (suc n) [] = refl
take-map (suc n) (c ∷ cs) = ap (λ (xs : List Step). Store c ∷ xs) (take-map n cs)

module _ (xlen : Xlen) (c : Csr) (s : State) (n : ℕ) where
  -- (A) and (B), stopped before (A)
  pub serve-stop : n ≡ 0 → Made xlen (Write c ∷ Clear c ∷ []) s n s 0 true
  serve-stop z = stop xlen (Write c) (Clear c ∷ []) s z

  -- between (A) and (B)
  pub serve-write : {h : Hart} → n ≡ 1 → h ≡ write c (csr_word xlen s.page c) s.hart → Made xlen (Write c ∷ Clear c ∷ []) s n (over s h s.page) 0 true
  unfolding run after write_from_word
  serve-write z e = cut xlen (omega arith) (rw (z, e)) refl refl

  -- after both
  pub serve-both : {h : Hart} {q : List ℕ} → 2 ≤ n → h ≡ write c (csr_word xlen s.page c) s.hart → q ≡ clear_mark c s.page
      → Made xlen (Write c ∷ Clear c ∷ []) s n (over s h q) (n - 2) false
  unfolding run after write_from_word clear_its_bit
  serve-both le e k = whole xlen le (rw (e, k)) refl refl

  -- (C), or a store of (D)
  pub store-one : {q : List ℕ} → 1 ≤ n → q ≡ put_csr xlen c (read c s.hart) s.page → Made xlen (Store c ∷ []) s n (over s s.hart q) (n - 1) false
  unfolding run after store_reading
  store-one le e = whole xlen le (rw e) refl refl
