-- The tests of the pending entries as they are gathered: none at first, then each pending entry's behind the others. The target
-- of any entry fits its widths.
use mathlib.Core.Path.{◌≡◌, refl, sym, ◌∙◌}
use mathlib.Core.Bool.{Bool, true, false, cond, true≢false}
use mathlib.Core.List.{List, [], ◌∷◌, ◌++◌}
use Prim.Native.Nat.{ℕ, ◌+◌, ◌/◌, ◌^◌, ◌<◌, ◌≤◌}
use native.Mathlib.Nat.{mod-lt, not-suc-le-zero}
use native.Mathlib.Omega.{arith}
use lib.Dec.{ltb}
use lib.Pow.{pow_pos}
use borrow.Author.Tests.{lt-ltb}
use borrow.Author.Count.{below_more}
use Rattle.std.specs.List.{All, Any}
use Rattle.std.proofs.lemmas.List.{length_push, get_or_append_left}
use Rattle.std.proofs.lemmas.List.Elements.{All-weaker, All-push}
use Rattle.std.proofs.lemmas.List.Quantifiers.{Any-push}
use Rattle.layout.specs.Bits.{field}
use Rattle.layout.specs.declared.xlen.Xlen.{Xlen}
use Rattle.layout.specs.declared.xlen.Xlen.TheVariants.{X32, X64}
use Rattle.layout.specs.Width.{bytes}
use Rattle.layout.specs.Geometry.{entry_count}
use Rattle.fence.specs.declared.entry.Fence.{Fence}
use Rattle.fence.specs.declared.entry.Target.{Target}
use Rattle.fence.specs.declared.entry.Target.TheVariants.{AnyVmid, OneVmid, VmidAsid}
use Rattle.fence.specs.Entry.{readable, type_of, vmid_of, asid_of, target_of, everything}
use Rattle.page.specs.Entries.{entry_word, is_pending, fence_at, NextPending}
use Rattle.pass.specs.declared.bounds.Test.{Test}
use Rattle.pass.specs.Inner.{target_fits, TestOf, IsOfPending, Gathered}

-- there are few entries
pub few : (x : Xlen) → entry_count (bytes x) ≤ 120
few X32 = omega arith
few X64 = omega arith

field_lt : (v lo n : ℕ) → field v lo n < 2 ^ n
field_lt v lo n = mod-lt (v / 2 ^ lo) (pow_pos n)

vmid-lt : (x : Xlen) (config : ℕ) → vmid_of x config < 2 ^ 14
vmid-lt X32 config = omega (arith, field_lt config 9 7)
vmid-lt X64 config = field_lt config 16 14

asid-lt : (x : Xlen) (config : ℕ) → asid_of x config < 2 ^ 16
asid-lt X32 config = omega (arith, field_lt config 0 9)
asid-lt X64 config = field_lt config 0 16

-- what holds of both holds of either
either : {A : Type 0} (P : A → Type 0) (b : Bool) {s t : A} → P s → P t → P (cond b s t)
either P true p q = p
either P false p q = q

target-of-fits : (x : Xlen) (config : ℕ) → target_fits (target_of x config) ≡ true
target-of-fits x config =
    let v : ltb (vmid_of x config) (2 ^ 14) ≡ true = lt-ltb _ _ (vmid-lt x config) in
    let a : ltb (asid_of x config) (2 ^ 16) ≡ true = lt-ltb _ _ (asid-lt x config) in
    either (λ (t : Target). target_fits t ≡ true) (ltb (type_of x config) 2) {s = AnyVmid} refl
    (either (λ (t : Target). target_fits t ≡ true) (ltb (type_of x config) 6) {s = OneVmid (vmid_of x config)} {t = VmidAsid (vmid_of x config) (asid_of x config)} v (rw (v, a)))

-- the target of an entry fits its widths
pub target_fits_lem : (x : Xlen) (page : List ℕ) (e : ℕ) → target_fits (fence_at x page e).target ≡ true
unfolding fence_at
target_fits_lem x page e =
    either (λ (f : Fence). target_fits f.target ≡ true) (readable x (entry_word x page e 0) (entry_word x page e 2)) {t = everything}
    (target-of-fits x (entry_word x page e 0)) refl

-- ---- the tests so far

never : {b : Bool} → b ≡ true → b ≡ false → ⊥
never p q = true≢false (sym p ∙ q)

-- what holds of a test holds of one of those before one more
Any-before : (P : Test → Type 0) (ts : List Test) (t : Test) → Any P ts → Any P (ts ++ t ∷ [])
Any-before P ts t (k, s, h, at, p) = (k, s, omega (arith, length_push ts t), get_or_append_left ts (t ∷ []) s k h ∙ at, p)

-- before the first pending entry there is none
pub none-gathered : {x : Xlen} {page : List ℕ} {end first : ℕ} → NextPending x page 0 end first → Gathered x page first []
none-gathered p = record { pending = λ k d h. absurd (not-suc-le-zero h); counted = λ d h e. absurd (never e (p.passed d (omega arith) h)) }

module _ {x : Xlen} {page : List ℕ} {e : ℕ} {ts : List Test} (g : Gathered x page e ts) where
  -- those of entries below e are of entries below the next
  wider : All (IsOfPending x page (e + 1)) ts
  wider = All-weaker (IsOfPending x page e) (IsOfPending x page (e + 1)) (λ t (d, h, p, f). (d, omega arith, p, f)) ts g.pending

  -- entry e is not pending
  pub gathered-idle : is_pending x page e ≡ false → Gathered x page (e + 1) ts
  gathered-idle n =
      record {
        pending = wider;
        counted = λ d h p. below_more (λ (k : ℕ). is_pending x page k ≡ true → Any (TestOf (fence_at x page k)) ts) e g.counted (λ q. absurd (never q n)) d h p;
      }

  -- it is, and its test is stored behind the others
  pub gathered-more : (t : Test) → is_pending x page e ≡ true → TestOf (fence_at x page e) t → Gathered x page (e + 1) (ts ++ t ∷ [])
  gathered-more t p f =
      record {
        pending = All-push (IsOfPending x page (e + 1)) ts t wider (e, omega arith, p, f);
        counted =
            below_more (λ (k : ℕ). is_pending x page k ≡ true → Any (TestOf (fence_at x page k)) (ts ++ t ∷ [])) e
            (λ k h q. Any-before (TestOf (fence_at x page k)) ts t (g.counted k h q))
            (λ q. Any-push (TestOf (fence_at x page e)) ts t f);
      }
