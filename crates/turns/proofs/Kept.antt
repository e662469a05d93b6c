-- What every step keeps: of the record all that a call's checks ask, the page's length and the table's.
use mathlib.Core.Path.{◌≡◌, refl, sym, ◌∙◌, subst}
use mathlib.Core.Bool.{Bool, true}
use mathlib.Core.List.{List, [], ◌∷◌}
use Prim.Native.Nat.{ℕ}
use lib.ListN.{length, take}
use Rattle.layout.specs.declared.xlen.Xlen.{Xlen}
use Rattle.csr.specs.Csrs.{Csr}
use Rattle.hart.specs.declared.record.Hart.{Hart}
use Rattle.hart.specs.Registers.{read, write}
use Rattle.hart.specs.WellMade.{well_made}
use Rattle.hart.proofs.Frame.{write-rest}
use Rattle.hart.proofs.WellMadeLaws.{well_made-write}
use Rattle.fence.proofs.Removal.{length-remove_slot}
use Rattle.page.specs.Registers.{IsPage, csr_word}
use Rattle.page.proofs.RegisterLaws.{page-put, page-clear}
use Rattle.page.proofs.EntryLaws.{page-done}
use Rattle.world.specs.State.{State}
use Rattle.turns.specs.Turn.{write_from_word, clear_its_bit, store_reading}
use Rattle.turns.specs.Steps.{Step, Write, Clear, Store, Remove, Done, after, run, Made}

-- what a call's checks ask of a record is kept
pub record Kept (h h₀ : Hart) : Type 0 where
  pub xlen : h.xlen ≡ h₀.xlen
  pub shmem : h.shmem ≡ h₀.shmem
  pub virt : h.virt ≡ h₀.virt
  pub mode : h.mode ≡ h₀.mode
  pub features : h.features ≡ h₀.features
  pub well : well_made h₀ ≡ true → well_made h ≡ true

pub kept_same : (h : Hart) → Kept h h
kept_same h = record { xlen = refl; shmem = refl; virt = refl; mode = refl; features = refl; well = λ t. t }

pub kept-write : (c : Csr) (v : ℕ) (h h₀ : Hart) → Kept h h₀ → Kept (write c v h) h₀
kept-write c v h h₀ k =
    let r = write-rest c v h in
    record {
      xlen = r.xlen ∙ k.xlen;
      shmem = r.shmem ∙ k.shmem;
      virt = r.virt ∙ k.virt;
      mode = r.mode ∙ k.mode;
      features = r.features ∙ k.features;
      well = λ t. well_made-write c v h (k.well t);
    }

-- a state with the record kept, a page, and a table as long
pub record StateKept (xlen : Xlen) (s s₀ : State) : Type 0 where
  pub hart : Kept s.hart s₀.hart
  pub page : IsPage xlen s.page
  pub table : length s.table ≡ length s₀.table

pub state-same : (xlen : Xlen) (s : State) → IsPage xlen s.page → StateKept xlen s s
state-same xlen s g = record { hart = kept_same s.hart; page = g; table = refl }

-- one step keeps it
pub after_kept : (xlen : Xlen) (x : Step) (s s₀ : State) → StateKept xlen s s₀ → StateKept xlen (after xlen x s) s₀
unfolding after write_from_word clear_its_bit store_reading
after_kept xlen (Write c) s s₀ k = record { hart = kept-write c (csr_word xlen s.page c) s.hart s₀.hart k.hart; page = k.page; table = k.table }
after_kept xlen (Clear c) s s₀ k = record { hart = k.hart; page = page-clear xlen c s.page k.page; table = k.table }
after_kept xlen (Store c) s s₀ k = record { hart = k.hart; page = page-put xlen c (read c s.hart) s.page k.page; table = k.table }
after_kept xlen (Remove i) s s₀ k = record { hart = k.hart; page = k.page; table = length-remove_slot s.table i ∙ k.table }
after_kept xlen (Done e) s s₀ k = record { hart = k.hart; page = page-done xlen e s.page k.page; table = k.table }

-- so do any
pub run-kept : (xlen : Xlen) (xs : List Step) (s s₀ : State) → StateKept xlen s s₀ → StateKept xlen (run xlen xs s) s₀
unfolding run
run-kept xlen [] s s₀ k = k
run-kept xlen (x ∷ xs) s s₀ k = run-kept xlen xs (after xlen x s) s₀ (after_kept xlen x s s₀ k)

-- and a run that is allowed some number of them
pub made-page : (xlen : Xlen) {xs : List Step} {s s' : State} {n l : ℕ} {b : Bool} → Made xlen xs s n s' l b → IsPage xlen s.page → IsPage xlen s'.page
made-page xlen {xs} {s} {n = n} a g = subst (λ (x : State). IsPage xlen x.page) (sym a.state) (run-kept xlen (take n xs) s s (state-same xlen s g)).page
