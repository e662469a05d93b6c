-- What the register writes of SRET say: the registers' turns, and then the swap.
use mathlib.Core.Path.{◌≡◌, sym, ap, ◌∙◌, subst}
use mathlib.Core.Bool.{Bool, true, false}
use mathlib.Core.List.{List, [], map}
use Prim.Native.Nat.{ℕ, ◌+◌, ◌*◌, ◌≤◌}
use native.Mathlib.Omega.{arith}
use lib.Bits.{bit_xor}
use lib.ListN.{length, take}
use lib.Seq.{take_all}
use Rattle.text.specs.Buffer.{Put}
use Rattle.text.specs.declared.Buffer.{Buffer}
use Rattle.text.proofs.Puts.{put-nothing, ◌then◌}
use Rattle.layout.specs.declared.xlen.Xlen.{Xlen}
use Rattle.layout.specs.declared.xlen.Xlen.TheVariants.{X32, X64}
use Rattle.layout.specs.Width.{bytes}
use Rattle.layout.specs.Geometry.{swap_at}
use Rattle.layout.specs.Words.{word_at}
use Rattle.csr.specs.Csrs.{Hstatus, csr_count, number, turn_order}
use Rattle.hart.specs.declared.record.Hart.{Hart}
use Rattle.hart.specs.Features.{has_feature}
use Rattle.hart.specs.Record.{with_general}
use Rattle.hart.specs.Registers.{read, write}
use Rattle.hart.specs.Dropped.{Report, report_with, report_words}
use Rattle.page.specs.Registers.{IsPage}
use Rattle.world.specs.State.{State, state_from}
use Rattle.turns.specs.Marks.{Mark, Dirty}
use Rattle.turns.specs.Turn.{turns}
use Rattle.turns.specs.Steps.{Step, steps, total}
use Rattle.turns.specs.Reports.{reports}
use Rattle.turns.proofs.Made.{turns-append}
use Rattle.turns.proofs.Totals.{all-le}
use Rattle.turns.proofs.Reported.{reports-few, writes-turns}
use Rattle.sync.specs.Turns.{dirty_at_turn, marks_from}
use Rattle.sync.proofs.AllMarks.{all-csrs}
use Rattle.sync.proofs.Choice.{first, second}
use Rattle.sync.proofs.Spoken.{words_append, words-length, wrote-report}
use Rattle.sret.specs.Context.{general}
use Rattle.sret.specs.Sret.{csrs_offered, entries_offered, offered_done, context_loaded, swaps, swapped, swap_reports, sret_reports}
use Rattle.sret.proofs.Whole.{few-csrs}
use Rattle.sret.proofs.Widths.{synced-width, loaded-width}

-- ---- the swap

module _ (xlen : Xlen) (h : Hart) (p t : List ℕ) {b : Bool} (e : b ≡ swaps xlen h.features p) where
  -- it is made
  pub swap-said : b ≡ true → {new at n r : ℕ} {g : Hart} {d f : Buffer ℕ} → at ≡ swap_at (bytes xlen) → new ≡ word_at (bytes xlen) p at → g ≡ write Hstatus new h
      → n ≡ number Hstatus → r ≡ read Hstatus g → Put d (report_words (report_with n (bit_xor new r))) f → Put d (report_words (swap_reports xlen (state_from h p t))) f
  unfolding swap_reports swapped
  swap-said y at v w n r put =
      rw (sym e ∙ y)
      (wrote-report Hstatus n r (v ∙ ap (word_at (bytes xlen) p) at) (w ∙ ap (λ (v : ℕ). write Hstatus v h) (v ∙ ap (word_at (bytes xlen) p) at)) put)

  -- it is not
  pub swap-silent : b ≡ false → (d : Buffer ℕ) → Put d (report_words (swap_reports xlen (state_from h p t))) d
  unfolding swap_reports
  swap-silent n d = rw (sym e ∙ n) (put-nothing d)

-- ---- the registers' turns

-- there are 25 registers at most
few-turns : (xlen : Xlen) → length (turn_order xlen) ≤ csr_count
few-turns X32 = omega arith
few-turns X64 = omega arith

module _ (xlen : Xlen) (n : ℕ) (s : State) {d f : Buffer ℕ}
    (w : Put d (report_words (reports xlen (take n (steps xlen (marks_from (dirty_at_turn xlen) 0 csr_count) s)) s)) f) where
  -- feature 0 is present, and no synchronization has as many steps as are allowed
  pub registers-said : (features : ℕ) {b : Bool} → 88 ≤ n → b ≡ has_feature features 0 → b ≡ true → Put d (report_words (reports xlen (steps xlen (csrs_offered xlen features) s) s)) f
  unfolding total
  registers-said features le e y =
      subst (λ (rs : List Report). Put d (report_words rs) f)
      (ap (λ (ms : List Mark). reports xlen (take n (steps xlen ms s)) s) (all-csrs xlen)
      ∙ ap (λ (xs : List Step). reports xlen xs s) (take_all n (steps xlen (map Dirty (turn_order xlen)) s) (omega (arith, all-le xlen s, few-csrs xlen)))
      ∙ ap (λ (ms : List Mark). reports xlen (steps xlen ms s) s) (first (map Dirty (turn_order xlen)) [] e y)) w

  -- two words of each at most
  pub registers-few : f.at ≤ d.at + 2 * csr_count
  registers-few =
      omega (
        arith,
        w.wrote.place,
        words-length (reports xlen (take n (steps xlen (marks_from (dirty_at_turn xlen) 0 csr_count) s)) s),
        reports-few xlen n (steps xlen (marks_from (dirty_at_turn xlen) 0 csr_count) s) s,
        let most : Rattle.turns.proofs.Reported.writes (steps xlen (marks_from (dirty_at_turn xlen) 0 csr_count) s) ≤ length (turn_order xlen) = rw (all-csrs xlen) (writes-turns xlen (turn_order xlen) s) in most,
        few-turns xlen,
      )

-- feature 0 is absent
pub registers-silent : (xlen : Xlen) (features : ℕ) (s : State) {b : Bool} (d : Buffer ℕ) → b ≡ has_feature features 0 → b ≡ false
    → Put d (report_words (reports xlen (steps xlen (csrs_offered xlen features) s) s)) d
unfolding steps reports
registers-silent xlen features s d e n =
    subst (λ (ms : List Mark). Put d (report_words (reports xlen (steps xlen ms s) s)) d) (second (map Dirty (turn_order xlen)) [] e n) (put-nothing d)

-- ---- both

pub all_said : (h : Hart) (p t : List ℕ) {h₁ h₂ : Hart} {x p₁ p₂ t₂ : List ℕ} {d f k : Buffer ℕ}
    → IsPage h.xlen p → state_from h₁ p₁ t ≡ turns h.xlen (csrs_offered h.xlen h.features) (state_from h p t)
    → state_from h₁ p₂ t₂ ≡ turns h.xlen (entries_offered h.xlen h.features) (state_from h₁ p₁ t)
    → x ≡ general h.xlen p₂ → h₂ ≡ with_general h₁ x
    → Put d (report_words (reports h.xlen (steps h.xlen (csrs_offered h.xlen h.features) (state_from h p t)) (state_from h p t))) f
    → Put f (report_words (swap_reports h₂.xlen (state_from h₂ p₂ t₂))) k → Put d (report_words (sret_reports h.xlen (state_from h p t))) k
unfolding sret_reports context_loaded offered_done
all_said h p t {h₁} {h₂} {x} {p₁} {p₂} {t₂} {d} {f} {k} g registers entries context loaded turned swap =
    rw (words_append (reports xlen (steps xlen (csrs_offered xlen h.features) (state_from h p t)) (state_from h p t)) (swap_reports xlen (context_loaded xlen (offered_done xlen (state_from h p t)))))
    (turned then subst (λ (rs : List Report). Put f (report_words rs) k) same swap)
  where
    xlen : Xlen
    xlen = h.xlen

    at_load : h₂.xlen ≡ h.xlen
    at_load = loaded-width h₁ x loaded ∙ synced-width xlen (csrs_offered xlen h.features) h p t g registers

    both : turns xlen (entries_offered xlen h.features) (turns xlen (csrs_offered xlen h.features) (state_from h p t)) ≡ offered_done xlen (state_from h p t)
    both = sym (turns-append xlen (csrs_offered xlen h.features) (entries_offered xlen h.features) (state_from h p t))

    same : swap_reports h₂.xlen (state_from h₂ p₂ t₂) ≡ swap_reports xlen (context_loaded xlen (offered_done xlen (state_from h p t)))
    same =
        ap (λ (y : Xlen). swap_reports y (state_from h₂ p₂ t₂)) at_load
        ∙ ap (λ (g : Hart). swap_reports xlen (state_from g p₂ t₂)) (loaded ∙ ap (with_general h₁) context)
        ∙ ap (λ (s : State). swap_reports xlen (context_loaded xlen s)) (entries ∙ ap (turns xlen (entries_offered xlen h.features)) registers ∙ both)
