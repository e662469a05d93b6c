-- `write_for` meets its contract: each refusal has its test, and the register is the one with the number.
use mathlib.Core.Path.{refl, sym, ◌∙◌}
use Rattle.hypervisor.specs.Requests.{Register}
use Rattle.hypervisor.proofs.Outcomes.{failed, invalid, done, refusal-for, outcome-for}
use Rattle.hypervisor.proofs.RegisterStores.{unfit, unknown, known, stored-found}
use Rattle.hypervisor.proofs.registers.write_for.Goals as goal

pub returns-then-page-page_size : goal.returns-then-page-page_size
returns-then-page-page_size c = let s = c.args in
    refusal-for s.x (Register s.number s.value) s.page.now (failed s.x (Register s.number s.value) s.page.now (λ e. c.if-page-page_size.true (e ∙ sym c.page_size.ensures))) s.limit refl

pub returns-then-not-fits_word : goal.returns-then-not-fits_word
returns-then-not-fits_word c = let s = c.args in
    refusal-for s.x (Register s.number s.value) s.page.now
    (invalid s.x (Register s.number s.value) s.page.now (c.if-page-page_size.false ∙ c.page_size.ensures) (unfit s.x s.number s.value (sym c.fits_word.ensures ∙ c.if-not-fits_word.true))) s.limit refl

pub returns : goal.returns
returns c = let s = c.args in
    let found = sym c.of_number.ensures ∙ c.in-Some.is in
    outcome-for s.x (Register s.number s.value) s.page.now
    (done s.x (Register s.number s.value) s.page.now (c.if-page-page_size.false ∙ c.page_size.ensures)
    (known s.x s.number s.value found (sym c.fits_word.ensures ∙ c.if-not-fits_word.false)) refl refl) s.limit refl
    (stored-found s.x s.number s.value s.page.now s.limit found c.put.ensures)

pub returns-in_default : goal.returns-in_default
returns-in_default c = let s = c.args in
    refusal-for s.x (Register s.number s.value) s.page.now
    (invalid s.x (Register s.number s.value) s.page.now (c.if-page-page_size.false ∙ c.page_size.ensures) (unknown s.x s.number s.value (sym c.of_number.ensures ∙ c.in_default.is))) s.limit refl
