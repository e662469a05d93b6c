-- `context::fill` meets its contract: each refusal has its test.
use mathlib.Core.Path.{refl, sym, ◌∙◌}
use Rattle.std.proofs.lemmas.List.{take_rest}
use Rattle.hypervisor.specs.Requests.{Context}
use Rattle.hypervisor.proofs.ContextStores.{few, wide, filled}
use Rattle.hypervisor.proofs.Outcomes.{failed, invalid, refusal}
use Rattle.hypervisor.proofs.context.fill.Goals as goal
use Rattle.hypervisor.proofs.context.fill.Goals.{then-words-ne-WORDS-via-then-words-ne-WORDS, then-words-ne-WORDS-via-else-words-ne-WORDS+then-not-each_fits}

pub returns-then-page-page_size : goal.returns-then-page-page_size
returns-then-page-page_size c = let s = c.args in
    refusal s.x (Context s.words.now) s.page.now (failed s.x (Context s.words.now) s.page.now (λ e. c.if-page-page_size.true (e ∙ sym c.page_size.ensures))) refl

pub returns-then-words-ne-WORDS : goal.returns-then-words-ne-WORDS
returns-then-words-ne-WORDS c = let s = c.args in
    refusal s.x (Context s.words.now) s.page.now
    (invalid s.x (Context s.words.now) s.page.now (c.if-page-page_size.false ∙ c.page_size.ensures)
    (elim c.then-words-ne-WORDS.branch [
      | then-words-ne-WORDS-via-then-words-ne-WORDS w ↦ few s.x s.words.now w.if-words-ne-WORDS.true
      | then-words-ne-WORDS-via-else-words-ne-WORDS+then-not-each_fits w ↦ wide s.x s.words.now w.if-words-ne-WORDS.false (rw take_rest at (sym w.each_fits.ensures ∙ w.if-not-each_fits.true))
    ])) refl

pub returns : goal.returns
returns c = let s = c.args in
    filled s.x s.words.now s.page.now (c.if-page-page_size.false ∙ c.page_size.ensures) c.if-words-ne-WORDS.false
    (rw take_rest at (sym c.each_fits.ensures ∙ c.if-not-each_fits.false)) c.store.ensures
