-- `queue_for` meets its contract: each refusal has its test, and the entry is the lowest that is free.
use mathlib.Core.Path.{◌≡◌, refl, sym, ◌∙◌}
use native.Mathlib.Omega.{arith}
use borrow.Author.Tests.{lt-ltb, le-ltb}
use Rattle.std.specs.Prelude.{Some, None}
use Rattle.std.proofs.lemmas.Result.{err_from_is_err_and}
use Rattle.layout.specs.Width.{bytes}
use Rattle.layout.specs.Geometry.{entry_count}
use Rattle.hypervisor.specs.declared.answer.Refusal.TheVariants.{Denied}
use Rattle.hypervisor.specs.Requests.{Hfence, free}
use Rattle.hypervisor.proofs.Scan.{some-free, none-free}
use Rattle.hypervisor.proofs.EntryStores.{stored-free}
use Rattle.hypervisor.proofs.Outcomes.{failed, invalid, denied, done, refusal-for, outcome-for}
use Rattle.hypervisor.proofs.fences.queue_for.Goals as goal

pub returns-then-page-page_size : goal.returns-then-page-page_size
returns-then-page-page_size c = let s = c.args in
    refusal-for s.x (Hfence s.a) s.page.now (failed s.x (Hfence s.a) s.page.now (λ e. c.if-page-page_size.true (e ∙ sym c.page_size.ensures))) s.limit refl

pub returns-then-not-is_good : goal.returns-then-not-is_good
returns-then-not-is_good c = let s = c.args in
    refusal-for s.x (Hfence s.a) s.page.now
    (invalid s.x (Hfence s.a) s.page.now (c.if-page-page_size.false ∙ c.page_size.ensures) (sym c.is_good.ensures ∙ c.if-not-is_good.true)) s.limit refl

pub returns-in_err-e : goal.returns-in_err-e
returns-in_err-e c = let s = c.args in
    let found : c.free_entry.result ≡ None = grind arith in
    let said : c.in_err-e.field-0.0 ≡ Denied = grind arith in
    let none = none-free s.x s.page.now c.free_entry.ensures found in
    let gives = err_from_is_err_and c.from_residual.result c.from_residual.ensures.1 in
    rw (gives.1, gives.2, said) (refusal-for s.x (Hfence s.a) s.page.now
    (denied s.x (Hfence s.a) s.page.now (c.if-page-page_size.false ∙ c.page_size.ensures) (sym c.is_good.ensures ∙ c.if-not-is_good.false)
    (le-ltb (free s.x s.page.now) (entry_count (bytes s.x)) (omega arith))) s.limit refl)

pub returns : goal.returns
returns c = let s = c.args in
    let found : c.free_entry.result ≡ Some c.in_ok-e.e = grind arith in
    let lowest = some-free s.x s.page.now c.free_entry.ensures found in
    outcome-for s.x (Hfence s.a) s.page.now
    (done s.x (Hfence s.a) s.page.now (c.if-page-page_size.false ∙ c.page_size.ensures) (sym c.is_good.ensures ∙ c.if-not-is_good.false)
    (lt-ltb (free s.x s.page.now) (entry_count (bytes s.x)) (omega arith)) lowest.0) s.limit refl
    (stored-free s.x s.a s.page.now s.limit lowest.0 c.put_entry.ensures)
