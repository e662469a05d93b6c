-- SRET loads a context that was filled.
use mathlib.Core.Path.{◌≡◌, refl, sym, ap, ◌∙◌}
use mathlib.Core.Bool.{true}
use mathlib.Core.List.{List, [], ◌∷◌}
use Prim.Native.Nat.{ℕ}
use Rattle.layout.specs.Width.{bytes}
use Rattle.layout.specs.Geometry.{page_size}
use Rattle.page.specs.Registers.{IsPage}
use Rattle.world.specs.World.{World, width, offset}
use Rattle.world.specs.State.{State, state_from}
use Rattle.world.proofs.MemoryLaws.{Room}
use Rattle.world.proofs.StateLaws.{taken_out}
use Rattle.world.proofs.WorldLaws.{room}
use Rattle.checks.specs.Checks.{check7}
use Rattle.sret.specs.Context.{general}
use Rattle.claims.specs.Events.{page_in}
use Rattle.claims.proofs.Sret.{sret-left}
use Rattle.hypervisor.specs.Answers.{is_done}
use Rattle.hypervisor.specs.Requests.{Context, answer_to, left}
use Rattle.halves.specs.Both.{requested, filled}
use Rattle.halves.specs.Claims.{ContextIsLoaded}
use Rattle.halves.proofs.Context.{context-filled}
use Rattle.halves.proofs.Step.{step-page}

-- the page of a world whose context was filled
page-filled : (w : World) (vs : List ℕ) → check7 w ≡ true → is_done (answer_to (width w) (Context vs) (page_in w w)) ≡ true
    → let v = filled (Context vs ∷ []) w in page_in v v ≡ left (width w) (Context vs) (page_in w w)
unfolding filled requested check7
page-filled w vs seven d =
    ap (λ (s : State). s.page)
    (taken_out w (room w.hart.xlen w.base w.memory w.hart.shmem seven)
    (state_from w.hart (left (width w) (Context vs) (page_in w w)) w.table) refl refl (step-page (width w) (Context vs) (page_in w w) d))

pub context-loaded : ContextIsLoaded
unfolding filled
context-loaded eid a0 a1 a2 w vs seven o d t y =
    (sret-left eid a0 a1 a2 (filled (Context vs ∷ []) w) t y).general ∙ ap (general (width w)) (page-filled w vs seven d)
    ∙ (context-filled (width w) vs (page_in w w) o d).registers
