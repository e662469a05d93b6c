-- `trap::store` meets its contract: the swap, and then the words.
use mathlib.Core.Path.{refl, ap, ◌∙◌}
use mathlib.Core.List.{[]}
use Rattle.layout.specs.declared.xlen.Xlen.{Xlen}
use Rattle.page.specs.Registers.{IsPage}
use Rattle.world.specs.State.{state_from}
use Rattle.turns.specs.Clean.{store_clean_words, trap_words}
use Rattle.sret.proofs.Widths.{swapped-width}
use Rattle.trap.specs.Trap.{trap_stored}
use Rattle.trap.proofs.store.Goals as goal

pub store_trap_words-requires : goal.store_trap_words-requires
store_trap_words-requires c =
    let width = swapped-width c.args.h.xlen c.args.h c.args.page.now [] (c.autoswap-swapped.ensures.0 []) in
    let whole : IsPage c.args.h.xlen c.autoswap-swapped.new.page = c.autoswap-swapped.auto.page ∙ c.requires.0 in
    cc

pub returns : goal.returns
unfolding trap_stored
returns c = let a = c.args in
    let width = swapped-width a.h.xlen a.h a.page.now [] (c.autoswap-swapped.ensures.0 []) in (
      λ table. c.store_trap_words.ensures c.autoswap-swapped.result table refl refl refl
          ∙ ap (λ (y : Xlen). store_clean_words y trap_words (state_from c.autoswap-swapped.result c.autoswap-swapped.new.page table)) width
          ∙ ap (store_clean_words a.h.xlen trap_words) (c.autoswap-swapped.ensures.0 table),
      c.autoswap-swapped.ensures.1,
    )
