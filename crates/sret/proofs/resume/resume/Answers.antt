-- `sret::resume::resume` meets its contract: the parts of SRET, in 01's order.
use mathlib.Core.Path.{◌≡◌, refl, sym, ap, ◌∙◌}
use mathlib.Core.List.{[]}
use native.Mathlib.Omega.{arith}
use Rattle.layout.specs.declared.xlen.Xlen.{Xlen}
use Rattle.layout.specs.Width.{bytes}
use Rattle.layout.specs.Geometry.{page_size}
use Rattle.page.specs.Registers.{IsPage}
use Rattle.sret.proofs.Widths.{synced-width, loaded-width, swapped-width, returned-width}
use Rattle.sret.proofs.Order.{all_done_lem}
use Rattle.sret.proofs.Said.{all_said}
use Rattle.sret.proofs.resume.resume.Goals as goal

pub autoswap-swapped-requires : goal.autoswap-swapped-requires
autoswap-swapped-requires c =
    let a = c.args in
    let width : c.with_general-loaded.result.xlen ≡ a.h.xlen =
    loaded-width c.sync_registers-synced.result c.load_context.result c.with_general-loaded.ensures
    ∙ synced-width a.h.xlen _ a.h a.page.now [] c.requires.0 (c.sync_registers-synced.ensures.0 []) in (
      c.sync_entries.auto.page ∙ c.sync_registers-synced.auto.page ∙ c.requires.0 ∙ sym (ap (λ (y : Xlen). page_size (bytes y)) width),
      omega (arith, c.sync_registers-synced.ensures.2),
    )

pub store_words-requires : goal.store_words-requires
store_words-requires c =
    let a = c.args in
    let back = returned-width _ c.returned-back.ensures in
    let swapped = swapped-width _ _ _ [] (c.autoswap-swapped.ensures.0 []) in
    let loaded = loaded-width c.sync_registers-synced.result c.load_context.result c.with_general-loaded.ensures in
    let synced = synced-width a.h.xlen _ a.h a.page.now [] c.requires.0 (c.sync_registers-synced.ensures.0 []) in
    let whole : IsPage a.h.xlen c.autoswap-swapped.new.page = c.autoswap-swapped.auto.page ∙ c.sync_entries.auto.page ∙ c.sync_registers-synced.auto.page ∙ c.requires.0 in
    cc

pub returns : goal.returns
returns c = let a = c.args in
    let u = c.sync_entries.new.table in record {
      table_after = all_done_lem a.h a.page.now a.table.now c.requires.0 (c.sync_registers-synced.ensures.0 a.table.now) (c.sync_entries.ensures c.sync_registers-synced.result)
          c.load_context.ensures c.with_general-loaded.ensures (c.autoswap-swapped.ensures.0 u) c.returned-back.ensures (c.store_words.ensures c.returned-back.result u refl refl refl);
      puts = all_said a.h a.page.now a.table.now c.requires.0 (c.sync_registers-synced.ensures.0 a.table.now) (c.sync_entries.ensures c.sync_registers-synced.result)
          c.load_context.ensures c.with_general-loaded.ensures (c.sync_registers-synced.ensures.1 a.table.now) (c.autoswap-swapped.ensures.1 u);
    }
