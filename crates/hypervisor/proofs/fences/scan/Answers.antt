-- `scan` meets its contract: the entries are searched from the lowest on.
use Rattle.std.proofs.Common.{arith, not, rules, tests}
use Rattle.std.proofs.lemmas.Iterator.{YieldsList-from_range}
use Rattle.std.proofs.lemmas.Iterator.Search.{find_from_yields_List}
use Rattle.layout.specs.Width.{bytes}
use Rattle.layout.specs.Geometry.{entry_count}
use Rattle.page.specs.Entries.{is_pending}
use Rattle.hypervisor.proofs.Scan.{free-found}
use Rattle.hypervisor.proofs.fences.scan.Goals as goal

pub returns : goal.returns
returns c =
    free-found c.args.x c.args.page.now c.find.result
    (find_from_yields_List (λ e. not (is_pending c.args.x c.args.page.now e)) _ _ c.find.result c.find.ensures.ran
    (YieldsList-from_range 0 c.args.count (entry_count (bytes c.args.x)) (search rules) (omega (arith, c.requires.0)))
    (λ e b q k. search (rules, tests)))
