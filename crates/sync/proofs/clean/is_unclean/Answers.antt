-- `sync::clean::is_unclean` meets its contract: the bit is that of the register's index.
use mathlib.Core.Path.{ap₂}
use mathlib.Core.Bool.{◌&&◌}
use Rattle.page.proofs.Places.{dirty-is}
use Rattle.sync.proofs.clean.is_unclean.Goals as goal

pub returns : goal.returns
returns c d at = ap₂ ◌&&◌ c.has.ensures (dirty-is d _ at c.is_dirty.ensures)
