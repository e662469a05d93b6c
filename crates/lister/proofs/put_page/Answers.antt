-- `put_page` meets its contract: the lines put are those of the page.
use native.Mathlib.Omega.{arith}
use Rattle.text.proofs.Puts.{◌then◌}
use Rattle.lister.specs.Listing.{page_lines}
use Rattle.lister.proofs.Sizes.{entries-few, length-csrs, length-fences}
use Rattle.lister.proofs.put_page.Goals as goal

pub put_lines-fences-requires : goal.put_lines-fences-requires
put_lines-fences-requires c = let x = c.args.x in
    (c.requires.0, omega (arith, c.put_lines-csrs.ensures.puts.wrote.place, length-csrs x c.args.image.now, entries-few x))

pub put_totals-requires : goal.put_totals-requires
put_totals-requires c = let x = c.args.x in
    let image = c.args.image.now in
    omega (arith, c.put_lines-csrs.ensures.puts.wrote.place, length-csrs x image, c.put_lines-fences.ensures.puts.wrote.place, length-fences x image, entries-few x)

pub returns : goal.returns
unfolding page_lines
returns c = let cs = c.put_lines-csrs.ensures in
    let fs = c.put_lines-fences.ensures in
    cs.puts then fs.puts then (rw (cs.count_value, fs.count_value) at c.put_totals.ensures)
