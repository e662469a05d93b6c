-- `list` meets its contract: what is put is the listing.
use Rattle.std.proofs.Common.{rules}
use Rattle.text.proofs.Puts.{put-at}
use Rattle.layout.specs.declared.xlen.Xlen.TheVariants.{X32, X64}
use Rattle.lister.proofs.Whole.{page-listed, bad-length}
use Rattle.lister.proofs.list.Goals as goal
use Rattle.lister.proofs.list.Goals.{then-image-eq-PAGE_SIZE_32, else-image-eq-PAGE_SIZE_32+then-image-eq-PAGE_SIZE, else-image-eq-PAGE_SIZE_32+else-image-eq-PAGE_SIZE}

pub returns : goal.returns
returns c =
    let start = c.new-listing.ensures in
    elim c.if-image-eq-PAGE_SIZE_32.branch [
      | then-image-eq-PAGE_SIZE_32 w ↦
          let l = page-listed c.args.image.now X32 w.if-image-eq-PAGE_SIZE_32.true (put-at start.same start.place w.put_page.ensures) in search (rules, l)
      | else-image-eq-PAGE_SIZE_32+then-image-eq-PAGE_SIZE w ↦
          let l = page-listed c.args.image.now X64 w.if-image-eq-PAGE_SIZE.true (put-at start.same start.place w.put_page-then-image-eq-PAGE_SIZE.ensures) in search (rules, l)
      | else-image-eq-PAGE_SIZE_32+else-image-eq-PAGE_SIZE w ↦
          let l = bad-length c.args.image.now w.if-image-eq-PAGE_SIZE_32.false w.if-image-eq-PAGE_SIZE.false (put-at start.same start.place w.put_text.ensures) in search (rules, l)
    ]
