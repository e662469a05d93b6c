-- `Asked::is_good` meets its contract: each field has its test.
use Rattle.hypervisor.specs.Fences.{good_fence}
use Rattle.hypervisor.proofs.fences.Asked.is_good.Goals as goal

pub returns : goal.returns
unfolding good_fence
returns c = rw (c.greatest-vmid.ensures.0, c.greatest-vmid.ensures.1, c.fits_word.ensures, c.fits_word-2.ensures, c.stored-stored.ensures)
