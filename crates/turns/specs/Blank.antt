-- The page that set leaves (02, Req 03).
use Rattle.std.specs.Prelude.{List, [], ◌∷◌, ℕ, replicate}
use Rattle.layout.specs.declared.xlen.Xlen.{Xlen}
use Rattle.layout.specs.Width.{bytes}
use Rattle.layout.specs.Geometry.{page_size}
use Rattle.csr.specs.Csrs.{Csr, turn_order}
use Rattle.hart.specs.declared.record.Hart.{Hart}
use Rattle.hart.specs.Registers.{read}
use Rattle.page.specs.Registers.{put_csr}

-- the page after the readings in h of these registers are stored in their words
unfoldable pub put_all : (xlen : Xlen) → List Csr → Hart → List ℕ → List ℕ
put_all xlen [] h p = p
put_all xlen (c ∷ cs) h p = put_all xlen cs h (put_csr xlen c (read c h) p)

-- zeroes, and then the reading of each register of the width in its word
unfoldable pub blank : (xlen : Xlen) → Hart → List ℕ
blank xlen h = put_all xlen (turn_order xlen) h (replicate (page_size (bytes xlen)) 0)
