-- The 20 stored registers (01, "What the monitor lends"; 02, Req 06), by name.
use Rattle.std.specs.Prelude.{cond, List, [], ◌∷◌, ℕ, suc, eqb, set, get_or, replicate}
use Rattle.layout.specs.declared.xlen.Xlen.{Xlen}
use Rattle.layout.specs.declared.xlen.Xlen.TheVariants.{X32, X64}
use Rattle.csr.specs.Csrs.{Csr, Hstatus, Hgeie, Hideleg, Hvip, Hie, Hedeleg, Htimedelta, Htimedeltah, Hcounteren, Henvcfg, Htval, Htinst, Hgatp, Vsstatus, Vstvec, Vsscratch, Vsepc, Vscause, Vstval, Vsatp, turn_of}

-- how many registers are stored
abbrev pub stored_count : ℕ
stored_count = 20

-- the stored registers, in turn order but for htimedeltah, which stands last: all but hgeip, hip, vsie and vsip, which read the lines and other
-- registers, and henvcfgh, which reads 0
abbrev pub stored : List Csr
stored =
    Hstatus ∷ Hgeie ∷ Hideleg ∷ Hvip ∷ Hie ∷ Hedeleg ∷ Htimedelta ∷ Hcounteren ∷ Henvcfg ∷ Htval ∷ Htinst ∷ Hgatp ∷ Vsstatus ∷ Vstvec ∷
    Vsscratch ∷ Vsepc ∷ Vscause ∷ Vstval ∷ Vsatp ∷ Htimedeltah ∷ []

-- the place of a register in a list, from 0; past its end for one that is not in it
abbrev pub place_in : List Csr → Csr → ℕ
place_in [] c = 0
place_in (d ∷ ds) c = cond (eqb (turn_of c) (turn_of d)) 0 (suc (place_in ds c))

-- the place of a register among the stored ones; hgeip, hip, vsie, vsip and henvcfgh have none of their own: 20
abbrev pub place_of : Csr → ℕ
place_of c = place_in stored c

-- what the stored registers hold for a register
abbrev pub held : Csr → List ℕ → ℕ
held c csrs = get_or csrs (place_of c) 0

-- the stored registers with x for a register
abbrev pub hold : Csr → ℕ → List ℕ → List ℕ
hold c x csrs = set csrs (place_of c) x

-- fresh: everything 0, at XLEN 64 hstatus and vsstatus 0x200000000
abbrev pub fresh_csrs : Xlen → List ℕ
fresh_csrs X32 = replicate stored_count 0
fresh_csrs X64 = hold Vsstatus 0x200000000 (hold Hstatus 0x200000000 (replicate stored_count 0))
