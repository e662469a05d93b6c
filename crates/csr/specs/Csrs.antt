-- The registers, in turn order (01; 02, Req 06): their numbers, their followers, which of them a width has, and the lookup of a number.
use Rattle.std.specs.Prelude.{Bool, true, cond, not, ◌||◌, List, [], ◌∷◌, ◌++◌, ℕ, zero, suc, eqb, Option, Some, None}
use Rattle.layout.specs.declared.xlen.Xlen.{Xlen}
use Rattle.layout.specs.declared.xlen.Xlen.TheVariants.{X32, X64}

-- the implemented registers of either width
pub data Csr : Type 0 where
  Hstatus Hgeip Hgeie Hideleg Hvip Hie Hip Vsie Vsip Hedeleg Htimedelta Htimedeltah Hcounteren Henvcfg Henvcfgh Htval Htinst Hgatp Vsstatus Vstvec Vsscratch Vsepc Vscause Vstval Vsatp : Csr

-- the registers of either width in turn order: sources come before dependents, htimedeltah and henvcfgh after their lower halves
abbrev pub every_csr : List Csr
every_csr =
    Hstatus ∷ Hgeip ∷ Hgeie ∷ Hideleg ∷ Hvip ∷ Hie ∷ Hip ∷ Vsie ∷ Vsip ∷ Hedeleg ∷ Htimedelta ∷ Htimedeltah ∷ Hcounteren ∷ Henvcfg ∷ Henvcfgh ∷
    Htval ∷ Htinst ∷ Hgatp ∷ Vsstatus ∷ Vstvec ∷ Vsscratch ∷ Vsepc ∷ Vscause ∷ Vstval ∷ Vsatp ∷ []

-- how many there are: every turn is below it
abbrev pub csr_count : ℕ
csr_count = 25

-- the CSR number
abbrev pub number : Csr → ℕ
number Hstatus = 0x600
number Hgeip = 0xE12
number Hgeie = 0x607
number Hideleg = 0x603
number Hvip = 0x645
number Hie = 0x604
number Hip = 0x644
number Vsie = 0x204
number Vsip = 0x244
number Hedeleg = 0x602
number Htimedelta = 0x605
number Htimedeltah = 0x615
number Hcounteren = 0x606
number Henvcfg = 0x60A
number Henvcfgh = 0x61A
number Htval = 0x643
number Htinst = 0x64A
number Hgatp = 0x680
number Vsstatus = 0x200
number Vstvec = 0x205
number Vsscratch = 0x240
number Vsepc = 0x241
number Vscause = 0x242
number Vstval = 0x243
number Vsatp = 0x280

-- the place in turn order, from 0
abbrev pub turn_of : Csr → ℕ
turn_of Hstatus = 0
turn_of Hgeip = 1
turn_of Hgeie = 2
turn_of Hideleg = 3
turn_of Hvip = 4
turn_of Hie = 5
turn_of Hip = 6
turn_of Vsie = 7
turn_of Vsip = 8
turn_of Hedeleg = 9
turn_of Htimedelta = 10
turn_of Htimedeltah = 11
turn_of Hcounteren = 12
turn_of Henvcfg = 13
turn_of Henvcfgh = 14
turn_of Htval = 15
turn_of Htinst = 16
turn_of Hgatp = 17
turn_of Vsstatus = 18
turn_of Vstvec = 19
turn_of Vsscratch = 20
turn_of Vsepc = 21
turn_of Vscause = 22
turn_of Vstval = 23
turn_of Vsatp = 24

-- 01's "followers", in the order in which they are stored: the other registers whose readings a write of this one can change
abbrev pub followers : Csr → List Csr
followers Hstatus = Hip ∷ Vsip ∷ []
followers Hgeip = []
followers Hgeie = Hip ∷ []
followers Hideleg = Vsie ∷ Vsip ∷ []
followers Hvip = Hip ∷ Vsip ∷ []
followers Hie = Vsie ∷ []
followers Hip = Hvip ∷ Vsip ∷ []
followers Vsie = Hie ∷ []
followers Vsip = Hvip ∷ Hip ∷ []
followers Hedeleg = []
followers Htimedelta = []
followers Htimedeltah = []
followers Hcounteren = []
followers Henvcfg = []
followers Henvcfgh = []
followers Htval = []
followers Htinst = []
followers Hgatp = []
followers Vsstatus = []
followers Vstvec = []
followers Vsscratch = []
followers Vsepc = []
followers Vscause = []
followers Vstval = []
followers Vsatp = []

-- the upper halves, which XLEN 64 does not have
abbrev pub is_upper_half : Csr → Bool
is_upper_half c = eqb (number c) 0x615 || eqb (number c) 0x61A

-- the register is implemented at this width
abbrev pub has : Xlen → Csr → Bool
has X32 c = true
has X64 c = not (is_upper_half c)

-- those of a list that this width has
abbrev pub those : Xlen → List Csr → List Csr
those x [] = []
those x (c ∷ cs) = cond (has x c) (c ∷ []) [] ++ those x cs

-- the registers of a width, in turn order: 25 at XLEN 32, 23 at 64
abbrev pub turn_order : Xlen → List Csr
turn_order x = those x every_csr

-- the register at place t of a list; past its end vsatp, the last of the turn order
abbrev pub nth : List Csr → ℕ → Csr
nth [] t = Vsatp
nth (c ∷ cs) zero = c
nth (c ∷ cs) (suc t) = nth cs t

-- the register whose turn is the t-th, from 0; past the last turn vsatp
abbrev pub at_turn : ℕ → Csr
at_turn t = nth every_csr t

-- the turn of the first register of the list that has number n
abbrev pub find_number : List Csr → ℕ → Option ℕ
find_number [] n = None
find_number (c ∷ cs) n = cond (eqb n (number c)) (Some (turn_of c)) (find_number cs n)

-- the turn of the register with number n that this width has, or nothing
abbrev pub lookup : Xlen → ℕ → Option ℕ
lookup x n = find_number (turn_order x) n

-- the turn of the register at place k of a list, or nothing past its end
abbrev pub turn_in : List Csr → ℕ → Option ℕ
turn_in [] k = None
turn_in (c ∷ cs) zero = Some (turn_of c)
turn_in (c ∷ cs) (suc k) = turn_in cs k

-- the turn of follower k, from 0, of the register at turn t, or nothing
abbrev pub follower : ℕ → ℕ → Option ℕ
follower t k = turn_in (followers (at_turn t)) k
