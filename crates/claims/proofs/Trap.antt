-- What an accepted trap leaves, field by field, and that it brings a guest's hart back.
use mathlib.Core.Path.{◌≡◌, refl, sym, ap, ◌∙◌, subst}
use mathlib.Core.Bool.{Bool, true, false, cond, ◌&&◌}
use mathlib.Core.List.{List}
use mathlib.Core.Logic.{◌⊎◌, inl, ⊎_elim, ◌≢◌}
use Prim.Native.Nat.{ℕ, ◌^◌, ◌<◌}
use native.Mathlib.Omega.{arith}
use lib.ListN.{length, get_or, length-set}
use lib.Seq.{get_or-set_same, get_or-set_other}
use Rattle.layout.specs.declared.xlen.Xlen.{Xlen}
use Rattle.layout.specs.Width.{bytes, bits}
use Rattle.layout.specs.Bits.{set_bit}
use Rattle.layout.specs.Geometry.{csr_at, swap_at}
use Rattle.layout.specs.Words.{word_at, put_word}
use Rattle.layout.proofs.BitLaws.{set-op}
use Rattle.layout.proofs.WordLaws.{word-put-other, word-put-same}
use Rattle.csr.specs.Csrs.{Hstatus, Htval}
use Rattle.hart.specs.declared.record.Hart.{Hart}
use Rattle.hart.specs.declared.record.Mode.{Mode}
use Rattle.hart.specs.declared.record.Mode.TheVariants.{S}
use Rattle.hart.specs.declared.trap.Trap.{Trap}
use Rattle.hart.specs.Legal.{legal_hstatus}
use Rattle.hart.specs.Record.{is_s, with_csrs}
use Rattle.hart.specs.Registers.{read, write}
use Rattle.hart.specs.Stored.{stored_count, held, hold}
use Rattle.hart.specs.Trap.{with_bit, trap_hstatus, trapped}
use Rattle.hart.specs.WellMade.{leaves, well_made}
use Rattle.hart.proofs.Fits.{well_made-words}
use Rattle.hart.proofs.WellMadeLaws.{hold-left, parts-well_made, well_made-parts}
use Rattle.page.specs.Registers.{IsPage, index, put_csr}
use Rattle.world.specs.World.{World}
use Rattle.world.specs.State.{State, state_of, with_state}
use Rattle.world.proofs.StateLaws.{page-length}
use Rattle.turns.specs.Turn.{store_reading}
use Rattle.turns.specs.Clean.{trap_words}
use Rattle.checks.specs.declared.answer.Refusal.TheVariants.{Failed}
use Rattle.checks.specs.Fids.{fid_sret}
use Rattle.checks.specs.Codes.{accepted}
use Rattle.checks.specs.Checks.{check1, check2, check7}
use Rattle.checks.proofs.Judged.{guard, tables}
use Rattle.checks.proofs.Truth.{both}
use Rattle.sret.specs.Sret.{swaps, swapped, autoswapped}
use Rattle.sret.proofs.Bytes.{clean-keep}
use Rattle.trap.specs.Trap.{trap_stored}
use Rattle.nacl.specs.Calls.{call_left}
use Rattle.nacl.specs.Traps.{trap_taken, trap_answer, trap_done, trap_left}
use Rattle.claims.specs.Events.{page_in, trap_swaps}
use Rattle.claims.specs.Claims.{TrapBits, TrapIsAsNamed, GuestsComeBack}
use Rattle.claims.proofs.Hstatus.{take-op, trap-legal}
use Rattle.claims.proofs.Left.{room-there}
use Rattle.claims.proofs.Places.{swap_ends}
use Rattle.claims.proofs.Sret.{in_bytes}
use Rattle.claims.proofs.TrapState.{stored-hart, trap-state}
use Rattle.claims.proofs.WellMade.{sret-stays, trap-stays}

-- the bits of hstatus
trap-bits : (b : Bool) (m : Mode) (u : ℕ) → TrapBits b m u (trap_hstatus b (is_s m) u)
unfolding trap_hstatus
trap-bits b m u =
    let z = with_bit u 6 b in
    let y = set_bit z 7 in
    let last = take-op (is_s m) in
    record {
      gva = last.other y 8 6 (omega arith) ∙ set-op.other z 7 6 (omega arith) ∙ (take-op b).same u 6;
      spv = last.other y 8 7 (omega arith) ∙ set-op.same z 7;
      spvp = last.same y 8;
      others = λ k o. last.other y 8 k (apart o 8 (omega arith) (omega arith)) ∙ set-op.other z 7 k (apart o 7 (omega arith) (omega arith)) ∙ (take-op b).other u 6 k (apart o 6 (omega arith) (omega arith));
    }
  where
    apart : {k : ℕ} → (k < 6) ⊎ (8 < k) → (j : ℕ) → 5 < j → j < 9 → k ≢ j
    apart o j a c e = ⊎_elim (λ l. omega arith) (λ l. omega arith) o

module _ (t : Trap) (w : World) (y : accepted (trap_answer w) ≡ true) where
  abbrev x : Xlen
  x = w.hart.xlen

  -- the record before the swap
  abbrev g : Hart
  g = trapped t w.hart

  -- what a swap writes
  abbrev word : ℕ
  word = word_at (bytes x) (page_in w w) (swap_at (bytes x))

  pub hart-is : (trap_left t w).hart ≡ cond (trap_swaps w) (write Hstatus word g) g
  unfolding trap_left trap_done trapped check7
  hart-is = rw y (go (check7 (trap_taken t w)) refl)
    where
      v : World
      v = trap_taken t w

      go : (b : Bool) → check7 w ≡ b → (cond b (with_state v (trap_stored x (state_of v))) v).hart ≡ cond (b && swaps x w.hart.features (page_in w w)) (write Hstatus word g) g
      go true e = stored-hart x (state_of v)
      go false e = refl

  -- a field that the swap leaves
  field : {A : Type 0} (f : Hart → A) → f (write Hstatus word g) ≡ f g → f (trap_left t w).hart ≡ f g
  field f e = ap f hart-is ∙ go (trap_swaps w)
    where
      go : (b : Bool) → f (cond b (write Hstatus word g) g) ≡ f g
      go true = e
      go false = refl

  pub left-virt : (trap_left t w).hart.virt ≡ false
  left-virt = field (λ h. h.virt) refl ∙ (unfold trapped in refl)

  pub left-mode : (trap_left t w).hart.mode ≡ S
  left-mode = field (λ h. h.mode) refl ∙ (unfold trapped in refl)

-- ---- the fields

module _ (t : Trap) (w : World) (y : accepted (trap_answer w) ≡ true) (count : length w.hart.csrs ≡ stored_count) where
  -- hstatus with the trap's bits
  abbrev taken : ℕ
  taken = trap_hstatus t.gva (is_s w.hart.mode) (held Hstatus w.hart.csrs)

  -- the stored registers with the first of the three, and with two
  abbrev with-hstatus : List ℕ
  with-hstatus = hold Hstatus taken w.hart.csrs

  abbrev with-htval : List ℕ
  with-htval = hold Htval t.htval with-hstatus

  held-taken : held Hstatus (g t w y).csrs ≡ taken
  unfolding trapped
  held-taken =
      get_or-set_other with-htval 10 0 t.htinst 0 (omega arith) ∙ get_or-set_other with-hstatus 9 0 t.htval 0 (omega arith)
      ∙ get_or-set_same w.hart.csrs 0 taken 0 (omega (arith, count))

  g-length : length (g t w y).csrs ≡ stored_count
  unfolding trapped
  g-length = simp length-set count

  hstatus-is : held Hstatus (trap_left t w).hart.csrs ≡ cond (trap_swaps w) (legal_hstatus w.hart.xlen taken (word t w y)) taken
  hstatus-is = ap (λ (h : Hart). held Hstatus h.csrs) (hart-is t w y) ∙ go (trap_swaps w)
    where
      go : (b : Bool) → held Hstatus (cond b (write Hstatus (word t w y) (g t w y)) (g t w y)).csrs ≡ cond b (legal_hstatus w.hart.xlen taken (word t w y)) taken
      go true =
          get_or-set_same (g t w y).csrs 0 _ 0 (omega (arith, g-length))
          ∙ ap (λ (n : ℕ). legal_hstatus (g t w y).xlen n (word t w y)) held-taken ∙ (unfold trapped in refl)
      go false = held-taken

  -- a stored register that the swap leaves
  held-left : (k v : ℕ) → 0 ≢ k → get_or (g t w y).csrs k 0 ≡ v → get_or (trap_left t w).hart.csrs k 0 ≡ v
  held-left k v n e = field t w y (λ h. get_or h.csrs k 0) (get_or-set_other (g t w y).csrs 0 k _ 0 (λ q. n (sym q))) ∙ e

  -- the bits leave hstatus a word
  taken-fits : well_made w.hart ≡ true → taken < 256 ^ bytes w.hart.xlen
  taken-fits well =
      let p = well_made-parts w.hart well in
      let x = w.hart.xlen in
      let h = with_csrs w.hart (hold Hstatus taken w.hart.csrs) in
      let legal = trap-legal t.gva (is_s w.hart.mode) x (held Hstatus w.hart.csrs) (both (leaves x Hstatus (held Hstatus w.hart.csrs)) _ p.csrs).0 in
      let good : well_made h ≡ true = parts-well_made h
      (record { csrs = hold-left x Hstatus taken w.hart.csrs (omega arith) legal p.csrs; lines = p.lines; sepc = p.sepc; stvec = p.stvec; shmem = p.shmem; x = p.x; features = p.features; words = p.words }) in
      in_bytes x (subst (λ (n : ℕ). n < 2 ^ bits x) (get_or-set_same w.hart.csrs 0 taken 0 (omega (arith, count))) ((well_made-words h good).csrs 0 (omega arith)))

  swap_is : well_made w.hart ≡ true → trap_swaps w ≡ true → word_at (bytes w.hart.xlen) (page_in w (trap_left t w)) (swap_at (bytes w.hart.xlen)) ≡ taken
  unfolding trap_stored store_reading put_csr autoswapped swapped
  swap_is well e =
      let x = w.hart.xlen in
      let (there, sw) = both (check7 w) _ e in
      ap (λ (s : State). word_at (bytes x) s.page (swap_at (bytes x))) (trap-state t w y there)
      ∙ clean-keep x (λ p. word_at (bytes x) p (swap_at (bytes x)) ≡ taken)
      (λ c s k. word-put-other (bytes x) (bytes x) s.page (csr_at (bytes x) (index c)) (read c s.hart) (swap_at (bytes x)) (inl (omega (arith, swap_ends x))) ∙ k)
      trap_words _ (unfold trapped in rw sw (stored (page-length w (room-there w there)) (taken-fits well)))
    where
      stored : IsPage w.hart.xlen (page_in w w) → taken < 256 ^ bytes w.hart.xlen
          → word_at (bytes w.hart.xlen) (put_word (bytes w.hart.xlen) (page_in w w) (swap_at (bytes w.hart.xlen)) (read Hstatus (g t w y))) (swap_at (bytes w.hart.xlen)) ≡ taken
      stored page fits =
          rw held-taken (word-put-same (bytes w.hart.xlen) (page_in w w) (swap_at (bytes w.hart.xlen)) taken (omega (arith, page, swap_ends w.hart.xlen)) fits)

pub trap-named : TrapIsAsNamed
unfolding trap_answer
trap-named t w o y =
    let well = (tables w (guard (check1 w) Failed _ y).0).1 in
    let n = o.csrs in
    record {
      hstatus_taken = taken t w y n;
      bits = trap-bits t.gva w.hart.mode (held Hstatus w.hart.csrs);
      hstatus = hstatus-is t w y n;
      swap = swap_is t w y n well;
      virt = left-virt t w y;
      mode = left-mode t w y;
      pc = field t w y (λ h. h.pc) refl ∙ (unfold trapped in refl);
      sepc = field t w y (λ h. h.sepc) refl ∙ (unfold trapped in refl);
      sie = field t w y (λ h. h.sie) refl ∙ (unfold trapped in refl);
      spie = field t w y (λ h. h.spie) refl ∙ (unfold trapped in refl);
      spp = field t w y (λ h. h.spp) refl ∙ (unfold trapped in refl);
      htval = held-left t w y n 9 t.htval (omega arith) (unfold trapped in get_or-set_other (with-htval t w y n) 10 9 t.htinst 0 (omega arith) ∙ get_or-set_same (with-hstatus t w y n) 9 t.htval 0 (simp length-set (omega (arith, n))));
      htinst = held-left t w y n 10 t.htinst (omega arith) (unfold trapped in get_or-set_same (with-htval t w y n) 10 t.htinst 0 (simp length-set (omega (arith, n))));
      scause = field t w y (λ h. h.scause) refl ∙ (unfold trapped in refl);
      stval = field t w y (λ h. h.stval) refl ∙ (unfold trapped in refl);
    }

-- ---- the guest comes back

pub guests-come-back : GuestsComeBack
unfolding trap_answer check2
guests-come-back eid a0 a1 a2 w t o y v =
    let u = call_left eid fid_sret a0 a1 a2 w in
    let one = sret-stays eid a0 a1 a2 w o.memory y in
    let ok : accepted (trap_answer u) ≡ true = rw (one, v) in
    record { accepted = ok; check1 = λ p. trap-stays t u p one; check2 = rw (left-virt t u ok, left-mode t u ok) }
