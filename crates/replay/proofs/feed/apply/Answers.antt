-- `apply` meets its contract: the body is that of the record in the buffer.
use Rattle.std.proofs.Common.{◌≡◌, ℕ, ◌+◌, ◌-◌, ◌≤◌, List, length, take, drop, sym, refl, ap, ◌∙◌, ap₂, arith, length-drop, length-take-le}
use Rattle.hart.specs.Dropped.{Report, report_words}
use Rattle.world.specs.World.{World, lent}
use Rattle.recording.specs.Format.{header_length, body_length}
use Rattle.recording.proofs.Good.{good-bounds}
use Rattle.recording.specs.Kinds.{number}
use Rattle.apply.specs.Effects.{memory_base, effect}
use Rattle.apply.proofs.Few.{few_words}
use Rattle.replay.specs.Replay.{effect_of}
use Rattle.replay.proofs.Headers.{plus-less}
use Rattle.replay.proofs.Lengths.{told-within, told-few, told-tell}
use Rattle.replay.proofs.Tellings.{told-applied}
use Rattle.replay.proofs.feed.apply.Goals as goal

pub overflow_add-end : goal.overflow_add-end
overflow_add-end c =
    let size : (c.body_length-end.result ≡ body_length c.args.pending.now) × (c.body_length-end.result ≤ 4104) =
    (c.body_length-end.ensures, rw c.body_length-end.ensures (good-bounds _ _ c.requires.1).1) in
    omega (arith, size.1)

pub slice_bounds-apply-end : goal.slice_bounds-apply-end
slice_bounds-apply-end c =
    let size : c.body_length-end.result ≤ 4104 = rw c.body_length-end.ensures (good-bounds _ _ c.requires.1).1 in
    omega (arith, size, c.requires.0)

pub apply-done-requires : goal.apply-done-requires
apply-done-requires c =
    let size : (c.body_length-end.result ≡ body_length c.args.pending.now) × (c.body_length-end.result ≤ 4104) =
    (c.body_length-end.ensures, rw c.body_length-end.ensures (good-bounds _ _ c.requires.1).1) in
    let p = c.args.pending.now in
    rw (
      c.good_kind-kind.ensures,
      plus-less header_length c.body_length-end.result,
      c.body_length-end.ensures,
      length-take-le (body_length p) (drop header_length p) (simp length-drop (omega (arith, size.0, size.1, c.requires.0))),
    ) c.requires.1

pub slice_bounds-words-end : goal.slice_bounds-words-end
slice_bounds-words-end c =
    let body : List ℕ =
    take (header_length + c.body_length-end.result - header_length) (drop header_length c.args.pending.now) in
    let world : World =
    let a = c.args in lent a.s.hart memory_base a.memory.now a.table.now in
    let reported : List Report =
    (effect (number c.good_kind-kind.result) body world).reports in
    let few : length (report_words reported) ≤ 52 =
    few_words (number c.good_kind-kind.result) body world in
    told-within reported few refl c.apply-done.ensures.wrote

pub slice_bounds-put_line-end : goal.slice_bounds-put_line-end
slice_bounds-put_line-end c =
    let body : List ℕ =
    take (header_length + c.body_length-end.result - header_length) (drop header_length c.args.pending.now) in
    let world : World =
    let a = c.args in lent a.s.hart memory_base a.memory.now a.table.now in
    let reported : List Report =
    (effect (number c.good_kind-kind.result) body world).reports in
    let few : length (report_words reported) ≤ 52 =
    few_words (number c.good_kind-kind.result) body world in
    sym (length-take-le _ _ (told-within reported few refl c.apply-done.ensures.wrote))

pub put_line-requires : goal.put_line-requires
put_line-requires c =
    let body : List ℕ =
    take (header_length + c.body_length-end.result - header_length) (drop header_length c.args.pending.now) in
    let world : World =
    let a = c.args in lent a.s.hart memory_base a.memory.now a.table.now in
    let reported : List Report =
    (effect (number c.good_kind-kind.result) body world).reports in
    let few : length (report_words reported) ≤ 52 =
    few_words (number c.good_kind-kind.result) body world in
    (c.requires.2, told-few reported few refl c.apply-done.ensures.wrote)

pub returns : goal.returns
returns c =
    let body : List ℕ =
    take (header_length + c.body_length-end.result - header_length) (drop header_length c.args.pending.now) in
    let world : World =
    let a = c.args in lent a.s.hart memory_base a.memory.now a.table.now in
    let reported : List Report =
    (effect (number c.good_kind-kind.result) body world).reports in
    let few : length (report_words reported) ≤ 52 =
    few_words (number c.good_kind-kind.result) body world in
    let same : (effect (number c.good_kind-kind.result) body world).reports ≡ (effect_of world c.args.pending.now).reports =
    ap₂ (λ (k : ℕ) (b : List ℕ). (effect k b world).reports) c.good_kind-kind.ensures
    (ap (λ (n : ℕ). take n (drop header_length c.args.pending.now)) (plus-less header_length c.body_length-end.result ∙ c.body_length-end.ensures)) in
    told-applied c.args.s.hart c.args.s.number c.args.memory.now c.args.table.now
    c.args.pending.now c.requires.0 c.args.pending.now c.apply-done.result _ _ _ c.requires.1
    (omega (arith, (good-bounds _ _ c.requires.1).1, c.requires.0))
    (rw (c.good_kind-kind.ensures, plus-less header_length c.body_length-end.result, c.body_length-end.ensures) at c.apply-done.ensures.has)
    refl
    (rw (c.from.ensures, c.good_kind-kind.ensures, told-tell reported few refl c.apply-done.ensures.wrote ∙ same) at c.put_line.ensures.puts)
    c.put_line.ensures.room
