-- `step` meets its contract: what was gathered is less than what is wanted, or the header, or the record.
use Rattle.std.proofs.Common.{◌≡◌, ◌+◌, arith, rules}
use Rattle.recording.specs.Format.{header_length, record_length}
use Rattle.replay.proofs.Gathers.{Gathered, ready-parts, counted, room, short, whole, stepped}
use Rattle.replay.proofs.Tellings.{told-still}
use Rattle.replay.proofs.feed.step.Goals as goal

pub goal-goal-requires : goal.goal-goal-requires
goal-goal-requires c = let r = ready-parts c.args.s c.args.pending.now c.requires.0 in
    (omega (arith, r.0), r.1)

pub gather-taken-requires : goal.gather-taken-requires
gather-taken-requires c = let g = c.goal-goal in
    (omega (arith, g.ensures.1), omega (arith, g.ensures.2, (ready-parts c.args.s c.args.pending.now c.requires.0).0))

pub overflow_add-have : goal.overflow_add-have
overflow_add-have c =
    let known : let a = c.args in
    Gathered a.s a.pending.now c.gather-taken.new.r a.part.now c.goal-goal.result c.gather-taken.result =
    record {
      ready = c.requires.0;
      size = search rules;
      goal = c.goal-goal.ensures.0;
      less = c.goal-goal.ensures.1;
      most = c.goal-goal.ensures.2;
      count = c.gather-taken.ensures.0;
      bytes = c.gather-taken.ensures.1;
      some = c.requires.2;
    } in
    omega (arith, (counted known).2, c.goal-goal.ensures.2)

pub returns-then-have-goal : goal.returns-then-have-goal
returns-then-have-goal c =
    let known : let a = c.args in
    Gathered a.s a.pending.now c.gather-taken.new.r a.part.now c.goal-goal.result c.gather-taken.result =
    record {
      ready = c.requires.0;
      size = search rules;
      goal = c.goal-goal.ensures.0;
      less = c.goal-goal.ensures.1;
      most = c.goal-goal.ensures.2;
      count = c.gather-taken.ensures.0;
      bytes = c.gather-taken.ensures.1;
      some = c.requires.2;
    } in
    stepped known c.requires.1
    (told-still c.args.s.hart c.args.s.number c.args.memory.now c.args.table.now c.gather-taken.new.r (room known) (c.args.s.have + c.gather-taken.result) (short known c.if-have-goal.true)
    (omega (arith, (counted known).2, c.goal-goal.ensures.2)) _ c.requires.1)

pub judge-requires : goal.judge-requires
judge-requires c =
    let known : let a = c.args in
    Gathered a.s a.pending.now c.gather-taken.new.r a.part.now c.goal-goal.result c.gather-taken.result =
    record {
      ready = c.requires.0;
      size = search rules;
      goal = c.goal-goal.ensures.0;
      less = c.goal-goal.ensures.1;
      most = c.goal-goal.ensures.2;
      count = c.gather-taken.ensures.0;
      bytes = c.gather-taken.ensures.1;
      some = c.requires.2;
    } in
    (room known, c.requires.3)

pub returns-then-goal-eq-HEADER : goal.returns-then-goal-eq-HEADER
returns-then-goal-eq-HEADER c =
    let known : let a = c.args in
    Gathered a.s a.pending.now c.gather-taken.new.r a.part.now c.goal-goal.result c.gather-taken.result =
    record {
      ready = c.requires.0;
      size = search rules;
      goal = c.goal-goal.ensures.0;
      less = c.goal-goal.ensures.1;
      most = c.goal-goal.ensures.2;
      count = c.gather-taken.ensures.0;
      bytes = c.gather-taken.ensures.1;
      some = c.requires.2;
    } in
    let e : c.args.s.have + c.gather-taken.result ≡ header_length = omega (arith, (counted known).2, c.if-have-goal.false, c.if-goal-eq-HEADER.true) in
    stepped known c.requires.1 (rw e (c.judge.ensures c.args.memory.now c.args.table.now))

pub apply-requires : goal.apply-requires
apply-requires c =
    let known : let a = c.args in
    Gathered a.s a.pending.now c.gather-taken.new.r a.part.now c.goal-goal.result c.gather-taken.result =
    record {
      ready = c.requires.0;
      size = search rules;
      goal = c.goal-goal.ensures.0;
      less = c.goal-goal.ensures.1;
      most = c.goal-goal.ensures.2;
      count = c.gather-taken.ensures.0;
      bytes = c.gather-taken.ensures.1;
      some = c.requires.2;
    } in
    (room known, (whole known c.if-goal-eq-HEADER.false).0, c.requires.3)

pub returns : goal.returns
returns c =
    let known : let a = c.args in
    Gathered a.s a.pending.now c.gather-taken.new.r a.part.now c.goal-goal.result c.gather-taken.result =
    record {
      ready = c.requires.0;
      size = search rules;
      goal = c.goal-goal.ensures.0;
      less = c.goal-goal.ensures.1;
      most = c.goal-goal.ensures.2;
      count = c.gather-taken.ensures.0;
      bytes = c.gather-taken.ensures.1;
      some = c.requires.2;
    } in
    let e : c.args.s.have + c.gather-taken.result ≡ record_length c.gather-taken.new.r
    = omega (arith, (counted known).2, c.if-have-goal.false, (whole known c.if-goal-eq-HEADER.false).1) in
    stepped known c.requires.1 (rw e c.apply.ensures)
