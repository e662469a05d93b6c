-- `span_of` meets its contract: each branch is a case of the law of spans.
use Rattle.pass.proofs.TestLaws.{span-all, span-past-0, span-open, span-closed}
use Rattle.pass.proofs.bounds.span_of.Goals as goal

pub returns-then-r-eq0-2 : goal.returns-then-r-eq0-2
returns-then-r-eq0-2 c p b = span-all _ _ _ p c.if-r-eq0.false c.if-r-ge64.true c.if-r-eq0-2.true b

pub returns-else-r-eq0-2 : goal.returns-else-r-eq0-2
returns-else-r-eq0-2 c p b = span-past-0 _ _ _ p c.if-r-ge64.true c.if-r-eq0-2.false b

pub returns-then-r-top-2 : goal.returns-then-r-top-2
returns-then-r-top-2 c p b = span-open _ _ _ p c.if-r-top.false c.if-r-top-2.true b

pub returns-else-r-top-2 : goal.returns-else-r-top-2
returns-else-r-top-2 c p b = span-closed _ _ _ p c.if-r-eq0.false c.if-r-top.false c.if-r-top-2.false
