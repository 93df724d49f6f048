use Rattle.std.proofs.Common.{arith}
use Rattle.leaf_bounds.proofs.Trails.{empty_by_gap, empty_by_sum, not_empty}
use Rattle.leaf_bounds.proofs.widths.is_empty.Goals as goal

pub returns-then-wires-least-clause-yes : goal.returns-then-wires-least-clause-yes
returns-then-wires-least-clause-yes c = λ t e is.
    empty_by_sum c.args.widths.now.wires e is (omega (arith, c.if-wires-least.true, c.least_of-least.ensures))

pub returns-clause-yes : goal.returns-clause-yes
returns-clause-yes c = λ t e is. empty_by_gap c.args.widths.now.wires e is (c.any_without_width.ensures.yes t)

pub returns-clause-no : goal.returns-clause-no
returns-clause-no c = λ f e is empty.
    not_empty c.args.widths.now.wires e is (omega (arith, c.if-wires-least.false, c.least_of-least.ensures)) (c.any_without_width.ensures.no f) empty
