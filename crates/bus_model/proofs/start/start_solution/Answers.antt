use Rattle.std.proofs.Common.{sym, subst}
use Rattle.bus_model.specs.Start.{IsStartOrder}
use Rattle.bus_model.proofs.OneStart.{only_start}
use Rattle.bus_model.proofs.start.start_solution.Goals as goal

pub returns-then-len-wires-clause-only : goal.returns-then-len-wires-clause-only
returns-then-len-wires-clause-only c =
    only_start c.args.table.now c.as_slice.result.now c.roomy_start.result
    (subst (IsStartOrder c.args.table.now) (sym c.as_slice.ensures.value) c.in_ok-order.ensures) c.roomy_start.ensures.value

pub returns-clause-only : goal.returns-clause-only
returns-clause-only c =
    only_start c.args.table.now c.as_slice-else-len-wires.result.now c.crowded_start.result
    (subst (IsStartOrder c.args.table.now) (sym c.as_slice-else-len-wires.ensures.value) c.in_ok-order.ensures) c.crowded_start.ensures.value
