use Rattle.soc_model.specs.Chips.{soc_value}
use Rattle.plan_model.specs.Views.{limits_value}
use Rattle.planner.proofs.WholePlans.{wired}
use Rattle.planner.proofs.wiring.wiring_of.Goals as goal

pub table_wrappers-requires-clause-widths : goal.table_wrappers-requires-clause-widths
table_wrappers-requires-clause-widths c = rw c.deref.ensures.value c.in_ok-buses.ensures.widths

pub returns : goal.returns
returns c = rw (← c.problem.view_is) (wired (soc_value c.problem.inside.soc.now) (limits_value c.problem.inside.limits.now) (record { buses = c.in_ok-buses.buses; wrappers = c.in_ok-wrappers.wrappers }) c.problem.invariant.sound c.problem.invariant.bounds
    (rw c.in_ok-table.ensures.value at c.in_ok-buses.ensures.settled) (rw c.in_ok-table.ensures.value at c.in_ok-buses.ensures.only) (rw c.deref.ensures.value at c.in_ok-wrappers.ensures))
