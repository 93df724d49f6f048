use Rattle.std.proofs.Common.{◌≤◌, ◌∙◌, sym, arith}
use Rattle.soc_model.specs.Chips.{soc_value}
use Rattle.plan_model.specs.Views.{limits_value}
use Rattle.plan_model.specs.Bounds.{power_bound}
use Rattle.plan_model.proofs.PowerAndAreaBounds.{power_bounds}
use Rattle.bound_rules.proofs.Energies.{allowed-energy, some_power, no_power, power_bound_is}
use Rattle.bound_rules.proofs.energy.bound_with.Goals as goal

pub returns-then-most-eq0-clause-quotient : goal.returns-then-most-eq0-clause-quotient
returns-then-most-eq0-clause-quotient c = sym (no_power (soc_value c.args.soc.now) (limits_value c.args.limits.now) c.args.limits.now.power (omega (arith, c.unwrap_or-most.ensures)))

pub total_energy-requires-clause-fits : goal.total_energy-requires-clause-fits
total_energy-requires-clause-fits c =
    let power = some_power c.args.limits.now.power c.unwrap_or-most.result c.unwrap_or-most.ensures (omega arith) in
    let few = allowed-energy (soc_value c.args.soc.now) (limits_value c.args.limits.now) c.unwrap_or-most.result power c.requires.sound c.requires.limits in
    omega (arith, few.0, few.1)

pub quotient_up-requires-clause-fits : goal.quotient_up-requires-clause-fits
quotient_up-requires-clause-fits c =
    let power = some_power c.args.limits.now.power c.unwrap_or-most.result c.unwrap_or-most.ensures (omega arith) in
    let few = allowed-energy (soc_value c.args.soc.now) (limits_value c.args.limits.now) c.unwrap_or-most.result power c.requires.sound c.requires.limits in
    rw c.total_energy.ensures few.0

pub returns-clause-quotient : goal.returns-clause-quotient
returns-clause-quotient c =
    let power = some_power c.args.limits.now.power c.unwrap_or-most.result c.unwrap_or-most.ensures (omega arith) in
    c.quotient_up.ensures.quotient ∙ rw c.total_energy.ensures (sym (power_bound_is (soc_value c.args.soc.now) (limits_value c.args.limits.now) c.args.limits.now.power c.unwrap_or-most.result power (omega arith)))

pub returns-clause-bound : goal.returns-clause-bound
returns-clause-bound c = λ plan good.
    let bound : power_bound (soc_value c.args.soc.now) (limits_value c.args.limits.now) c.args.limits.now.power ≤ plan.cycles = power_bounds (soc_value c.args.soc.now) (limits_value c.args.limits.now) c.requires.limits.some_wire plan good in
    rw (returns-clause-quotient c) bound
