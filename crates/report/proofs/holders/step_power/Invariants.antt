use Rattle.std.proofs.Common.{◌≡◌, drop}
use Rattle.plan_model.specs.Plans.{step_power}
use Rattle.report.proofs.holders.step_power.Given as goal

abbrev pub invariant-loop-from : goal.invariant-loop-from
invariant-loop-from l = step_power l.cycle l.now (drop l.from-index l.steps) ≡ step_power l.cycle 0 l.steps
