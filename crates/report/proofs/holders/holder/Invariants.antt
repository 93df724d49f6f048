use Rattle.std.proofs.Common.{◌≡◌, drop, find}
use Rattle.soc_model.specs.Chips.{soc_value}
use Rattle.plan_model.specs.Plans.{step_power}
use Rattle.plan_model.specs.Views.{limits_value}
use Rattle.report.specs.Holders.{is_holder}
use Rattle.report.proofs.holders.holder.Given as goal

abbrev pub invariant-loop-other : goal.invariant-loop-other
invariant-loop-other l = find (is_holder (soc_value l.soc) (limits_value l.limits) (λ c. step_power c 0 l.steps) l.kind l.test) (drop l.other-index l.tests) ≡ find (is_holder (soc_value l.soc) (limits_value l.limits) (λ c. step_power c 0 l.steps) l.kind l.test) l.tests
