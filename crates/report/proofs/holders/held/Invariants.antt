use Rattle.std.proofs.Common.{◌≡◌, drop}
use Rattle.soc_model.specs.Chips.{soc_value}
use Rattle.plan_model.specs.Plans.{step_power}
use Rattle.plan_model.specs.Views.{limits_value}
use Rattle.report.specs.Holders.{first_held, holds}
use Rattle.report.proofs.holders.held.Given as goal

abbrev pub invariant-loop-kind : goal.invariant-loop-kind
invariant-loop-kind l = first_held (soc_value l.soc) (limits_value l.limits) (λ c. step_power c 0 l.steps) l.tests l.test (drop l.kind-index holds) ≡ first_held (soc_value l.soc) (limits_value l.limits) (λ c. step_power c 0 l.steps) l.tests l.test holds
