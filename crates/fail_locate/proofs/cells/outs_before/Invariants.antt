use Rattle.std.proofs.Common.{◌≡◌, take, sum_by}
use Rattle.plan_model.specs.declared.ChainPlan.{ChainPlan}
use Rattle.fail_locate.proofs.cells.outs_before.Given as goal

abbrev pub invariant-loop-place : goal.invariant-loop-place
invariant-loop-place l = l.outs ≡ sum_by (λ (c : ChainPlan). c.outs) (take l.place l.chains)
