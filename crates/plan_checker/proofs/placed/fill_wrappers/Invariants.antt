use Rattle.soc_model.specs.Chips.{soc_value}
use Rattle.plan_model.specs.Views.{plan_value}
use Rattle.plan_checker.proofs.Walking.{AreWalkedTo}
use Rattle.plan_checker.proofs.placed.fill_wrappers.Given as goal

abbrev pub invariant-loop-place : goal.invariant-loop-place
invariant-loop-place l = AreWalkedTo (soc_value l.from.soc.now) (plan_value l.from.plan.now) l.place l.walked
