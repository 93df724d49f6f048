use Rattle.std.proofs.Common.{subst, sym}
use Rattle.plan_model.specs.Faults.{IsFaultless}
use Rattle.plan_model.specs.Views.{plan_value}
use Rattle.live_tests.specs.Placed.{IsPlaced}
use Rattle.live_tests.specs.Problems.{ProblemValue}
use Rattle.commands.proofs.loading.accepted_for.Goals as goal

pub invariant_of-result : goal.invariant_of-result
invariant_of-result c =
    let plan = plan_value c.args.found.plan in
    record {
      problem = c.both.invariant;
      accepted = subst (λ (p : ProblemValue). IsFaultless p.soc p.limits plan) (sym c.both.view_is) c.requires.accepted;
      places = subst (λ (p : ProblemValue). IsPlaced p.soc plan c.args.found.placed) (sym c.both.view_is) c.requires.placed;
    }
