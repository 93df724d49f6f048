use Rattle.std.proofs.Common.{OnOk, subst}
use Rattle.std.specs.Prelude.{IsOk}
use Rattle.plan_model.specs.Faults.{IsFaultless}
use Rattle.plan_model.specs.Views.{plan_value}
use Rattle.live_tests.specs.Problems.{ProblemValue}
use Rattle.plan_checker.proofs.judging.check_problem.Goals as goal

pub returns-clause-ok : goal.returns-clause-ok
returns-clause-ok c = subst (λ (p : ProblemValue). OnOk c.check_all.result (IsFaultless p.soc p.limits (plan_value c.args.plan.now))) c.problem.view_is c.check_all.ensures.ok

pub returns-clause-exact : goal.returns-clause-exact
returns-clause-exact c = subst (λ (p : ProblemValue). IsFaultless p.soc p.limits (plan_value c.args.plan.now) → IsOk c.check_all.result) c.problem.view_is c.check_all.ensures.exact
