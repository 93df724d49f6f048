use Rattle.std.proofs.Common.{ℕ, List, subst}
use Rattle.outside.specs.Held.{AppendedFront}
use Rattle.plan_model.specs.Rules.{IsGoodAlone, bare_limits}
use Rattle.live_tests.specs.PlacedPlans.{PlacedPlanValue}
use Rattle.tester_vectors.proofs.Blocks.{same_text}
use Rattle.tester_vectors.proofs.ReadBits.{marks_stand_in}
use Rattle.tester_vectors.proofs.write_lines.Goals as goal

pub returns-in-Err-clause-marks : goal.returns-in-Err-clause-marks
returns-in-Err-clause-marks g c = λ marks. marks_stand_in c.args.placed.now.soc (bare_limits c.args.placed.now.plan) c.args.placed.now.plan marks (subst (λ (p : PlacedPlanValue). IsGoodAlone p.soc p.plan) c.placed.view_is c.placed.invariant.good)

pub returns-in-Ok-write-clause-marks : goal.returns-in-Ok-write-clause-marks
returns-in-Ok-write-clause-marks g c = λ marks. marks_stand_in c.args.placed.now.soc (bare_limits c.args.placed.now.plan) c.args.placed.now.plan marks (subst (λ (p : PlacedPlanValue). IsGoodAlone p.soc p.plan) c.placed.view_is c.placed.invariant.good)

pub returns-clause-marks : goal.returns-clause-marks
returns-clause-marks g c = λ marks. marks_stand_in c.args.placed.now.soc (bare_limits c.args.placed.now.plan) c.args.placed.now.plan marks (subst (λ (p : PlacedPlanValue). IsGoodAlone p.soc p.plan) c.placed.view_is c.placed.invariant.good)

pub returns-clause-front : goal.returns-clause-front
returns-clause-front g c = λ is content marks stand.
    same_text c.in-Ok.ensures.soc c.in-Ok.ensures.plan stand (λ (text : List ℕ). AppendedFront (g.K.Sink.written c.args.out.now) text (g.K.Sink.written c.write.new.out)) c.in-Err-write.ensures.front
