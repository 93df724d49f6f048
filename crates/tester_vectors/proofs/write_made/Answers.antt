use Rattle.std.proofs.Common.{subst}
use Rattle.soc_model.specs.SoundChips.{IsSoundChip}
use Rattle.plan_model.specs.Rules.{IsGoodAlone, bare_limits}
use Rattle.live_tests.specs.PlacedPlans.{PlacedPlanValue}
use Rattle.vector_lines.specs.Made.{made_content}
use Rattle.tester_vectors.specs.Marks.{response_digits}
use Rattle.tester_vectors.proofs.DrivenByText.{runs_as_shown}
use Rattle.tester_vectors.proofs.ReadBits.{marks_stand_in}
use Rattle.tester_vectors.proofs.write_made.Goals as goal

pub returns-in-Some-clause-run : goal.returns-in-Some-clause-run
returns-in-Some-clause-run g c = runs_as_shown c.args.placed.now.soc (bare_limits c.args.placed.now.plan) c.args.placed.now.plan (made_content c.args.placed.now.soc c.args.seed) (subst (λ (p : PlacedPlanValue). IsGoodAlone p.soc p.plan) c.placed.view_is c.placed.invariant.good)

pub returns-in-Some-clause-marks : goal.returns-in-Some-clause-marks
returns-in-Some-clause-marks g c = marks_stand_in c.args.placed.now.soc (bare_limits c.args.placed.now.plan) c.args.placed.now.plan (response_digits (made_content c.args.placed.now.soc c.args.seed)) (subst (λ (p : PlacedPlanValue). IsGoodAlone p.soc p.plan) c.placed.view_is c.placed.invariant.good)

pub returns-in-Written-clause-run : goal.returns-in-Written-clause-run
returns-in-Written-clause-run g c = runs_as_shown c.args.placed.now.soc (bare_limits c.args.placed.now.plan) c.args.placed.now.plan (made_content c.args.placed.now.soc c.args.seed) (subst (λ (p : PlacedPlanValue). IsGoodAlone p.soc p.plan) c.placed.view_is c.placed.invariant.good)

pub returns-in-Written-clause-marks : goal.returns-in-Written-clause-marks
returns-in-Written-clause-marks g c = marks_stand_in c.args.placed.now.soc (bare_limits c.args.placed.now.plan) c.args.placed.now.plan (response_digits (made_content c.args.placed.now.soc c.args.seed)) (subst (λ (p : PlacedPlanValue). IsGoodAlone p.soc p.plan) c.placed.view_is c.placed.invariant.good)

pub returns-in-WriteFault-clause-run : goal.returns-in-WriteFault-clause-run
returns-in-WriteFault-clause-run g c = runs_as_shown c.args.placed.now.soc (bare_limits c.args.placed.now.plan) c.args.placed.now.plan (made_content c.args.placed.now.soc c.args.seed) (subst (λ (p : PlacedPlanValue). IsGoodAlone p.soc p.plan) c.placed.view_is c.placed.invariant.good)

pub returns-in-WriteFault-clause-marks : goal.returns-in-WriteFault-clause-marks
returns-in-WriteFault-clause-marks g c = marks_stand_in c.args.placed.now.soc (bare_limits c.args.placed.now.plan) c.args.placed.now.plan (response_digits (made_content c.args.placed.now.soc c.args.seed)) (subst (λ (p : PlacedPlanValue). IsGoodAlone p.soc p.plan) c.placed.view_is c.placed.invariant.good)

pub returns-in-NoMemory-clause-run : goal.returns-in-NoMemory-clause-run
returns-in-NoMemory-clause-run g c = runs_as_shown c.args.placed.now.soc (bare_limits c.args.placed.now.plan) c.args.placed.now.plan (made_content c.args.placed.now.soc c.args.seed) (subst (λ (p : PlacedPlanValue). IsGoodAlone p.soc p.plan) c.placed.view_is c.placed.invariant.good)

pub returns-in-NoMemory-clause-marks : goal.returns-in-NoMemory-clause-marks
returns-in-NoMemory-clause-marks g c = marks_stand_in c.args.placed.now.soc (bare_limits c.args.placed.now.plan) c.args.placed.now.plan (response_digits (made_content c.args.placed.now.soc c.args.seed)) (subst (λ (p : PlacedPlanValue). IsGoodAlone p.soc p.plan) c.placed.view_is c.placed.invariant.good)

pub returns-in-Written-clause-written : goal.returns-in-Written-clause-written
returns-in-Written-clause-written g c = λ is.
    c.write_lines.ensures.written c.in-Written.is (made_content c.args.placed.now.soc c.args.seed) (response_digits (made_content c.args.placed.now.soc c.args.seed))
    (c.made_contents_stand.ensures c.args.placed.now.soc c.args.seed (subst (λ (p : PlacedPlanValue). IsSoundChip p.soc) c.placed.view_is c.placed.invariant.sound))

pub returns-in-WriteFault-clause-front : goal.returns-in-WriteFault-clause-front
returns-in-WriteFault-clause-front g c = λ is.
    c.write_lines.ensures.front c.in-WriteFault.is (made_content c.args.placed.now.soc c.args.seed) (response_digits (made_content c.args.placed.now.soc c.args.seed))
    (c.made_contents_stand.ensures c.args.placed.now.soc c.args.seed (subst (λ (p : PlacedPlanValue). IsSoundChip p.soc) c.placed.view_is c.placed.invariant.sound))
