use Rattle.soc_model.specs.Chips.{soc_value}
use Rattle.plan_model.specs.Rules.{bare_limits}
use Rattle.plan_model.specs.Views.{plan_value}
use Rattle.vector_lines.specs.Made.{made_content}
use Rattle.tester_vectors.specs.Marks.{response_digits}
use Rattle.tester_vectors.proofs.DrivenByText.{runs_as_shown}
use Rattle.tester_vectors.proofs.ReadBits.{marks_stand_in}
use Rattle.tester_vectors.proofs.write_vectors.Goals as goal

pub returns-in-Some-clause-run : goal.returns-in-Some-clause-run
returns-in-Some-clause-run g c = runs_as_shown (soc_value c.args.soc.now) (bare_limits (plan_value c.args.plan.now)) (plan_value c.args.plan.now) (made_content (soc_value c.args.soc.now) c.args.seed) c.requires.good

pub returns-in-Some-clause-marks : goal.returns-in-Some-clause-marks
returns-in-Some-clause-marks g c = marks_stand_in (soc_value c.args.soc.now) (bare_limits (plan_value c.args.plan.now)) (plan_value c.args.plan.now) (response_digits (made_content (soc_value c.args.soc.now) c.args.seed)) c.requires.good

pub returns-in_default-new-clause-run : goal.returns-in_default-new-clause-run
returns-in_default-new-clause-run g c = runs_as_shown (soc_value c.args.soc.now) (bare_limits (plan_value c.args.plan.now)) (plan_value c.args.plan.now) (made_content (soc_value c.args.soc.now) c.args.seed) c.requires.good

pub returns-in_default-new-clause-marks : goal.returns-in_default-new-clause-marks
returns-in_default-new-clause-marks g c = marks_stand_in (soc_value c.args.soc.now) (bare_limits (plan_value c.args.plan.now)) (plan_value c.args.plan.now) (response_digits (made_content (soc_value c.args.soc.now) c.args.seed)) c.requires.good

pub returns-in_default-new-2-clause-run : goal.returns-in_default-new-2-clause-run
returns-in_default-new-2-clause-run g c = runs_as_shown (soc_value c.args.soc.now) (bare_limits (plan_value c.args.plan.now)) (plan_value c.args.plan.now) (made_content (soc_value c.args.soc.now) c.args.seed) c.requires.good

pub returns-in_default-new-2-clause-marks : goal.returns-in_default-new-2-clause-marks
returns-in_default-new-2-clause-marks g c = marks_stand_in (soc_value c.args.soc.now) (bare_limits (plan_value c.args.plan.now)) (plan_value c.args.plan.now) (response_digits (made_content (soc_value c.args.soc.now) c.args.seed)) c.requires.good

pub returns-clause-run : goal.returns-clause-run
returns-clause-run g c = runs_as_shown (soc_value c.args.soc.now) (bare_limits (plan_value c.args.plan.now)) (plan_value c.args.plan.now) (made_content (soc_value c.args.soc.now) c.args.seed) c.requires.good

pub returns-clause-marks : goal.returns-clause-marks
returns-clause-marks g c = marks_stand_in (soc_value c.args.soc.now) (bare_limits (plan_value c.args.plan.now)) (plan_value c.args.plan.now) (response_digits (made_content (soc_value c.args.soc.now) c.args.seed)) c.requires.good

pub returns-clause-written : goal.returns-clause-written
returns-clause-written g c = rw (c.new-placed.ensures.chip, c.new-placed.ensures.plan) at c.write_made-outcome.ensures.written

pub returns-clause-front : goal.returns-clause-front
returns-clause-front g c = rw (c.new-placed.ensures.chip, c.new-placed.ensures.plan) at c.write_made-outcome.ensures.front

pub returns-clause-too_long : goal.returns-clause-too_long
returns-clause-too_long g c = rw c.new-placed.ensures.plan at c.write_made-outcome.ensures.too_long

pub returns-clause-only : goal.returns-clause-only
returns-clause-only g c = rw c.new-placed.ensures.plan at c.write_made-outcome.ensures.only
