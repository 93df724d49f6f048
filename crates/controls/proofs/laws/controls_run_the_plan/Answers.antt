use Rattle.controls.proofs.Saying.{run_the_plan}
use Rattle.controls.proofs.laws.controls_run_the_plan.Goals as goal

pub returns : goal.returns
returns c = λ soc limits plan sound good. run_the_plan soc limits plan sound good
