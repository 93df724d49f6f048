use Rattle.tester_commands.proofs.RetargetTexts.{runs_with_data}
use Rattle.tester_commands.proofs.laws.retargeted_texts_run_right.Goals as goal

pub returns : goal.returns
returns c = runs_with_data
