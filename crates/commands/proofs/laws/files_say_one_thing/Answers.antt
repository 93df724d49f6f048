use Rattle.commands.proofs.SaidOnce.{said_once}
use Rattle.commands.proofs.laws.files_say_one_thing.Goals as goal

pub returns : goal.returns
returns c = said_once (record { reading = c.texts_have_one_answer.ensures; one_plan = c.say_one_plan.ensures; not_refused = c.plans_are_not_refused.ensures; refused_once = c.refused_once.ensures; one_fault = c.faults_are_exact.ensures.one; no_fault = c.faults_are_exact.ensures.none })
