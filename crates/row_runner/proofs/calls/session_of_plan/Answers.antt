use Rattle.soc_model.specs.Chips.{soc_value, module_value}
use Rattle.plan_model.proofs.SoundChips.{module_size-le}
use Rattle.row_runner.proofs.calls.session_of_plan.Goals as goal

pub steps_of_session-requires-clause-small : goal.steps_of_session-requires-clause-small
steps_of_session-requires-clause-small c = module_size-le (soc_value c.in-Some.soc) c.in-Some.ensures c.in-Some-place_of.place (module_value c.module_at-module.result.now) c.module_at-module.ensures
