-- What was read of a plan's text.
use Rattle.plan_text.specs.declared.reading.PlanText.{PlanText}
use Rattle.plan_text.specs.Steps.{State, at}
use Rattle.plan_text.specs.PartValues.{draft_value, part_value}

abbrev pub state_of : PlanText → State
state_of text = at (draft_value text.read.value.draft) (part_value text.read.value.part)
