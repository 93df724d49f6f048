-- How `improve` is answered.
use Rattle.std.specs.Prelude.{◌≡◌, ℕ, List}
use Rattle.plan_model.specs.Plans.{PlanValue}
use Rattle.plan_text.specs.PlanLines.{plan_text}
use Rattle.commands.specs.Procedures.{Procedure, done_with_any, with_all}
use Rattle.plan_improver.specs.Improved.{IsImproved}

-- The answer is the text of a plan that is improved after `tries` tries: for the chip and the limits, from the plan that is
-- accepted for both.
abbrev pub improve_procedure : (soc limits plan : List ℕ) (tries seed : ℕ) → Procedure
improve_procedure soc limits plan tries seed = with_all soc limits plan
    (λ chip bounds given. done_with_any (λ text. (value : PlanValue) × IsImproved chip bounds tries given value × (text ≡ plan_text value)))
