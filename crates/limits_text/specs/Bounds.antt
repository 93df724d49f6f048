-- What is answered of limits that a text says, where it names tests of the chip alone.
use Rattle.std.specs.Prelude.{◌≡◌, Result, Ok, Err}
use Rattle.soc_model.specs.Chips.{SocValue}
use Rattle.plan_model.specs.Plans.{LimitsValue}
use Rattle.plan_model.specs.Views.{limits_value}
use Rattle.plan_model.specs.SoundLimits.{IsAcyclic}
use Rattle.live_tests.specs.Resolved.{IsResolved}
use Rattle.limits_text.specs.declared.LimFault.{LimFault}
use Rattle.limits_text.specs.declared.LimFault.TheVariants as fault
use Rattle.limits_text.specs.declared.read.Bounds.{Bounds}
use Rattle.limits_text.specs.Loops.{IsLoopOf}
use Rattle.limits_text.specs.Meaning.{NonePasses, IsFirstPassing}

-- these limits, resolved with the chip, where it refuses nothing of them
pub record AreBounds (soc : SocValue) (limits : LimitsValue) (bounds : Bounds) : Type 0 where
  pub limits_are : limits_value bounds.limits ≡ limits
  pub acyclic : IsAcyclic soc limits
  pub under : NonePasses soc limits
  pub resolved : IsResolved soc bounds.limits bounds.resolved

-- The limits are answered, resolved; or their first loop; or, where they have none, the first power that passes; or memory ran out.
abbrev pub AnswersLimits : SocValue → LimitsValue → Result Bounds LimFault → Type 0
AnswersLimits soc limits (Ok bounds) = AreBounds soc limits bounds
AnswersLimits soc limits (Err (fault.Text line)) = ⊥
AnswersLimits soc limits (Err (fault.UnknownTest line)) = ⊥
AnswersLimits soc limits (Err (fault.Cycle tests)) = IsLoopOf soc limits tests.items
AnswersLimits soc limits (Err (fault.TestPower test power)) = IsAcyclic soc limits × IsFirstPassing soc limits test power
AnswersLimits soc limits (Err fault.NoMemory) = Unit {0}
