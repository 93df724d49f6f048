-- What is answered of a text.
use Rattle.std.specs.Prelude.{ℕ, List, Result, Ok, Err}
use Rattle.outside.specs.declared.reading.Unread.{Unread}
use Rattle.outside.specs.declared.reading.Unread.TheVariants as unread
use Rattle.plan_model.specs.declared.Plan.{Plan}
use Rattle.plan_model.specs.Plans.{PlanValue}
use Rattle.plan_model.specs.Views.{plan_value}
use Rattle.keyword_text.specs.Texts.{Says, Refuses}
use Rattle.plan_text.specs.declared.PlanTextFault.{PlanTextFault}
use Rattle.plan_text.specs.declared.PlanTextFault.TheVariants.{Text, NoMemory}
use Rattle.plan_text.specs.Grammar.{plan_grammar, IsInRange}

-- the text says this plan
abbrev pub SaysPlan : List ℕ → PlanValue → Type 0
SaysPlan bytes plan = Says plan_grammar bytes plan

-- the grammar refuses the text at this line
abbrev pub RefusesText : List ℕ → ℕ → Type 0
RefusesText bytes line = Refuses plan_grammar bytes line

-- why a plan isn't read
abbrev pub plan_unread : PlanTextFault → Unread
plan_unread (Text line) = unread.Refused line
plan_unread NoMemory = unread.NoMemory

-- a plan that a text says
pub record IsReadPlan (bytes : List ℕ) (plan : PlanValue) : Type 0 where
  pub said : SaysPlan bytes plan
  pub range : IsInRange plan

-- The plan that the text says, with all its numbers in the grammar's range; or the line at which the grammar refuses the
-- text; or memory ran out.
abbrev pub PlanRead : List ℕ → Result Plan PlanTextFault → Type 0
PlanRead bytes (Ok plan) = IsReadPlan bytes (plan_value plan)
PlanRead bytes (Err (Text line)) = RefusesText bytes line
PlanRead bytes (Err NoMemory) = Unit {0}
