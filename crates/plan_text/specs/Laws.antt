-- What a text says is settled.
use Rattle.std.specs.Prelude.{◌⊎◌, ℕ, List, Result}
use Rattle.plan_model.specs.declared.Plan.{Plan}
use Rattle.plan_model.specs.Plans.{PlanValue}
use Rattle.plan_model.specs.Views.{plan_value}
use Rattle.keyword_text.specs.Reads.{IsAnswer}
use Rattle.keyword_text.specs.Laws.{SayOne, AreNotRefused, AreRefusedOnce}
use Rattle.plan_text.specs.declared.PlanTextFault.{PlanTextFault}
use Rattle.plan_text.specs.PlanLines.{plan_text}
use Rattle.plan_text.specs.Grammar.{plan_grammar, IsInRange}
use Rattle.plan_text.specs.Answers.{SaysPlan, RefusesText, plan_unread, IsReadPlan, PlanRead}

-- words are the text of at most one plan
abbrev pub SayOnePlan : Type 0
SayOnePlan = SayOne plan_grammar

-- words that are the text of a plan are refused at no line
abbrev pub PlansAreNotRefused : Type 0
PlansAreNotRefused = AreNotRefused plan_grammar

-- words are refused at no more than one line
abbrev pub RefusedOnce : Type 0
RefusedOnce = AreRefusedOnce plan_grammar

-- the printed text of a plan in the grammar's range says that plan
abbrev pub PrintedPlansAreRead : Type 0
PrintedPlansAreRead = (plan : PlanValue) → IsInRange plan → SaysPlan (plan_text plan) plan

-- the answer for a text that says this plan: the plan, unless memory runs out
abbrev pub IsPlanAnswer : PlanValue → Result Plan PlanTextFault → Type 0
IsPlanAnswer plan answer = IsAnswer plan_value plan_unread plan answer

-- a text that says a plan is answered with that plan, unless memory runs out
abbrev pub PlansAreAnswered : Type 0
PlansAreAnswered =
    (bytes : List ℕ) (plan : PlanValue) (answer : Result Plan PlanTextFault) → PlanRead bytes answer → SaysPlan bytes plan
    → IsPlanAnswer plan answer

-- so is the printed text of a plan in the grammar's range
abbrev pub PrintedPlansAreAnswered : Type 0
PrintedPlansAreAnswered =
    (plan : PlanValue) (answer : Result Plan PlanTextFault) → IsInRange plan → PlanRead (plan_text plan) answer
    → IsPlanAnswer plan answer

-- a text says a plan in the grammar's range, or is refused at a line
abbrev pub EachTextHasAnAnswer : Type 0
EachTextHasAnAnswer = (bytes : List ℕ) → ((plan : PlanValue) × IsReadPlan bytes plan) ⊎ ((line : ℕ) × RefusesText bytes line)
