-- What is answered of a text is settled.
use Rattle.std.proofs.Common.{◌⊎◌, inl, inr, ℕ, List}
use Rattle.std.specs.Prelude.{Result, Ok, Err}
use Rattle.outside.specs.Words.{words_of}
use Rattle.plan_model.specs.declared.Plan.{Plan}
use Rattle.plan_model.specs.Plans.{PlanValue}
use Rattle.plan_model.specs.Views.{plan_value}
use Rattle.keyword_text.specs.Reads.{IsReadText}
use Rattle.keyword_text.proofs.Ranges.{spelled_small}
use Rattle.keyword_text.proofs.EachText.{each_text}
use Rattle.keyword_text.proofs.Settled as texts
use Rattle.plan_text.specs.declared.PlanTextFault.{PlanTextFault}
use Rattle.plan_text.specs.declared.PlanTextFault.TheVariants.{Text, NoMemory}
use Rattle.plan_text.specs.Tokens.{plan_lexicon}
use Rattle.plan_text.specs.PlanLines.{plan_tokens, plan_text}
use Rattle.plan_text.specs.Grammar.{plan_grammar}
use Rattle.plan_text.specs.Steps.{plan_machine}
use Rattle.plan_text.specs.Answers.{SaysPlan, RefusesText, plan_unread, IsReadPlan, PlanRead}
use Rattle.plan_text.specs.Laws.{PlansAreAnswered, PrintedPlansAreAnswered, EachTextHasAnAnswer}
use Rattle.plan_text.proofs.Ranges.{range_of}
use Rattle.plan_text.proofs.Printed.{printed_is_read}
use Rattle.plan_text.proofs.ReadPlans.{reads_plans}

abbrev IsReadAs : List ℕ → Result Plan PlanTextFault → Type 0
IsReadAs bytes answer = IsReadText plan_grammar plan_value plan_unread bytes answer

-- a plan that a text says has its numbers in the grammar's range
pub said_in_range : (bytes : List ℕ) (plan : PlanValue) → SaysPlan bytes plan → IsReadPlan bytes plan
said_in_range bytes plan said =
    record { said = said; range = range_of plan (spelled_small plan_lexicon (words_of bytes) (plan_tokens plan) said.words) said.allowed }

-- what was not read
pub not_read : (bytes : List ℕ) (fault : PlanTextFault) → IsReadAs bytes (Err fault) → PlanRead bytes (Err fault)
not_read bytes (Text line) is = is
not_read bytes NoMemory is = tt

read_as : (bytes : List ℕ) (answer : Result Plan PlanTextFault) → PlanRead bytes answer → IsReadAs bytes answer
read_as bytes (Ok plan) is = is.said
read_as bytes (Err (Text line)) is = is
read_as bytes (Err NoMemory) is = tt

pub answered : PlansAreAnswered
answered bytes plan answer is says = texts.answered plan_grammar plan_machine reads_plans plan_value plan_unread bytes plan answer (read_as bytes answer is) says

pub printed_answered : PrintedPlansAreAnswered
printed_answered plan answer range is = answered (plan_text plan) plan answer is (printed_is_read plan range)

pub each_plan_text : EachTextHasAnAnswer
each_plan_text bytes = by (each_text plan_grammar plan_machine reads_plans bytes) where
  by : ((plan : PlanValue) × SaysPlan bytes plan) ⊎ ((line : ℕ) × RefusesText bytes line) → ((plan : PlanValue) × IsReadPlan bytes plan) ⊎ ((line : ℕ) × RefusesText bytes line)
  by (inl (plan, said)) = inl (plan, said_in_range bytes plan said)
  by (inr refused) = inr refused
