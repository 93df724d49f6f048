-- The grammar of a plan's text: a set of whole lists of words.
use Rattle.std.specs.Prelude.{◌≤◌, ℕ, List}
use Rattle.std.specs.List.{All}
use Rattle.soc_model.specs.declared.TestId.{TestId}
use Rattle.plan_model.specs.Cells.{ChainValue}
use Rattle.plan_model.specs.Plans.{BusValue, WrapperValue, WhyValue, OfModule, OfPair, OfChain, OfArea, OfPower, OfForced, PlanValue}
use Rattle.plan_model.specs.declared.TheConstants.{PLAN_NUMBER_MOST, START_MOST}
use Rattle.keyword_text.specs.Texts.{Grammar}
use Rattle.plan_text.specs.declared.tokens.Keyword.{Keyword}
use Rattle.plan_text.specs.Tokens.{plan_lexicon}
use Rattle.plan_text.specs.PlanLines.{plan_tokens}

-- no start is after the greatest that a text may give
abbrev pub AreSmallStarts : List (TestId × ℕ) → Type 0
AreSmallStarts starts = All (λ (s : TestId × ℕ). s.1 ≤ START_MOST) starts

-- the words of a plan are those of its lines, where no start is too great
abbrev pub plan_grammar : Grammar Keyword PlanValue
plan_grammar = record { lexicon = plan_lexicon; tokens = plan_tokens; Allowed = λ (p : PlanValue). AreSmallStarts p.starts }

-- ---- the numbers of a text's plan

abbrev pub IsNumber : ℕ → Type 0
IsNumber n = n ≤ PLAN_NUMBER_MOST

abbrev pub AreNumbers : List ℕ → Type 0
AreNumbers ns = All IsNumber ns

pub record IsBusInRange (bus : BusValue) : Type 0 where
  pub width : IsNumber bus.width
  pub modules : AreNumbers bus.modules

pub record IsChainInRange (chain : ChainValue) : Type 0 where
  pub ins : IsNumber chain.ins
  pub outs : IsNumber chain.outs
  pub scans : AreNumbers chain.scans

pub record IsWrapperInRange (wrapper : WrapperValue) : Type 0 where
  pub number : IsNumber wrapper.«module»
  pub chains : All IsChainInRange wrapper.chains

pub record IsTestInRange (test : TestId) : Type 0 where
  pub of : IsNumber test.«module»
  pub number : IsNumber test.test

pub record IsStartInRange (start : TestId × ℕ) : Type 0 where
  pub of : IsTestInRange start.0
  pub small : start.1 ≤ START_MOST

abbrev pub IsReasonInRange : WhyValue → Type 0
IsReasonInRange (OfModule m) = IsNumber m
IsReasonInRange (OfPair m) = IsNumber m
IsReasonInRange (OfChain tests) = All IsTestInRange tests
IsReasonInRange OfArea = Unit {0}
IsReasonInRange OfPower = Unit {0}
IsReasonInRange (OfForced modules) = AreNumbers modules

-- every number of the plan is in the grammar's range
pub record IsInRange (plan : PlanValue) : Type 0 where
  pub buses : All IsBusInRange plan.buses
  pub wrappers : All IsWrapperInRange plan.wrappers
  pub starts : All IsStartInRange plan.starts
  pub cycles : IsNumber plan.cycles
  pub claimed : IsNumber plan.bound.cycles
  pub reason : IsReasonInRange plan.bound.why
