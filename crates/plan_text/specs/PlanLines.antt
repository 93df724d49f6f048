-- The lines of a plan, as what is read and what is printed.
use Rattle.std.specs.Prelude.{ℕ, List, [], ◌∷◌, ◌++◌, Bool, true, false, map, if◌then◌else◌}
use Rattle.std.specs.List.{flat_map}
use Rattle.soc_model.specs.declared.TestId.{TestId}
use Rattle.plan_model.specs.Cells.{ChainValue}
use Rattle.plan_model.specs.Plans.{BusValue, WrapperValue, WhyValue, OfModule, OfPair, OfChain, OfArea, OfPower, OfForced, BoundValue, PlanValue}
use Rattle.keyword_text.specs.declared.tokens.Token.{Token}
use Rattle.keyword_text.specs.declared.tokens.Token.TheVariants.{Key, Number}
use Rattle.keyword_text.specs.Lines.{Line, line, tokens_of, text_of}
use Rattle.plan_text.specs.declared.tokens.Keyword.{Keyword}
use Rattle.plan_text.specs.declared.tokens.Keyword.TheVariants as key
use Rattle.plan_text.specs.Tokens.{spelling}

abbrev pub bus_line : BusValue → Line Keyword
bus_line b = record { head = key.Bus; others = Number b.width ∷ []; colon = true; listed = b.modules }

abbrev pub mode_key : Bool → Keyword
mode_key scan = if scan then key.Scan else key.Terminals

abbrev pub chain_line : ChainValue → Line Keyword
chain_line c = record { head = key.Chain; others = Number c.ins ∷ Number c.outs ∷ []; colon = true; listed = c.scans }

abbrev pub wrapper_line : ℕ → Bool → Line Keyword
wrapper_line m scan = line key.Wrapper (Number m ∷ Key (mode_key scan) ∷ [])

abbrev pub wrapper_lines : WrapperValue → List (Line Keyword)
wrapper_lines w = wrapper_line w.«module» w.scan ∷ map chain_line w.chains

abbrev pub start_line : TestId × ℕ → Line Keyword
start_line s = line key.Start (Number s.0.«module» ∷ Number s.0.test ∷ Number s.1 ∷ [])

abbrev pub test_numbers : TestId → List ℕ
test_numbers t = t.«module» ∷ t.test ∷ []

abbrev pub reason_key : WhyValue → Keyword
reason_key (OfModule m) = key.Module
reason_key (OfPair m) = key.Pair
reason_key (OfChain tests) = key.Chain
reason_key OfArea = key.Area
reason_key OfPower = key.Power
reason_key (OfForced modules) = key.Forced

abbrev pub reason_numbers : WhyValue → List ℕ
reason_numbers (OfModule m) = m ∷ []
reason_numbers (OfPair m) = m ∷ []
reason_numbers (OfChain tests) = flat_map test_numbers tests
reason_numbers OfArea = []
reason_numbers OfPower = []
reason_numbers (OfForced modules) = modules

abbrev pub bound_line_by : ℕ → WhyValue → Line Keyword
bound_line_by cycles why =
    record { head = key.Bound; others = Number cycles ∷ Key (reason_key why) ∷ []; colon = false; listed = reason_numbers why }

abbrev pub bound_line : BoundValue → Line Keyword
bound_line b = bound_line_by b.cycles b.why

-- the form, and the cycles
abbrev pub head_lines : ℕ → List (Line Keyword)
head_lines cycles = line key.Plan (Number 1 ∷ []) ∷ line key.Cycles (Number cycles ∷ []) ∷ []

abbrev pub plan_lines : PlanValue → List (Line Keyword)
plan_lines p =
    head_lines p.cycles
    ++ (map bus_line p.buses ++ (flat_map wrapper_lines p.wrappers ++ (map start_line p.starts ++ bound_line p.bound ∷ [])))

-- what the words of a plan stand for
unfoldable pub plan_tokens : PlanValue → List (Token Keyword)
plan_tokens p = tokens_of (plan_lines p)

-- the text of a plan, as it is printed
unfoldable pub plan_text : PlanValue → List ℕ
plan_text p = text_of spelling (plan_lines p)
