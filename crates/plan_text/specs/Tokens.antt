-- The words of a plan's text.
use Rattle.std.specs.Prelude.{ℕ, List, [], ◌∷◌, codes, map}
use Rattle.plan_model.specs.declared.TheConstants.{PLAN_NUMBER_MOST}
use Rattle.keyword_text.specs.Tokens.{Lexicon}
use Rattle.plan_text.specs.declared.tokens.Keyword.{Keyword}
use Rattle.plan_text.specs.declared.tokens.Keyword.TheVariants as key

-- how a keyword is printed; it is read in any case of its letters
abbrev pub spelling : Keyword → List ℕ
spelling key.Plan = codes "Plan"
spelling key.Cycles = codes "Cycles"
spelling key.Bus = codes "Bus"
spelling key.Wrapper = codes "Wrapper"
spelling key.Scan = codes "scan"
spelling key.Terminals = codes "terminals"
spelling key.Chain = codes "Chain"
spelling key.Start = codes "Start"
spelling key.Bound = codes "Bound"
spelling key.Module = codes "Module"
spelling key.Pair = codes "Pair"
spelling key.Area = codes "Area"
spelling key.Power = codes "Power"
spelling key.Forced = codes "Forced"

-- those that long texts have most come first
abbrev pub keywords : List Keyword
keywords =
    key.Chain ∷ key.Start ∷ key.Wrapper ∷ key.Scan ∷ key.Terminals ∷ key.Plan ∷ key.Cycles ∷ key.Bus ∷ key.Bound
    ∷ key.Module ∷ key.Pair ∷ key.Area ∷ key.Power ∷ key.Forced ∷ []

-- the keywords, and the range of a plan's numbers
abbrev pub plan_lexicon : Lexicon Keyword
plan_lexicon = record { table = map (λ (k : Keyword). (k, spelling k)) keywords; most = PLAN_NUMBER_MOST }
