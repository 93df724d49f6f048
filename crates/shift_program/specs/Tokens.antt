-- The words of a program's text.
use Rattle.std.specs.Prelude.{ℕ, List, [], ◌∷◌, codes, map}
use Rattle.std.specs.List.{flat_map}
use Rattle.plan_model.specs.declared.TheConstants.{PLAN_NUMBER_MOST}
use Rattle.keyword_text.specs.declared.tokens.Token.{Token}
use Rattle.keyword_text.specs.declared.tokens.Token.TheVariants.{Key, Number}
use Rattle.keyword_text.specs.Tokens.{Lexicon}
use Rattle.shift_program.specs.declared.Entry.{Entry}
use Rattle.shift_program.specs.declared.Entry.TheVariants as entry
use Rattle.shift_program.specs.declared.tokens.Keyword.{Keyword}
use Rattle.shift_program.specs.declared.tokens.Keyword.TheVariants as key
use Rattle.shift_program.specs.Programs.{ProgramValue}

-- how a keyword is spelled; it is read in any case of its letters
abbrev pub spelling : Keyword → List ℕ
spelling key.Program = codes "Program"
spelling key.Test = codes "Test"
spelling key.Rest = codes "Rest"
spelling key.Shift = codes "Shift"
spelling key.Capture = codes "Capture"

abbrev pub keywords : List Keyword
keywords = key.Program ∷ key.Test ∷ key.Rest ∷ key.Shift ∷ key.Capture ∷ []

-- the keywords, and the range of a program's numbers
abbrev pub program_lexicon : Lexicon Keyword
program_lexicon = record { table = map (λ (k : Keyword). (k, spelling k)) keywords; most = PLAN_NUMBER_MOST }

-- the words of an entry
abbrev pub entry_tokens : Entry → List (Token Keyword)
entry_tokens (entry.Rest cycles) = Key key.Rest ∷ Number cycles ∷ []
entry_tokens (entry.Shift cycles) = Key key.Shift ∷ Number cycles ∷ []
entry_tokens (entry.Capture pattern) = Key key.Capture ∷ Number pattern ∷ []

-- the words of a program
abbrev pub program_tokens : ProgramValue → List (Token Keyword)
program_tokens p =
    Key key.Program ∷ Number 1 ∷ Key key.Test ∷ Number p.test.«module» ∷ Number p.test.test ∷ flat_map entry_tokens p.entries
