-- The grammar of a program's text: a set of whole lists of words.
use Rattle.std.specs.Prelude.{◌≤◌}
use Rattle.std.specs.List.{All}
use Rattle.plan_model.specs.declared.TheConstants.{PLAN_NUMBER_MOST}
use Rattle.keyword_text.specs.Texts.{Grammar}
use Rattle.shift_program.specs.declared.Entry.{Entry}
use Rattle.shift_program.specs.declared.Entry.TheVariants as entry
use Rattle.shift_program.specs.declared.tokens.Keyword.{Keyword}
use Rattle.shift_program.specs.Programs.{ProgramValue, IsLasting}
use Rattle.shift_program.specs.Tokens.{program_lexicon, program_tokens}

-- the words of a program are those of its test and its entries; each Rest and each Shift has at least one cycle
abbrev pub program_grammar : Grammar Keyword ProgramValue
program_grammar = record { lexicon = program_lexicon; tokens = program_tokens; Allowed = λ (p : ProgramValue). All IsLasting p.entries }

-- the number of an entry is in the grammar's range
abbrev pub IsSmallEntry : Entry → Type 0
IsSmallEntry (entry.Rest cycles) = cycles ≤ PLAN_NUMBER_MOST
IsSmallEntry (entry.Shift cycles) = cycles ≤ PLAN_NUMBER_MOST
IsSmallEntry (entry.Capture pattern) = pattern ≤ PLAN_NUMBER_MOST

-- every number of the program is in the grammar's range
pub record IsInRange (program : ProgramValue) : Type 0 where
  pub of : program.test.«module» ≤ PLAN_NUMBER_MOST
  pub number : program.test.test ≤ PLAN_NUMBER_MOST
  pub entries : All IsSmallEntry program.entries
