-- What is answered of a text.
use Rattle.std.specs.Prelude.{◌≡◌, ℕ, Bool, List, Option, None, Some, Result, Ok, Err}
use Rattle.outside.specs.Words.{words_of}
use Rattle.outside.specs.declared.reading.Unread.{Unread}
use Rattle.outside.specs.declared.reading.Unread.TheVariants as unread
use Rattle.soc_model.specs.declared.TestId.{TestId}
use Rattle.soc_model.specs.Chips.{SocValue}
use Rattle.plan_model.specs.declared.Limits.{Limits}
use Rattle.plan_model.specs.Plans.{LimitsValue}
use Rattle.plan_model.specs.Views.{limits_value}
use Rattle.plan_model.specs.SoundLimits.{IsAcyclic, IsSoundLimits}
use Rattle.limits_text.specs.declared.LimFault.{LimFault}
use Rattle.limits_text.specs.declared.LimFault.TheVariants as fault
use Rattle.limits_text.specs.Items.{Item}
use Rattle.outside.specs.Grammars.{IsRefused}
use Rattle.limits_text.specs.Grammar.{IsText, InGrammar}
use Rattle.limits_text.specs.Meaning.{limits_of, first_unknown, IsFirstPassing}
use Rattle.limits_text.specs.Loops.{IsLoopOf}

-- the text says these limits
pub record SaysLimits (bytes : List ℕ) (limits : LimitsValue) : Type 0 where
  pub form : Bool
  pub items : List Item
  pub text : IsText form items (words_of bytes)
  pub limits_are : limits ≡ limits_of items

-- the text says these limits, and names tests of the chip alone
pub record SaysKnown (bytes : List ℕ) (soc : SocValue) (limits : LimitsValue) : Type 0 where
  pub says : SaysLimits bytes limits
  pub known : first_unknown soc says.items ≡ None

-- limits that are read of a text for a chip
pub record AreReadLimits (bytes : List ℕ) (soc : SocValue) (limits : LimitsValue) : Type 0 where
  pub said : SaysKnown bytes soc limits
  pub sound : IsSoundLimits soc limits

-- the text says limits, and names first on this line a test that the chip hasn't
pub record NamesUnknown (bytes : List ℕ) (soc : SocValue) (line : ℕ) : Type 0 where
  pub limits : LimitsValue
  pub says : SaysLimits bytes limits
  pub first : first_unknown soc says.items ≡ Some line

-- the text says limits for the chip whose precedences have this loop
pub record HasLoop (bytes : List ℕ) (soc : SocValue) (tests : List TestId) : Type 0 where
  pub limits : LimitsValue
  pub said : SaysKnown bytes soc limits
  pub circle : IsLoopOf soc limits tests

-- the text says limits for the chip without a loop, and this live test is the first that passes the limit, with this power
pub record PassesPower (bytes : List ℕ) (soc : SocValue) (test : TestId) (power : ℕ) : Type 0 where
  pub limits : LimitsValue
  pub said : SaysKnown bytes soc limits
  pub acyclic : IsAcyclic soc limits
  pub passes : IsFirstPassing soc limits test power

-- The answer is the limits that the text says, and they are sound; or the first refusal that stands; or memory ran out.
abbrev pub LimitsRead : List ℕ → SocValue → Result Limits LimFault → Type 0
LimitsRead bytes soc (Ok limits) = AreReadLimits bytes soc (limits_value limits)
LimitsRead bytes soc (Err (fault.Text line)) = IsRefused InGrammar bytes line
LimitsRead bytes soc (Err (fault.UnknownTest line)) = NamesUnknown bytes soc line
LimitsRead bytes soc (Err (fault.Cycle tests)) = HasLoop bytes soc tests.items
LimitsRead bytes soc (Err (fault.TestPower test power)) = PassesPower bytes soc test power
LimitsRead bytes soc (Err fault.NoMemory) = Unit {0}

-- what a text may be for a chip: limits, or a refusal with what it shows
pub data Reading : Type 0 where
  read_as : LimitsValue → Reading
  refused_line : ℕ → Reading
  unknown_line : ℕ → Reading
  shown_loop : List TestId → Reading
  passing_power : TestId → ℕ → Reading

-- the text is that for the chip
abbrev pub IsReading : List ℕ → SocValue → Reading → Type 0
IsReading bytes soc (read_as limits) = AreReadLimits bytes soc limits
IsReading bytes soc (refused_line line) = IsRefused InGrammar bytes line
IsReading bytes soc (unknown_line line) = NamesUnknown bytes soc line
IsReading bytes soc (shown_loop tests) = HasLoop bytes soc tests
IsReading bytes soc (passing_power test power) = PassesPower bytes soc test power

-- what an answer says that the text is; out of memory says nothing
abbrev pub reading_of : Result Limits LimFault → Option Reading
reading_of (Ok limits) = Some (read_as (limits_value limits))
reading_of (Err (fault.Text line)) = Some (refused_line line)
reading_of (Err (fault.UnknownTest line)) = Some (unknown_line line)
reading_of (Err (fault.Cycle tests)) = Some (shown_loop tests.items)
reading_of (Err (fault.TestPower test power)) = Some (passing_power test power)
reading_of (Err fault.NoMemory) = None

-- the fault of a text whose items were not read
abbrev pub fault_of : Unread → LimFault
fault_of (unread.Refused line) = fault.Text line
fault_of unread.NoMemory = fault.NoMemory
