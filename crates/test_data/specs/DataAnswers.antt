-- What is answered of the text of test data.
use Rattle.std.specs.Prelude.{ℕ, List, Result, Ok, Err}
use Rattle.test_data.specs.declared.DataFault.{DataFault}
use Rattle.test_data.specs.declared.DataFault.TheVariants.{Text, NoMemory}
use Rattle.test_data.specs.DataWords.{EntryValue, SaysData, RefusesData}

-- The entries that the text says; or the line at which it is refused; or memory ran out.
abbrev pub IsReadData : List ℕ → Result (List EntryValue) DataFault → Type 0
IsReadData bytes (Ok es) = SaysData bytes es
IsReadData bytes (Err (Text line)) = RefusesData bytes line
IsReadData bytes (Err NoMemory) = Unit {0}
