-- What the reader's values stand for.
use Rattle.std.specs.Prelude.{◌≡◌, Option, None, Some, Result, Ok, Err}
use Rattle.outside.specs.declared.reading.Stop.{Stop}
use Rattle.outside.specs.declared.reading.Stop.TheVariants.{Refused, NoMemory}
use Rattle.shift_program.specs.declared.steps.Draft.{Draft}
use Rattle.shift_program.specs.declared.steps.Part.{Part}
use Rattle.shift_program.specs.Programs.{ProgramValue}
use Rattle.shift_program.specs.Steps.{State, at}

abbrev pub draft_value : Draft → ProgramValue
draft_value d = record { test = d.test; entries = d.entries.items }

-- The next part is this one; or there is none.
abbrev pub Begins : Option Part → Result Part Stop → Type 0
Begins next (Ok part) = next ≡ Some part
Begins next (Err Refused) = next ≡ None
Begins next (Err NoMemory) = Unit {0}

-- The next state is this draft and this part; or there is none.
abbrev pub Steps : Option State → Result Part Stop → Draft → Type 0
Steps next (Ok part) draft = next ≡ Some (at (draft_value draft) part)
Steps next (Err Refused) draft = next ≡ None
Steps next (Err NoMemory) draft = Unit {0}
