-- What was read of a program's text.
use Rattle.shift_program.specs.declared.reading.ProgramText.{ProgramText}
use Rattle.shift_program.specs.Steps.{State, at}
use Rattle.shift_program.specs.PartValues.{draft_value}

abbrev pub state_of : ProgramText → State
state_of text = at (draft_value text.draft) text.part
