-- What was read of a proof's text.
use Rattle.proof_text.specs.declared.reading.ProofText.{ProofText}
use Rattle.proof_text.specs.Words.{State, at}
use Rattle.proof_text.specs.PartValues.{draft_value, part_value}

abbrev pub state_of : ProofText → State
state_of text = at (draft_value text.read.value.draft) (part_value text.read.value.part)
