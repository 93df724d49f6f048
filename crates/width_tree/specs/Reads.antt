-- What was read of a tree's text.
use Rattle.width_tree.specs.declared.reading.TreeReading.{TreeReading}
use Rattle.width_tree.specs.Steps.{State, at, draft_value, part_value}

abbrev pub state_of : TreeReading → State
state_of text = at (draft_value text.draft) (part_value text.part)
