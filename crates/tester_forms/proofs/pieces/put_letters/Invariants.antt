use Rattle.std.proofs.Common.{◌+◌, map, take}
use Rattle.cycle_texts.specs.Rows.{IsPutAt}
use Rattle.tester_forms.specs.Pieces.{letter_of}
use Rattle.tester_forms.proofs.pieces.put_letters.Given as goal

abbrev pub invariant-loop-done : goal.invariant-loop-done
invariant-loop-done l = IsPutAt l.at (map (letter_of l.letters) (take l.done l.compared)) (l.at + l.done) l.initial.text l.text
