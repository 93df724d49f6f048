use Rattle.std.proofs.Common.{◌≡◌, ◌++◌, map, take}
use Rattle.controls.specs.Controls.{capture_of}
use Rattle.controls.proofs.push_captures.Given as goal

abbrev pub invariant-loop-number : goal.invariant-loop-number
invariant-loop-number l = l.list.items ≡ l.initial.list.items ++ map capture_of (take l.number-index l.numbers)
