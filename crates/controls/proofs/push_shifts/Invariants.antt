use Rattle.std.proofs.Common.{◌≡◌, ◌++◌, map, take}
use Rattle.controls.specs.Controls.{shift_of}
use Rattle.controls.proofs.push_shifts.Given as goal

abbrev pub invariant-loop-number : goal.invariant-loop-number
invariant-loop-number l = l.list.items ≡ l.initial.list.items ++ map shift_of (take l.number-index l.numbers)
