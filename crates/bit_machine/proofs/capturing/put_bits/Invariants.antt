use Rattle.std.proofs.Common.{◌≡◌, ◌+◌, ◌++◌, take, drop}
use Rattle.bit_machine.proofs.capturing.put_bits.Given as goal

abbrev pub invariant-loop-place : goal.invariant-loop-place
invariant-loop-place l = l.bits ≡ take l.at l.initial.bits ++ take l.place l.answer ++ drop (l.at + l.place) l.initial.bits
