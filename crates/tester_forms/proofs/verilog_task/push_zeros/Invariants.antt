use Rattle.std.proofs.Common.{◌≡◌, ◌++◌, replicate}
use Rattle.tester_forms.proofs.verilog_task.push_zeros.Given as goal

abbrev pub invariant-loop-wire : goal.invariant-loop-wire
invariant-loop-wire l = l.text.items ≡ l.initial.text.items ++ replicate l._wire 48
