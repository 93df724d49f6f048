use Rattle.std.proofs.Common.{◌≡◌, ◌++◌, drop}
use Rattle.tester_forms.specs.VerilogText.{control_ports}
use Rattle.tester_forms.proofs.verilog_chip.push_ports.Given as goal

abbrev pub invariant-loop-place : goal.invariant-loop-place
invariant-loop-place l = l.text.items ++ control_ports l.place (drop l.place l.controls) ≡ l.initial.text.items ++ control_ports 0 l.controls
