use Rattle.std.proofs.Common.{◌≡◌, ◌++◌, drop, flat_map}
use Rattle.tester_forms.specs.StilText.{control_signal}
use Rattle.tester_forms.proofs.stil_head.push_signals.Given as goal

abbrev pub invariant-loop-control : goal.invariant-loop-control
invariant-loop-control l =
    l.text.items ++ flat_map control_signal (drop l.control-index l.controls) ≡ l.initial.text.items ++ flat_map control_signal l.controls
