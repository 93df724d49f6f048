use Rattle.std.proofs.Common.{◌≡◌, ◌++◌, drop, flat_map}
use Rattle.tester_forms.specs.StilText.{added}
use Rattle.tester_forms.proofs.stil_head.push_added.Given as goal

abbrev pub invariant-loop-control : goal.invariant-loop-control
invariant-loop-control l = l.text.items ++ flat_map added (drop l.control-index l.controls) ≡ l.initial.text.items ++ flat_map added l.controls
