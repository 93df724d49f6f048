use Rattle.std.proofs.Common.{◌≡◌, ◌+◌, drop}
use Rattle.report.specs.ModuleLines.{wired_cycles}
use Rattle.report.proofs.modules.wired_cycles.Given as goal

abbrev pub invariant-loop-test : goal.invariant-loop-test
invariant-loop-test l = l.taken + wired_cycles (drop l.test-index l.tests) l.place ≡ wired_cycles l.tests l.place
