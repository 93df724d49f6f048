use Rattle.std.proofs.Common.{◌≡◌, ◌++◌, drop}
use Rattle.report.specs.BusLines.{bus_lines}
use Rattle.report.proofs.buses.push_buses.Given as goal

abbrev pub invariant-loop-place : goal.invariant-loop-place
invariant-loop-place l = l.text.items ++ bus_lines l.cycles l.tests l.place (drop l.place l.ws) ≡ l.initial.text.items ++ bus_lines l.cycles l.tests 0 l.ws
