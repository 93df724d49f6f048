use Rattle.std.proofs.Common.{◌≡◌, drop}
use Rattle.report.specs.Peaks.{no_power, peak_after}
use Rattle.report.proofs.peak.peak_of.Given as goal

abbrev pub invariant-loop-cycle : goal.invariant-loop-cycle
invariant-loop-cycle l = peak_after l.peak (drop l.cycle-index l.steps) ≡ peak_after no_power l.steps
