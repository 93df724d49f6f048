use Rattle.std.proofs.Common.{ℕ, ◌+◌, ◌-◌, ◌<◌, ◌≤◌}
use Rattle.bound_rules.specs.Sizes.{tam_times_by}
use Rattle.bound_rules.proofs.widths.least_width.Given as goal

abbrev pub invariant-loop-low : goal.invariant-loop-low
invariant-loop-low l = record {
  some : 1 ≤ l.low;
  order : l.low ≤ l.high;
  within : l.high ≤ l.wires + 1;
  before : (v : ℕ) → 1 ≤ v → v < l.low → l.claimed ≤ tam_times_by l.sizes v l.tests;
  here : l.high ≤ l.wires → tam_times_by l.sizes l.high l.tests < l.claimed;
}

abbrev pub decreases-loop-low : goal.decreases-loop-low
decreases-loop-low l = l.high - l.low
