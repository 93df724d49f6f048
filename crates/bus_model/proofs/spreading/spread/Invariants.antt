use Rattle.std.proofs.Common.{◌≡◌, ℕ, ◌+◌, ◌<◌, ◌≤◌, length}
use Rattle.bus_model.specs.Buses.{arch_value, spread_of}
use Rattle.bus_model.specs.Sound.{IsSoundArch, wires_used}
use Rattle.bus_model.proofs.spreading.spread.Given as goal

abbrev pub invariant-loop-given : goal.invariant-loop-given
invariant-loop-given l = record {
  sound : IsSoundArch l.table (arch_value l.arch);
  some : 0 < l.wires → 0 < length (arch_value l.arch);
  free : wires_used (arch_value l.arch) + l.wires ≤ l.table.wires + l._given;
  value : (n : ℕ) → l._given + n ≡ l.wires → spread_of l.table n (arch_value l.arch) ≡ spread_of l.table l.wires (arch_value l.initial.arch);
}
