use Rattle.std.proofs.Common.{◌≡◌, ◌+◌, ◌*◌, ◌^◌, ◌≤◌, drop}
use Rattle.soc_model.specs.Chips.{module_value}
use Rattle.plan_model.specs.Views.{wrapper_value}
use Rattle.packed_wrappers.proofs.ModeTimes.{times_in}
use Rattle.packed_wrappers.proofs.wrapping.cycles_in.Given as goal

abbrev pub invariant-loop-test : goal.invariant-loop-test
invariant-loop-test l = record {
  cycles : l.cycles + times_in (module_value l.module) (wrapper_value l.wrapper) (drop l.test-index l.test-items) ≡ times_in (module_value l.module) (wrapper_value l.wrapper) l.test-items;
  small : l.cycles ≤ l.test-index * 10 ^ 18;
}
