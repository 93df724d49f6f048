use Rattle.std.proofs.Common.{◌≡◌, ◌+◌, ◌*◌, ◌≤◌, ◌^◌, length, map, sum_by}
use Rattle.soc_model.specs.Chips.{soc_value, module_value, live_tests}
use Rattle.plan_commands.proofs.LiveCounts.{live_in}
use Rattle.plan_commands.proofs.samples.count_tests.Given as goal

abbrev pub invariant-loop-module : goal.invariant-loop-module
invariant-loop-module l =
    (l.count + sum_by live_in (map module_value l.module-iterator) ≡ length (live_tests (soc_value l.soc)))
    × (l.count + 2 ^ 64 * length l.module-iterator ≤ 2 ^ 64 * 1000)
