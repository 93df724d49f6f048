use Rattle.std.proofs.Common.{◌≡◌, ◌+◌, ◌*◌, ◌^◌, ◌≤◌, length}
use Rattle.std.specs.Prelude.{sum_by}
use Rattle.soc_model.specs.declared.Module.{Module}
use Rattle.soc_model.specs.Chips.{soc_value}
use Rattle.soc_model.specs.Sizes.{all_tests}
use Rattle.soc_model.proofs.sizes.count_tests.Given as goal

abbrev pub invariant-loop-module : goal.invariant-loop-module
invariant-loop-module l =
    (l.total + sum_by (λ (m : Module). length m.tests.items) l.module-iterator ≡ length (all_tests (soc_value l.soc)))
    × (l.total + 2 ^ 64 * length l.module-iterator ≤ 2 ^ 64 * 1000)
