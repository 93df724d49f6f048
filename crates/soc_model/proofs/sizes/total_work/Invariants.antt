use Rattle.std.proofs.Common.{◌≡◌, ◌+◌, ◌*◌, ◌≤◌, ◌^◌, length, map}
use Rattle.std.specs.List.{sum_by, All}
use Rattle.soc_model.specs.Chips.{soc_value, module_value}
use Rattle.soc_model.specs.Sizes.{work}
use Rattle.soc_model.proofs.Sums.{work_in, IsBounded}
use Rattle.soc_model.proofs.sizes.total_work.Given as goal

abbrev pub invariant-loop-module : goal.invariant-loop-module
invariant-loop-module l =
    (l.sum + sum_by work_in (map module_value l.module-iterator) ≡ work (soc_value l.soc))
    × (l.sum + 10 ^ 32 * length l.module-iterator ≤ 10 ^ 35)
    × All IsBounded (map module_value l.module-iterator)
