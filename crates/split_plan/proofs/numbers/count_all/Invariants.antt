use Rattle.std.proofs.Common.{◌≡◌, ◌+◌, ◌*◌, ◌≤◌, ◌^◌, length, map, sum_by, All}
use Rattle.soc_model.specs.Chips.{soc_value, module_value}
use Rattle.soc_model.proofs.Sums.{IsBounded}
use Rattle.split_plan.specs.Steps.{count_in, count_all}
use Rattle.split_plan.proofs.numbers.count_all.Given as goal

abbrev pub invariant-loop-module : goal.invariant-loop-module
invariant-loop-module l =
    (l.total + sum_by (count_in l.most) (map module_value l.module-iterator) ≡ count_all l.most (soc_value l.soc))
    × (l.total + 10 ^ 16 * length l.module-iterator ≤ 10 ^ 19)
    × All IsBounded (map module_value l.module-iterator)
