use Rattle.std.proofs.Common.{◌<◌, length, arith}
use Rattle.soc_model.specs.Chips.{module_value}
use Rattle.soc_model.proofs.Sums.{small_module}
use Rattle.split_plan.proofs.numbers.module_work.Goals as goal

pub cells_and_one-cells-requires-clause-terminals : goal.cells_and_one-cells-requires-clause-terminals
cells_and_one-cells-requires-clause-terminals c =
    let small = small_module (module_value c.args.module.now) c.requires.small in
    omega arith

pub cells_and_one-cells-requires-clause-small : goal.cells_and_one-cells-requires-clause-small
cells_and_one-cells-requires-clause-small c = (small_module (module_value c.args.module.now) c.requires.small).chains

pub work_of-sum-requires-clause-patterns : goal.work_of-sum-requires-clause-patterns
work_of-sum-requires-clause-patterns c =
    let lt : c.loop-test.test-index < length c.args.module.now.tests.items = omega arith in
    rw c.deref-test-items.ensures.value ((small_module (module_value c.args.module.now) c.requires.small).tests c.loop-test.test-index _ lt)

pub work_of-sum-requires-clause-setup : goal.work_of-sum-requires-clause-setup
work_of-sum-requires-clause-setup c = (small_module (module_value c.args.module.now) c.requires.small).setup
