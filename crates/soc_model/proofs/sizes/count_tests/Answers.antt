use Rattle.std.proofs.Common.{◌∙◌, arith, zero-add}
use Rattle.soc_model.proofs.Entries.{counts-at_start, length-at_start}
use Rattle.soc_model.proofs.sizes.count_tests.Goals as goal

pub loop-module-init : goal.loop-module-init
loop-module-init c =
    let starts = c.into_iter-module-iterator.ensures.into_iter_gives ∙ c.values-module-items.ensures.rest in
    let many = length-at_start c.args.soc.now _ starts in
    (zero-add _ ∙ counts-at_start c.args.soc.now _ starts, omega arith)
