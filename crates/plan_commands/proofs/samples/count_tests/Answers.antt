use Rattle.std.proofs.Common.{◌∙◌, ap, sym, length, zero-add, arith, sum_by}
use Rattle.soc_model.specs.Chips.{soc_value}
use Rattle.soc_model.proofs.Entries.{modules-at_start, length-at_start}
use Rattle.soc_model.proofs.Limits.{modules-le}
use Rattle.plan_commands.proofs.LiveCounts.{live_in, live_counted, live_next}
use Rattle.plan_commands.proofs.samples.count_tests.Goals as goal

pub loop-module-init : goal.loop-module-init
loop-module-init c =
    let soc = soc_value c.args.soc.now in
    let starts = c.into_iter-module-iterator.ensures.into_iter_gives ∙ c.values-module-items.ensures.rest in
    let same = modules-at_start c.args.soc.now _ starts in
    let many = length-at_start c.args.soc.now _ starts in
    let most = modules-le soc c.requires.size in
    (zero-add _ ∙ ap (sum_by live_in) (sym same) ∙ sym (live_counted 0 soc.modules), omega arith)

pub loop-module-preserved : goal.loop-module-preserved
loop-module-preserved c =
    let sums = live_next _ _ _ c.in-Some.ensures.steps in
    let lengths = ap length c.in-Some.ensures.steps in
    (omega arith, omega arith)
