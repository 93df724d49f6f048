use Rattle.std.proofs.Common.{◌∙◌, sym, ap, subst, zero-add, length, arith, sum_by, All}
use Rattle.soc_model.specs.Chips.{soc_value, module_value}
use Rattle.soc_model.specs.declared.Which.TheVariants.{Tests, Chains}
use Rattle.soc_model.proofs.Entries.{modules-at_start, length-at_start}
use Rattle.soc_model.proofs.Limits.{modules-le}
use Rattle.soc_model.proofs.Sums.{IsBounded, all_bounded, bounded-next}
use Rattle.split_plan.specs.Steps.{count_in}
use Rattle.split_plan.proofs.Making.{next_module, small_tests}
use Rattle.split_plan.proofs.numbers.count_all.Goals as goal

pub loop-module-init : goal.loop-module-init
loop-module-init c =
    let soc = soc_value c.args.soc.now in
    let starts = c.into_iter-module-iterator.ensures.into_iter_gives ∙ c.values-module-items.ensures.rest in
    let same = modules-at_start c.args.soc.now _ starts in
    let long = length-at_start c.args.soc.now _ starts in
    let most = modules-le soc c.requires.sound.size in
    (zero-add _ ∙ ap (sum_by (count_in c.args.most)) (sym same), omega arith, subst (All IsBounded) same (all_bounded soc c.requires.sound.small (c.requires.sound.size Tests) (c.requires.sound.size Chains)))

pub count_parts-total-requires-clause-small : goal.count_parts-total-requires-clause-small
count_parts-total-requires-clause-small c = small_tests (module_value c.in-Some.module.now) ((bounded-next _ _ _ c.in-Some.ensures.steps c.loop-module.invariant.2).0.small)

pub count_parts-total-requires-clause-few : goal.count_parts-total-requires-clause-few
count_parts-total-requires-clause-few c = (bounded-next _ _ _ c.in-Some.ensures.steps c.loop-module.invariant.2).0.tests

pub loop-module-preserved : goal.loop-module-preserved
loop-module-preserved c =
    let sums = next_module (count_in c.args.most) _ _ _ c.in-Some.ensures.steps in
    let lengths = ap length c.in-Some.ensures.steps in
    (omega arith, omega arith, (bounded-next _ _ _ c.in-Some.ensures.steps c.loop-module.invariant.2).1)
