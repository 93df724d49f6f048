use Rattle.std.proofs.Common.{◌∙◌, sym, ap, subst, zero-add, length, arith, sum_by, All}
use Rattle.soc_model.specs.Chips.{soc_value}
use Rattle.soc_model.specs.declared.Which.TheVariants.{Tests, Chains}
use Rattle.soc_model.proofs.Entries.{modules-at_start, length-at_start}
use Rattle.soc_model.proofs.Limits.{modules-le}
use Rattle.soc_model.proofs.Sums.{IsBounded, all_bounded, bounded-next}
use Rattle.split_plan.specs.Steps.{module_work}
use Rattle.split_plan.proofs.Making.{next_module}
use Rattle.split_plan.proofs.numbers.total_work.Goals as goal

pub loop-module-init : goal.loop-module-init
loop-module-init c =
    let soc = soc_value c.args.soc.now in
    let starts = c.into_iter-module-iterator.ensures.into_iter_gives ∙ c.values-module-items.ensures.rest in
    let same = modules-at_start c.args.soc.now _ starts in
    let long = length-at_start c.args.soc.now _ starts in
    let most = modules-le soc c.requires.sound.size in
    (zero-add _ ∙ ap (sum_by (module_work c.args.most)) (sym same), omega arith, subst (All IsBounded) same (all_bounded soc c.requires.sound.small (c.requires.sound.size Tests) (c.requires.sound.size Chains)))

pub module_work-sum-requires-clause-small : goal.module_work-sum-requires-clause-small
module_work-sum-requires-clause-small c = (bounded-next _ _ _ c.in-Some.ensures.steps c.loop-module.invariant.2).0.small

pub module_work-sum-requires-clause-chains : goal.module_work-sum-requires-clause-chains
module_work-sum-requires-clause-chains c = (bounded-next _ _ _ c.in-Some.ensures.steps c.loop-module.invariant.2).0.chains

pub module_work-sum-requires-clause-tests : goal.module_work-sum-requires-clause-tests
module_work-sum-requires-clause-tests c = (bounded-next _ _ _ c.in-Some.ensures.steps c.loop-module.invariant.2).0.tests

pub loop-module-preserved : goal.loop-module-preserved
loop-module-preserved c =
    let sums = next_module (module_work c.args.most) _ _ _ c.in-Some.ensures.steps in
    let lengths = ap length c.in-Some.ensures.steps in
    (omega arith, omega arith, (bounded-next _ _ _ c.in-Some.ensures.steps c.loop-module.invariant.2).1)
