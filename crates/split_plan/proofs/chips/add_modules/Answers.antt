use Rattle.std.proofs.Common.{◌∙◌, ap, map}
use Rattle.std.proofs.lemmas.List.Elements.{All-head}
use Rattle.soc_model.specs.declared.Which.TheVariants.{Tests, Chains}
use Rattle.soc_model.specs.Chips.{soc_value, module_value}
use Rattle.soc_model.proofs.Entries.{modules-at_start}
use Rattle.soc_model.proofs.Sums.{IsBounded, all_bounded}
use Rattle.plan_model.specs.Views.{limits_value}
use Rattle.split_plan.proofs.Making.{small_tests, making_starts, next_is_new, making_goes_on}
use Rattle.split_plan.proofs.chips.add_modules.Goals as goal

pub loop-module-init : goal.loop-module-init
loop-module-init c =
    let soc = soc_value c.args.soc.now in
    let starts = c.into_iter-module-iterator.ensures.into_iter_gives ∙ c.values-module-items.ensures.rest in
    let sound = c.requires.chip in
    making_starts (limits_value c.args.limits.now) c.args.most soc (soc_value c.args.made.now.soc) c.args.made.now.cuts.items _ c.requires.no_module c.requires.no_cut (modules-at_start c.args.soc.now _ starts) sound.keyed
    (all_bounded soc sound.small (sound.size Tests) (sound.size Chains))

pub add_module-requires-clause-new : goal.add_module-requires-clause-new
add_module-requires-clause-new c =
    let goes = ap (map module_value) c.in-Some.ensures.steps in
    let making = rw goes at c.loop-module.invariant in
    next_is_new (limits_value c.args.limits.now) c.args.most (soc_value c.args.soc.now) (soc_value c.loop-module.made.soc) c.loop-module.made.cuts.items (module_value c.in-Some.module.now) _ c.requires.chip making

pub add_module-requires-clause-small : goal.add_module-requires-clause-small
add_module-requires-clause-small c =
    let goes = ap (map module_value) c.in-Some.ensures.steps in
    let making = rw goes at c.loop-module.invariant in
    small_tests (module_value c.in-Some.module.now) (All-head IsBounded (module_value c.in-Some.module.now) _ making.bounded).small

pub add_module-requires-clause-few : goal.add_module-requires-clause-few
add_module-requires-clause-few c =
    let goes = ap (map module_value) c.in-Some.ensures.steps in
    let making = rw goes at c.loop-module.invariant in
    (All-head IsBounded (module_value c.in-Some.module.now) _ making.bounded).tests

pub loop-module-preserved : goal.loop-module-preserved
loop-module-preserved c =
    let goes = ap (map module_value) c.in-Some.ensures.steps in
    let making = rw goes at c.loop-module.invariant in
    making_goes_on (limits_value c.args.limits.now) c.args.most (soc_value c.args.soc.now) (soc_value c.loop-module.made.soc) (soc_value c.add_module.new.made.soc) c.loop-module.made.cuts.items c.add_module.new.made.cuts.items (module_value c.in-Some.module.now) _ making
    c.in_ok-add_module.ensures.chip c.in_ok-add_module.ensures.cuts c.in_ok-add_module.ensures.room
