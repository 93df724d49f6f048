use Rattle.std.proofs.Common.{◌≡◌, ◌∷◌, [], ◌∙◌, ap, sym, map, rules}
use Rattle.soc_model.specs.Chips.{soc_value, module_value, live_from, live_tests}
use Rattle.soc_model.proofs.Entries.{modules-at_start}
use Rattle.plan_model.specs.Views.{profile_value}
use Rattle.limits_text.specs.Passing.{first_passing}
use Rattle.limits_text.proofs.FirstPassing.{module_passes, module_passes_not, no_module_passes}
use Rattle.limits_text.proofs.refusals.first_test.Goals as goal

pub loop-module-init : goal.loop-module-init
loop-module-init c =
    let starts = c.into_iter-module-iterator.ensures.into_iter_gives ∙ c.values-module-items.ensures.rest in
    ap (λ ms. first_passing (map profile_value c.args.profiles.now) c.args.most (live_from 0 ms)) (sym (modules-at_start c.args.soc.now _ starts))

pub loop-module-preserved : goal.loop-module-preserved
loop-module-preserved c =
    let goes : c.loop-module.module-iterator ≡ c.in-Some.module.now ∷ c.next.new.self = search rules in
    module_passes_not (map profile_value c.args.profiles.now) c.args.most (module_value c.in-Some.module.now) (map module_value c.next.new.self) (map module_value c.loop-module.module-iterator) c.passing_in.result
    (first_passing (map profile_value c.args.profiles.now) c.args.most (live_tests (soc_value c.args.soc.now))) (ap (map module_value) goes) (c.passing_in.ensures 0) c.in_default.is c.loop-module.invariant

pub returns-in-Some-passing_in : goal.returns-in-Some-passing_in
returns-in-Some-passing_in c =
    let goes : c.loop-module.module-iterator ≡ c.in-Some.module.now ∷ c.next.new.self = search rules in
    module_passes (map profile_value c.args.profiles.now) c.args.most (module_value c.in-Some.module.now) (map module_value c.next.new.self) (map module_value c.loop-module.module-iterator) c.passing_in.result c.in-Some-passing_in.found
    (first_passing (map profile_value c.args.profiles.now) c.args.most (live_tests (soc_value c.args.soc.now))) (ap (map module_value) goes) (c.passing_in.ensures 0) c.in-Some-passing_in.is c.loop-module.invariant

pub returns : goal.returns
returns c =
    let none : c.loop-module.module-iterator ≡ [] = search rules in
    no_module_passes (map profile_value c.args.profiles.now) c.args.most (map module_value c.loop-module.module-iterator) (first_passing (map profile_value c.args.profiles.now) c.args.most (live_tests (soc_value c.args.soc.now))) (ap (map module_value) none) c.loop-module.invariant
