use Rattle.std.proofs.Common.{not, List, sym, ◌∙◌, ap, find, flat_map}
use Rattle.soc_model.specs.declared.TestId.{TestId}
use Rattle.soc_model.specs.Chips.{ModuleValue}
use Rattle.soc_model.proofs.Entries.{modules-at_start}
use Rattle.test_data.specs.DataPlaces.{kept_names}
use Rattle.test_data.specs.Suiting.{has_name, tam_names_in}
use Rattle.test_data.proofs.Firsts.{missing_here, missing_later}
use Rattle.test_data.proofs.misfits.first_missing.Goals as goal

pub loop-module-init : goal.loop-module-init
loop-module-init c =
    ap (λ (ms : List ModuleValue). find (λ (id : TestId). not (has_name (kept_names c.args.entries.now) id)) (flat_map tam_names_in ms))
    (modules-at_start c.args.soc.now _ (c.into_iter-module-iterator.ensures.into_iter_gives ∙ c.values-module-items.ensures.rest))

pub returns-in-Some-missing_in : goal.returns-in-Some-missing_in
returns-in-Some-missing_in c =
    missing_here (λ (id : TestId). not (has_name (kept_names c.args.entries.now) id)) _ _ _ _ c.in-Some.ensures.steps (sym c.in-Some-missing_in.is ∙ c.missing_in.ensures) ∙ sym c.loop-module.invariant

pub loop-module-preserved : goal.loop-module-preserved
loop-module-preserved c =
    c.loop-module.invariant ∙ missing_later (λ (id : TestId). not (has_name (kept_names c.args.entries.now) id)) _ _ _ c.in-Some.ensures.steps (sym c.missing_in.ensures ∙ c.in_default.is)
