use Rattle.std.proofs.Common.{◌∙◌, sym, ap, subst, List, map}
use Rattle.soc_model.specs.declared.TestId.{TestId}
use Rattle.plan_model.specs.declared.Profile.{Profile}
use Rattle.plan_model.specs.Views.{profile_value}
use Rattle.live_tests.specs.Names.{AllDiffer}
use Rattle.split_plan.specs.Steps.{profiled}
use Rattle.split_plan.proofs.chips.index_of_profiles.Goals as goal

pub index_of-requires : goal.index_of-requires
index_of-requires c =
    let names = c.in_ok-names.ensures ∙ ap (λ (ps : List Profile). profiled (map profile_value ps)) c.deref.ensures.value in
    subst (λ (l : List TestId). AllDiffer l) (sym (c.deref-2.ensures.value ∙ names)) c.requires
