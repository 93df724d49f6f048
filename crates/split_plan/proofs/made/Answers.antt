use Rattle.std.proofs.Common.{◌∙◌, sym, subst, List}
use Rattle.soc_model.specs.Chips.{soc_value}
use Rattle.plan_model.specs.Views.{limits_value}
use Rattle.live_tests.specs.Names.{AllDiffer}
use Rattle.split_plan.specs.declared.cuts.Cut.{Cut}
use Rattle.split_plan.specs.Steps.{wholes}
use Rattle.split_plan.proofs.CutTests.{wholes_differ}
use Rattle.split_plan.proofs.made.Goals as goal

pub limits_of-requires-clause-differ : goal.limits_of-requires-clause-differ
limits_of-requires-clause-differ c =
    subst (λ (cuts : List Cut). AllDiffer (wholes cuts)) (sym (c.as_slice.ensures.value ∙ c.in_ok-cut.ensures.cuts)) (wholes_differ (limits_value c.args.limits.now) c.args.most (soc_value c.args.soc.now) c.requires.chip)
