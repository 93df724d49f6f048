use Rattle.std.proofs.Common.{◌∙◌, List, map, ap}
use Rattle.std.proofs.lemmas.List.{take_all}
use Rattle.split_plan.specs.declared.cuts.Cut.{Cut}
use Rattle.split_plan.specs.Cuts.{part_test, pieces}
use Rattle.split_plan.proofs.chips.part_tests.Goals as goal

pub returns : goal.returns
returns c =
    c.loop-cut.invariant ∙ ap (λ (cuts : List Cut). map part_test (pieces cuts)) (take_all c.loop-cut.cut-index c.args.cuts.now c.loop-cut-test.false)
