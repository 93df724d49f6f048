use Rattle.std.proofs.Common.{◌∙◌, ◌++◌, ◌∷◌, [], ap}
use Rattle.soc_model.specs.declared.Test.{Test}
use Rattle.split_plan.specs.Cuts.{part_test}
use Rattle.split_plan.proofs.Making.{piece_more}
use Rattle.split_plan.proofs.parts.push_tests.Goals as goal

pub loop-place-preserved : goal.loop-place-preserved
loop-place-preserved c =
    piece_more part_test c.args.cut.now c.loop-place.place c.args.tests.now.items c.loop-place.tests.items c.push.new.to.items c.loop-place.invariant
    (c.in_ok-push.ensures.ok ∙ ap (λ (t : Test). c.loop-place.tests.items ++ t ∷ []) c.part_test.ensures)
