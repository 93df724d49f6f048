use Rattle.std.proofs.Common.{◌∙◌, ◌++◌, ◌∷◌, [], ap}
use Rattle.split_plan.specs.declared.Part.{Part}
use Rattle.split_plan.specs.Cuts.{part_at}
use Rattle.split_plan.proofs.Making.{piece_more}
use Rattle.split_plan.proofs.parts.push_parts.Goals as goal

pub loop-place-preserved : goal.loop-place-preserved
loop-place-preserved c =
    piece_more part_at c.args.cut.now c.loop-place.place c.args.parts.now.items c.loop-place.parts.items c.push.new.to.items c.loop-place.invariant
    (c.in_ok-push.ensures.ok ∙ ap (λ (p : Part). c.loop-place.parts.items ++ p ∷ []) c.part_at.ensures)
