use Rattle.std.proofs.Common.{◌∙◌, ◌++◌, ◌∷◌, [], List, ap}
use Rattle.soc_model.specs.declared.TestId.{TestId}
use Rattle.split_plan.specs.Cuts.{part_id}
use Rattle.split_plan.proofs.Making.{chain_more}
use Rattle.split_plan.proofs.bounds.push_chain.Goals as goal

pub loop-place-preserved : goal.loop-place-preserved
loop-place-preserved c =
    let pushed : TestId → TestId → List (TestId × TestId) = λ a b. c.loop-place.before.items ++ (a, b) ∷ [] in
    chain_more c.args.cut.now c.loop-place.place c.args.before.now.items c.loop-place.before.items c.push.new.to.items c.loop-place.invariant
    (c.in_ok-push.ensures.ok ∙ ap (λ (a : TestId). pushed a c.part_id-in-loop-place.result) c.part_id.ensures ∙ ap (pushed (part_id c.args.cut.now c.loop-place.place)) c.part_id-in-loop-place.ensures)
