use Rattle.std.proofs.Common.{◌∙◌, List, sym, subst}
use Rattle.std.proofs.lemmas.Iterator.Adapters.{YieldsList-from_vec}
use Rattle.std.proofs.lemmas.Iterator.Consumers.{YieldsList-end}
use Rattle.bit_machine.specs.Lanes.{AreAtRest}
use Rattle.vector_lines.specs.declared.lane.Lane.{Lane}
use Rattle.bit_machine.proofs.LaneSteps.{same_items, no_rest, rest_more}
use Rattle.bit_machine.proofs.stepped.resting_lanes.Goals as goal

pub loop-lane-init : goal.loop-lane-init
loop-lane-init c = no_rest c.new-stepped.ensures.items

pub loop-lane-preserved : goal.loop-lane-preserved
loop-lane-preserved c = rest_more c.loop-lane.invariant c.in_ok-push.ensures.ok c.in_ok-new.ensures

pub returns : goal.returns
returns c =
    let gives = c.into_iter-lane-iterator.ensures.into_iter_gives in
    let t = YieldsList-end (YieldsList-from_vec {s = c.into_iter-lane-iterator.result} c.args.lanes.items gives.0 (gives.1
    ∙ c.args.lanes.ok.0)) c.loop-lane.yielded c.loop-lane.lane-iterator c.loop-lane.yielded_by c.next.result c.next.new.self c.in-None.is c.next.ensures.steps in
    subst (λ (lanes : List Lane). AreAtRest lanes c.loop-lane.stepped.items) (sym (same_items c.loop-lane.yielded) ∙ t.0) c.loop-lane.invariant
