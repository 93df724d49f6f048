use Rattle.std.proofs.Common.{◌+◌, Some, refl, sym, ap, ◌∙◌}
use Rattle.plan_model.specs.Proofs.{OfPlace, OfSplit, OfWide, OfSum, OfPack, node_value, pricing_value, weights_value}
use Rattle.bus_proofs.proofs.RoomSteps.{further_then}
use Rattle.bus_proofs.proofs.WalkSteps.{leaf_awaits, leaf_enough, split_goes, split_judged, split_work}
use Rattle.bus_proofs.proofs.walk.go_on.Goals as goal

pub returns-then-not-begin_wide-clause-further : goal.returns-then-not-begin_wide-clause-further
returns-then-not-begin_wide-clause-further c = λ root x left at. further_then at.further c.begin_wide.ensures.further

pub returns-else-not-begin_wide-clause-further : goal.returns-else-not-begin_wide-clause-further
returns-else-not-begin_wide-clause-further c = λ root x left at. further_then at.further c.begin_wide.ensures.further

pub returns-else-not-begin_wide-clause-judged : goal.returns-else-not-begin_wide-clause-judged
returns-else-not-begin_wide-clause-judged c = λ root x left at.
    split_judged (c.args.at.depth + 1) c.args.leaf.now.pack.work (OfWide c.in-Wide.rank c.in-Wide.width)
    (c.node_at.ensures ∙ ap (λ n. Some (node_value n)) c.in-Wide.is) at (c.if-not-begin_wide.ensures.begun refl root x.within at.further at.case).rule

pub returns-else-not-begin_wide-clause-goes_on : goal.returns-else-not-begin_wide-clause-goes_on
returns-else-not-begin_wide-clause-goes_on c = λ root x left at.
    split_goes c.args.at.depth (c.args.at.depth + 1)
    (c.node_at.ensures ∙ ap (λ n. Some (node_value n)) c.in-Wide.is) refl at (c.if-not-begin_wide.ensures.begun refl root x.within at.further at.case)

pub returns-then-not-begin_place-clause-further : goal.returns-then-not-begin_place-clause-further
returns-then-not-begin_place-clause-further c = λ root x left at. further_then at.further c.begin_place.ensures.further

pub returns-else-not-begin_place-clause-further : goal.returns-else-not-begin_place-clause-further
returns-else-not-begin_place-clause-further c = λ root x left at. further_then at.further c.begin_place.ensures.further

pub returns-else-not-begin_place-clause-judged : goal.returns-else-not-begin_place-clause-judged
returns-else-not-begin_place-clause-judged c = λ root x left at.
    split_judged (c.args.at.depth + 1) c.args.leaf.now.pack.work (OfPlace c.in-Place.«module» c.in-Place.rank c.deref.result.now)
    (c.node_at.ensures ∙ ap (λ n. Some (node_value n)) c.in-Place.is ∙ ap (λ ts. Some (OfSplit (OfPlace c.in-Place.«module» c.in-Place.rank ts))) (sym c.deref.ensures.value)) at (c.if-not-begin_place.ensures.begun refl root x.within at.further at.case).rule

pub returns-else-not-begin_place-clause-goes_on : goal.returns-else-not-begin_place-clause-goes_on
returns-else-not-begin_place-clause-goes_on c = λ root x left at.
    split_goes c.args.at.depth (c.args.at.depth + 1)
    (c.node_at.ensures ∙ ap (λ n. Some (node_value n)) c.in-Place.is ∙ ap (λ ts. Some (OfSplit (OfPlace c.in-Place.«module» c.in-Place.rank ts))) (sym c.deref.ensures.value)) refl at (c.if-not-begin_place.ensures.begun refl root x.within at.further at.case)

pub next_branch-requires-clause-awaits : goal.next_branch-requires-clause-awaits
next_branch-requires-clause-awaits c = (
  c.requires.at.0,
  c.requires.at.2,
  c.requires.at.3.further,
  leaf_awaits (OfSum (weights_value c.in-Sum.weights))
      (c.node_at.ensures ∙ ap (λ n. Some (node_value n)) c.in-Sum.is) c.requires.at.3,
)

pub returns-in-Ok-clause-judged : goal.returns-in-Ok-clause-judged
returns-in-Ok-clause-judged c = λ root x left at.
    leaf_enough 0 c.args.leaf.now.pack.work (OfSum (weights_value c.in-Sum.weights))
    (c.node_at.ensures ∙ ap (λ n. Some (node_value n)) c.in-Sum.is) at (c.in-Ok.ensures.judged x.within at.case)

pub returns-else-not-begin_wide-clause-work : goal.returns-else-not-begin_wide-clause-work
returns-else-not-begin_wide-clause-work c = λ root x left at.
    split_work c.args.leaf.now.pack.work (OfWide c.in-Wide.rank c.in-Wide.width)
    (c.node_at.ensures ∙ ap (λ n. Some (node_value n)) c.in-Wide.is) at

pub returns-else-not-begin_place-clause-work : goal.returns-else-not-begin_place-clause-work
returns-else-not-begin_place-clause-work c = λ root x left at.
    split_work c.args.leaf.now.pack.work (OfPlace c.in-Place.«module» c.in-Place.rank c.deref.result.now)
    (c.node_at.ensures ∙ ap (λ n. Some (node_value n)) c.in-Place.is ∙ ap (λ ts. Some (OfSplit (OfPlace c.in-Place.«module» c.in-Place.rank ts))) (sym c.deref.ensures.value)) at

pub next_branch-requires-in-Ok-judge_pack-clause-awaits : goal.next_branch-requires-in-Ok-judge_pack-clause-awaits
next_branch-requires-in-Ok-judge_pack-clause-awaits c = (
  c.requires.at.0,
  c.requires.at.2,
  c.requires.at.3.further,
  leaf_awaits (OfPack (pricing_value c.in-Pack.pricing))
      (c.node_at.ensures ∙ ap (λ n. Some (node_value n)) c.in-Pack.is) c.requires.at.3,
)

pub returns-in-Ok-judge_pack-clause-judged : goal.returns-in-Ok-judge_pack-clause-judged
returns-in-Ok-judge_pack-clause-judged c = λ root x left at.
    leaf_enough 0 c.args.leaf.now.pack.work (OfPack (pricing_value c.in-Pack.pricing))
    (c.node_at.ensures ∙ ap (λ n. Some (node_value n)) c.in-Pack.is) at (c.in-Ok-judge_pack.ensures.judged x.within at.case)

pub returns-in-Ok-judge_pack-clause-further : goal.returns-in-Ok-judge_pack-clause-further
returns-in-Ok-judge_pack-clause-further c = λ root x left at.
    c.next_branch-in-Ok-judge_pack.ensures.further root left at.further
    (leaf_awaits (OfPack (pricing_value c.in-Pack.pricing)) (c.node_at.ensures ∙ ap (λ n. Some (node_value n)) c.in-Pack.is) at)
