use Rattle.std.proofs.Common.{◌∙◌, List, map, ap}
use Rattle.std.proofs.lemmas.List.{take_all}
use Rattle.split_plan.specs.declared.cuts.Cut.{Cut}
use Rattle.split_plan.specs.Cuts.{live_cuts, part_at, pieces}
use Rattle.split_plan.proofs.parts.list_parts.Goals as goal

pub returns : goal.returns
returns c =
    c.loop-cut.invariant ∙ ap (λ (cuts : List Cut). map part_at (pieces (live_cuts cuts))) (take_all c.loop-cut.cut-index c.args.cuts.now c.loop-cut-test.false)
