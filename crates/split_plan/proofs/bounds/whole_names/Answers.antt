use Rattle.std.proofs.Common.{◌∙◌, ap}
use Rattle.std.proofs.lemmas.List.{take_all}
use Rattle.split_plan.specs.declared.cuts.Cut.{Cut}
use Rattle.split_plan.specs.Steps.{wholes}
use Rattle.split_plan.proofs.Making.{map_more}
use Rattle.split_plan.proofs.bounds.whole_names.Goals as goal

pub loop-cut-preserved : goal.loop-cut-preserved
loop-cut-preserved c =
    map_more (λ (cut : Cut). cut.whole) c.args.cuts.now c.loop-cut.cut-index _ c.loop-cut.names.items c.push.new.to.items c.loop-cut-test.true c.loop-cut.invariant c.in_ok-push.ensures.ok

pub returns : goal.returns
returns c = c.loop-cut.invariant ∙ ap wholes (take_all c.loop-cut.cut-index c.args.cuts.now c.loop-cut-test.false)
