use Rattle.std.proofs.Common.{◌+◌, ◌-◌, ◌*◌, ◌∙◌, ap, arith, slice_index}
use Rattle.width_tree.specs.Tables.{place_of_time}
use Rattle.width_tree.specs.Cases.{least_over}
use Rattle.width_tree.proofs.CaseFacts.{least_over-begins, least_over-goes}
use Rattle.width_tree.proofs.areas.least_area.Goals as goal

pub loop-width-init : goal.loop-width-init
loop-width-init c = c.area_on-least.ensures ∙ least_over-begins (λ v. v * slice_index c.args.times.now (place_of_time c.args.place v)) c.args.interval.low (c.args.interval.low + 1 - 1 - c.args.interval.low) (omega arith)

pub loop-width-preserved : goal.loop-width-preserved
loop-width-preserved c =
    c.min-least.ensures
    ∙ least_over-goes (λ v. v * slice_index c.args.times.now (place_of_time c.args.place v)) c.args.interval.low (c.loop-width.width - 1 - c.args.interval.low) (c.loop-width.width + 1 - 1 - c.args.interval.low) c.loop-width.width c.loop-width.least c.area_on.result
    (omega arith) (omega arith) c.loop-width.invariant c.area_on.ensures

pub returns : goal.returns
returns c =
    c.loop-width.invariant
    ∙ ap (least_over (λ v. v * slice_index c.args.times.now (place_of_time c.args.place v)) c.args.interval.low) (omega arith)
