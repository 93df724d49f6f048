use Rattle.std.proofs.Common.{arith}
use Rattle.soc_model.specs.Chips.{soc_value}
use Rattle.width_tree.proofs.WidthFacts.{row_begins, row_more, row_whole}
use Rattle.width_tree.proofs.tables.fill_row.Goals as goal

pub loop-width-init : goal.loop-width-init
loop-width-init c = row_begins (soc_value c.args.soc.now) c.args.place c.args.times.now

pub loop-width-preserved : goal.loop-width-preserved
loop-width-preserved c =
    row_more (soc_value c.args.soc.now) c.args.place c.loop-width.width c.args.times.now c.loop-width.times c.time_place.result c.over_wires.result c.loop-width.invariant c.loop-width.auto.width c.time_place.ensures
    (omega arith) (c.over_wires.ensures.sum (soc_value c.args.soc.now) c.args.place c.of-lower.ensures) c.over_wires.ensures.small

pub returns-clause-row : goal.returns-clause-row
returns-clause-row c = row_whole (soc_value c.args.soc.now) c.args.wires c.args.place c.args.times.now c.loop-width.times c.loop-width.width c.loop-width.invariant (omega arith)

pub returns-clause-earlier : goal.returns-clause-earlier
returns-clause-earlier c = c.loop-width.invariant.earlier
