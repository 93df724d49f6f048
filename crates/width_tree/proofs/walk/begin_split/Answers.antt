use Rattle.std.proofs.Common.{◌<◌, length, refl, ◌∙◌, arith}
use Rattle.width_tree.specs.Cases.{interval, interval_at}
use Rattle.width_tree.specs.Tables.{chip_of}
use Rattle.width_tree.proofs.CaseFacts.{item_is, set_low}
use Rattle.width_tree.proofs.WidthFacts.{put_fits, narrow_interval}
use Rattle.width_tree.proofs.OpenSplits.{split_begun}
use Rattle.width_tree.proofs.walk.begin_split.Goals as goal

pub put_interval-requires-clause-fits : goal.put_interval-requires-clause-fits
put_interval-requires-clause-fits c =
    let within : c.args.place < length c.args.widths.now.intervals.items = omega arith in
    let old = item_is c.args.widths.now.intervals.items c.args.place c.index-old.result.now (interval 0 0) within c.index-old.ensures in
    put_fits c.args.table.now c.args.widths.now (interval c.index-old.result.now.low c.args.at) c.args.place c.least_area.result c.requires.table c.requires.widths c.requires.place
    (narrow_interval c.args.table.now.wires c.index-old.result.now (interval_at c.args.widths.now.intervals.items c.args.place) c.args.at (c.requires.widths.intervals.each c.args.place c.requires.place) old c.requires.some c.requires.below) c.least_area.ensures

pub returns-clause-awaits : goal.returns-clause-awaits
returns-clause-awaits c = λ wide rest h.
    let within : c.args.place < length c.args.widths.now.intervals.items = omega arith in
    let old = item_is c.args.widths.now.intervals.items c.args.place c.index-old.result.now (interval 0 0) within c.index-old.ensures in
    let within' : c.args.place < length c.args.widths.now.areas.items = omega arith in
    let area = item_is c.args.widths.now.areas.items c.args.place c.index-area.result.now 0 within' c.index-area.ensures ∙ c.requires.widths.areas c.args.place c.requires.place in
    split_begun (chip_of c.args.table.now) c.args.table.now.wires (length (chip_of c.args.table.now).modules) c.args.table.now.times.now c.args.stack.now _ c.args.depth c.args.widths.now.intervals.items c.put_interval.new.widths.intervals.items c.args.place c.args.at c.index-old.result.now c.index-area.result.now wide rest
    c.requires.widths.intervals c.requires.place old area c.requires.some c.requires.below c.requires.room refl (c.put_interval.ensures.intervals ∙ set_low c.args.widths.now.intervals.items c.args.place c.args.at c.index-old.result.now old) h
