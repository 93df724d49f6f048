use Rattle.std.proofs.Common.{length, ◌∙◌, sym, subst, arith}
use Rattle.width_tree.specs.Tables.{chip_of}
use Rattle.width_tree.specs.Findings.{AreIntervals}
use Rattle.width_tree.proofs.CaseFacts.{root_intervals, root_is}
use Rattle.width_tree.proofs.WidthFacts.{areas_few}
use Rattle.width_tree.proofs.check.fill_slices.Goals as goal

pub fill_areas-requires-clause-intervals : goal.fill_areas-requires-clause-intervals
fill_areas-requires-clause-intervals c =
    subst (AreIntervals c.args.table.now.wires (length (chip_of c.args.table.now).modules)) (sym (c.fill_root.ensures ∙ root_is (chip_of c.args.table.now) c.args.table.now.wires (length c.args.intervals.now) c.requires.intervals))
    (root_intervals (chip_of c.args.table.now) c.args.table.now.wires c.requires.table.some_wire)

pub sum_of-requires : goal.sum_of-requires
sum_of-requires c =
    let ints : AreIntervals c.args.table.now.wires (length (chip_of c.args.table.now).modules) c.fill_root.new.widths =
    subst (AreIntervals c.args.table.now.wires (length (chip_of c.args.table.now).modules)) (sym (c.fill_root.ensures ∙ root_is (chip_of c.args.table.now) c.args.table.now.wires (length c.args.intervals.now) c.requires.intervals))
    (root_intervals (chip_of c.args.table.now) c.args.table.now.wires c.requires.table.some_wire) in
    let few = areas_few c.args.table.now c.fill_root.new.widths c.fill_areas.new.areas c.requires.table ints c.fill_areas.ensures.long c.fill_areas.ensures.each in
    omega arith

pub returns-clause-root : goal.returns-clause-root
returns-clause-root c = c.fill_root.ensures ∙ root_is (chip_of c.args.table.now) c.args.table.now.wires (length c.args.intervals.now) c.requires.intervals
