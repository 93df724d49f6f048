use Rattle.width_tree.specs.Cases.{interval}
use Rattle.width_tree.specs.Walks.{split_at}
use Rattle.std.proofs.Common.{◌+◌, arith}
use Rattle.width_tree.proofs.WidthFacts.{put_fits, wide_interval}
use Rattle.width_tree.proofs.walk.begin_second.Goals as goal

pub put_interval-requires-clause-fits : goal.put_interval-requires-clause-fits
put_interval-requires-clause-fits c =
    put_fits c.args.table.now c.args.widths.now (interval ((split_at c.args.stack.now c.args.last).at + 1) (split_at c.args.stack.now c.args.last).old.high) (split_at c.args.stack.now c.args.last).place c.least_area.result c.requires.table c.requires.widths
    (omega arith)
    (wide_interval c.args.table.now.wires (split_at c.args.stack.now c.args.last).old (split_at c.args.stack.now c.args.last).at c.requires.opened.old c.requires.opened.below) c.least_area.ensures
