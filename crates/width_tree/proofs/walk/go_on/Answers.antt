use Rattle.std.proofs.Common.{sym, ap, arith}
use Rattle.width_tree.specs.Trees.{node_value}
use Rattle.width_tree.specs.Tables.{chip_of}
use Rattle.width_tree.proofs.WidthFacts.{place_within}
use Rattle.width_tree.proofs.OpenSplits.{split_goes, awaits_behind}
use Rattle.width_tree.proofs.walk.go_on.Goals as goal

pub returns-in-Some-clause-goes_on : goal.returns-in-Some-clause-goes_on
returns-in-Some-clause-goes_on c = λ left b.
    split_goes (chip_of c.args.table.now) c.args.table.now.wires c.args.table.now.times.now c.args.stack.now c.begin_split.new.stack c.args.depth c.begin_split.result c.args.widths.now.intervals.items c.begin_split.new.widths.intervals.items c.in-Split.«module» c.in-Split.at c.in-Some.place (node_value c.args.node.now) left
    (ap node_value c.in-Split.is) (sym c.in-Some.ensures) c.begin_split.ensures.narrow c.begin_split.ensures.depth c.begin_split.ensures.awaits b

pub returns : goal.returns
returns c = record {
  widths = c.next_branch.ensures.widths;
  few = omega arith;
  goes_on = λ left b. c.next_branch.ensures.goes_on left (awaits_behind (chip_of c.args.table.now) c.args.table.now.wires c.args.table.now.times.now c.args.stack.now c.args.depth c.args.widths.now.intervals.items c.args.node.now left c.in_default.not-Split b);
}

pub begin_split-requires-clause-place : goal.begin_split-requires-clause-place
begin_split-requires-clause-place c =
    place_within (chip_of c.args.table.now) c.requires.table.sound c.in-Split.«module» c.in-Some.place (sym c.in-Some.ensures)
