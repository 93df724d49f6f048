use Rattle.std.proofs.Common.{◌≡◌, ◌+◌, ℕ, suc, drop, subst, arith}
use Rattle.std.proofs.lemmas.Option.{slice_get_within}
use Rattle.width_tree.specs.Trees.{node_value}
use Rattle.width_tree.specs.Cases.{in_case, cases_of}
use Rattle.width_tree.specs.Tables.{chip_of}
use Rattle.width_tree.specs.Walks.{GoesOn}
use Rattle.width_tree.proofs.OpenSplits.{starts, comes, faulty, enough_more, cases_long}
use Rattle.width_tree.proofs.walk.check_nodes.Goals as goal

pub loop-place-init : goal.loop-place-init
loop-place-init c = record {
  widths = c.requires.widths;
  older = c.requires.older;
  few = omega arith;
  goes = λ t e. starts (chip_of c.args.table.now) c.args.table.now.wires c.args.table.now.times.now c.args.stack.now c.args.widths.now.intervals.items t;
  enough = λ t e q n less. absurd (omega arith);
}

pub check_node-requires-clause-begins : goal.check_node-requires-clause-begins
check_node-requires-clause-begins c =
    let k = comes (chip_of c.args.table.now) c.args.table.now.wires c.args.table.now.times.now c.loop-place.stack c.loop-place.depth c.loop-place.widths.intervals.items c.args.widths.now.intervals.items c.requires.tree.0 c.loop-place.place c.index-node.result.now c.args.tree.now.nodes.items c.requires.tree.1
    (omega (arith, c.loop-place-test.true, c.len-place-end.ensures)) c.index-node.ensures (c.loop-place.invariant.goes c.requires.tree.0 c.requires.tree.1) in
    (drop (suc c.loop-place.place) (cases_of (chip_of c.args.table.now) c.args.widths.now.intervals.items c.requires.tree.0), k.begins)

pub returns-in-Err-clause-checked : goal.returns-in-Err-clause-checked
returns-in-Err-clause-checked c = λ t e.
    let k = comes (chip_of c.args.table.now) c.args.table.now.wires c.args.table.now.times.now c.loop-place.stack c.loop-place.depth c.loop-place.widths.intervals.items c.args.widths.now.intervals.items t c.loop-place.place c.index-node.result.now c.args.tree.now.nodes.items e
    (omega (arith, c.loop-place-test.true, c.len-place-end.ensures)) c.index-node.ensures (c.loop-place.invariant.goes t e) in
    faulty ℕ (chip_of c.args.table.now) c.args.table.now.wires c.args.tree.now.claimed (cases_of (chip_of c.args.table.now) c.args.widths.now.intervals.items t) c.loop-place.place (in_case c.loop-place.widths.intervals.items (node_value c.index-node.result.now)) c.in-Err.fault k.there (c.loop-place.invariant.enough t e) c.in-Err.ensures.judged

pub loop-place-preserved : goal.loop-place-preserved
loop-place-preserved c = record {
  widths = c.check_node.ensures.widths;
  older = λ p. omega (arith, c.check_node.ensures.older p);
  few = omega (arith, c.in-Ok.ensures.few, c.loop-place.invariant.few);
  goes = λ t e.
      let k = comes (chip_of c.args.table.now) c.args.table.now.wires c.args.table.now.times.now c.loop-place.stack c.loop-place.depth c.loop-place.widths.intervals.items c.args.widths.now.intervals.items t c.loop-place.place c.index-node.result.now c.args.tree.now.nodes.items e
      (omega (arith, c.loop-place-test.true, c.len-place-end.ensures)) c.index-node.ensures (c.loop-place.invariant.goes t e) in
      let next : suc c.loop-place.place ≡ c.loop-place.place + 1 = omega arith in
      subst (λ (n : ℕ). GoesOn (chip_of c.args.table.now) c.args.table.now.wires c.args.table.now.times.now c.check_node.new.stack c.in-Ok.next c.check_node.new.widths.intervals.items (drop n (cases_of (chip_of c.args.table.now) c.args.widths.now.intervals.items t))) next
      (c.in-Ok.ensures.goes_on (drop (suc c.loop-place.place) (cases_of (chip_of c.args.table.now) c.args.widths.now.intervals.items t)) k.begins);
  enough = λ t e.
      let k = comes (chip_of c.args.table.now) c.args.table.now.wires c.args.table.now.times.now c.loop-place.stack c.loop-place.depth c.loop-place.widths.intervals.items c.args.widths.now.intervals.items t c.loop-place.place c.index-node.result.now c.args.tree.now.nodes.items e
      (omega (arith, c.loop-place-test.true, c.len-place-end.ensures)) c.index-node.ensures (c.loop-place.invariant.goes t e) in
      enough_more (chip_of c.args.table.now) c.args.table.now.wires c.args.tree.now.claimed (cases_of (chip_of c.args.table.now) c.args.widths.now.intervals.items t) c.loop-place.place (in_case c.loop-place.widths.intervals.items (node_value c.index-node.result.now)) k.there (c.loop-place.invariant.enough t e) c.in-Ok.ensures.judged;
}

pub returns-clause-checked : goal.returns-clause-checked
returns-clause-checked c = λ t e n x at.
    c.loop-place.invariant.enough t e n x
    (omega (arith, slice_get_within (cases_of (chip_of c.args.table.now) c.args.widths.now.intervals.items t) n x at, cases_long (chip_of c.args.table.now) c.args.widths.now.intervals.items t c.args.tree.now.nodes.items e, c.loop-place-test.false, c.len-place-end.ensures)) at
