use Rattle.std.proofs.Common.{◌-◌, length, refl, sym, subst, inl, inr, arith}
use Rattle.std.proofs.lemmas.Bool.{not-true, not-false}
use Rattle.width_tree.specs.Cases.{Case}
use Rattle.width_tree.specs.Tables.{chip_of}
use Rattle.width_tree.specs.Walks.{split_at, Awaits}
use Rattle.width_tree.proofs.WidthFacts.{put_fits, put_widths}
use Rattle.width_tree.proofs.OpenSplits.{awaits_turn, awaits_second, awaits_none, second_begins}
use Rattle.width_tree.proofs.walk.next_branch.Goals as goal

pub loop-depth-init : goal.loop-depth-init
loop-depth-init c = record { widths = c.requires.widths; few = omega arith; awaits = λ rest h. h }

pub begin_second-requires-clause-opened : goal.begin_second-requires-clause-opened
begin_second-requires-clause-opened c =
    awaits_turn (chip_of c.args.table.now) c.args.table.now.wires c.args.table.now.times.now c.loop-depth.stack c.loop-depth.depth (c.loop-depth.depth - 1) c.loop-depth.widths.intervals.items c.requires.awaits.0
    (omega arith) (c.loop-depth.invariant.awaits c.requires.awaits.0 c.requires.awaits.1)

pub returns-then-not-opened-clause-goes_on : goal.returns-then-not-opened-clause-goes_on
returns-then-not-opened-clause-goes_on c = λ rest h.
    inr (second_begins (chip_of c.args.table.now) c.args.table.now.wires c.args.table.now.times.now c.loop-depth.stack c.begin_second.new.stack c.loop-depth.depth (c.loop-depth.depth - 1) c.loop-depth.widths.intervals.items c.begin_second.new.widths.intervals.items
    (split_at c.loop-depth.stack (c.loop-depth.depth - 1)) _ rest (omega arith) (omega arith) refl (not-true (split_at c.loop-depth.stack (c.loop-depth.depth - 1)).second c.if-not-opened.true) refl c.begin_second.ensures.stack c.begin_second.ensures.wide
    (c.loop-depth.invariant.awaits rest h))

pub put_interval-requires-clause-place : goal.put_interval-requires-clause-place
put_interval-requires-clause-place c =
    let t =
    awaits_turn (chip_of c.args.table.now) c.args.table.now.wires c.args.table.now.times.now c.loop-depth.stack c.loop-depth.depth (c.loop-depth.depth - 1) c.loop-depth.widths.intervals.items c.requires.awaits.0
    (omega arith) (c.loop-depth.invariant.awaits c.requires.awaits.0 c.requires.awaits.1) in
    t.within

pub put_interval-requires-clause-fits : goal.put_interval-requires-clause-fits
put_interval-requires-clause-fits c =
    let t =
    awaits_turn (chip_of c.args.table.now) c.args.table.now.wires c.args.table.now.times.now c.loop-depth.stack c.loop-depth.depth (c.loop-depth.depth - 1) c.loop-depth.widths.intervals.items c.requires.awaits.0
    (omega arith) (c.loop-depth.invariant.awaits c.requires.awaits.0 c.requires.awaits.1) in
    put_fits c.args.table.now c.loop-depth.widths (split_at c.loop-depth.stack (c.loop-depth.depth - 1)).old (split_at c.loop-depth.stack (c.loop-depth.depth - 1)).place (split_at c.loop-depth.stack (c.loop-depth.depth - 1)).area c.requires.table c.loop-depth.invariant.widths
    (omega arith) t.old t.area

pub loop-depth-preserved : goal.loop-depth-preserved
loop-depth-preserved c =
    let t =
    awaits_turn (chip_of c.args.table.now) c.args.table.now.wires c.args.table.now.times.now c.loop-depth.stack c.loop-depth.depth (c.loop-depth.depth - 1) c.loop-depth.widths.intervals.items c.requires.awaits.0
    (omega arith) (c.loop-depth.invariant.awaits c.requires.awaits.0 c.requires.awaits.1) in
    record {
      widths = put_widths c.args.table.now.wires (length (chip_of c.args.table.now).modules) c.args.table.now.times.now c.loop-depth.widths c.put_interval.new.widths (split_at c.loop-depth.stack (c.loop-depth.depth - 1)).place (split_at c.loop-depth.stack (c.loop-depth.depth - 1)).old (split_at c.loop-depth.stack (c.loop-depth.depth - 1)).area
          c.loop-depth.invariant.widths (omega arith) t.old t.area c.put_interval.ensures.intervals c.put_interval.ensures.areas c.put_interval.ensures.total;
      few = omega arith;
      awaits = λ rest h. subst (λ (d : Case). Awaits (chip_of c.args.table.now) c.args.table.now.wires c.args.table.now.times.now c.loop-depth.stack (c.loop-depth.depth - 1) d rest) (sym c.put_interval.ensures.intervals)
          (awaits_second (chip_of c.args.table.now) c.args.table.now.wires c.args.table.now.times.now c.loop-depth.stack c.loop-depth.depth (c.loop-depth.depth - 1) c.loop-depth.widths.intervals.items rest (omega arith) (not-false (split_at c.loop-depth.stack (c.loop-depth.depth - 1)).second c.if-not-opened.false) (c.loop-depth.invariant.awaits rest h));
    }

pub returns-clause-goes_on : goal.returns-clause-goes_on
returns-clause-goes_on c = λ rest h.
    inl (awaits_none (chip_of c.args.table.now) c.args.table.now.wires c.args.table.now.times.now c.loop-depth.stack c.loop-depth.depth c.loop-depth.widths.intervals.items rest (omega arith) (c.loop-depth.invariant.awaits rest h))
