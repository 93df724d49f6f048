use Rattle.std.proofs.Common.{◌+◌, ◌<◌, length, sym, ◌∙◌, arith}
use Rattle.std.proofs.lemmas.Bool.{false≢true}
use Rattle.std.proofs.lemmas.Option.{get_or_from_slice_get}
use Rattle.plan_model.specs.Certificates.{HasTamTest}
use Rattle.width_tree.specs.Tables.{chip_of}
use Rattle.width_tree.proofs.BusLists.{bus_kept, bus_taken, marked_breaks, few_breaks, is_few, is_much, stamped_older}
use Rattle.width_tree.specs.Cases.{interval_at}
use Rattle.width_tree.proofs.lists.take_module.Goals as goal

pub returns-in-None-clause-breach : goal.returns-in-None-clause-breach
returns-in-None-clause-breach c = λ m at keeps.
    absurd (false≢true (rw (get_or_from_slice_get c.args.modules.now c.args.place m 0 at) at c.in-None.ensures.exact ∙ keeps.tam))

pub returns-then-marks-at-clause-breach : goal.returns-then-marks-at-clause-breach
returns-then-marks-at-clause-breach c = λ m at keeps.
    let there = rw (get_or_from_slice_get c.args.modules.now c.args.place m 0 at) at c.in-Some.ensures.some in
    marked_breaks (chip_of c.args.table.now) c.args.table.now.wires c.args.intervals.now c.args.modules.now c.args.place m c.in-Some.at c.args.marks.now c.args.stamp c.args.least c.requires.so_far there.0 c.if-marks-at.true keeps

pub returns-then-not-are_too_wide-clause-breach : goal.returns-then-not-are_too_wide-clause-breach
returns-then-not-are_too_wide-clause-breach c = λ m at keeps.
    let there = rw (get_or_from_slice_get c.args.modules.now c.args.place m 0 at) at c.in-Some.ensures.some in
    few_breaks (chip_of c.args.table.now) c.args.table.now.wires c.args.intervals.now c.args.modules.now c.args.place m c.in-Some.at c.args.marks.now c.args.stamp c.args.least c.requires.so_far there.0 (is_few c.args.table.now.wires (c.args.least.low + (interval_at c.args.intervals.now c.in-Some.at).low) c.if-not-are_too_wide.ensures) keeps

pub returns-else-not-are_too_wide-clause-kept : goal.returns-else-not-are_too_wide-clause-kept
returns-else-not-are_too_wide-clause-kept c = λ m at.
    let number = get_or_from_slice_get c.args.modules.now c.args.place m 0 at in
    let there = rw number at c.in-Some.ensures.some in
    let tam : HasTamTest (chip_of c.args.table.now) m = sym (rw number at c.in-Some.ensures.exact) in
    let room : c.in-Some.at < length c.args.marks.now = omega arith in (
      bus_kept (chip_of c.args.table.now) c.args.table.now.wires c.args.intervals.now c.args.modules.now c.args.place m c.in-Some.at c.args.marks.now c.args.stamp c.args.least at c.requires.so_far there.0 tam c.if-marks-at.false (is_much c.args.table.now.wires (c.args.least.low + (interval_at c.args.intervals.now c.in-Some.at).low) c.if-not-are_too_wide.ensures),
      bus_taken (chip_of c.args.table.now) c.args.table.now.wires c.args.intervals.now c.args.modules.now c.args.place m c.in-Some.at c.args.marks.now c.args.stamp c.args.least _ at c.requires.so_far there.0 room c.min.ensures c.min-in-Some.ensures,
    )

pub returns-else-not-are_too_wide-clause-older : goal.returns-else-not-are_too_wide-clause-older
returns-else-not-are_too_wide-clause-older c = stamped_older c.args.marks.now c.in-Some.at c.args.stamp
