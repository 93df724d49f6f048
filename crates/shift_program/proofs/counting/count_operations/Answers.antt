use Rattle.std.proofs.Common.{◌≡◌, ◌+◌, suc, length, take, get_or, ap, arith}
use Rattle.std.proofs.lemmas.List.{length-take-le}
use Rattle.std.proofs.lemmas.Option.{slice_get-get_or}
use Rattle.shift_program.specs.declared.Entry.TheVariants as entry
use Rattle.shift_program.proofs.Counts.{captured-le}
use Rattle.shift_program.proofs.Exact.{fault_at, clear_at, counted_at, seen_at, fault_end, none_end}
use Rattle.shift_program.proofs.counting.count_operations.Goals as goal

pub returns-in-Some-clause-fault : goal.returns-in-Some-clause-fault
returns-in-Some-clause-fault c =
    let i = c.loop-entry.invariant in
    fault_at c.args.need.now c.loop-entry.passed _ c.args.entries.now c.loop-entry.entry-index c.loop-entry.place (get_or c.args.entries.now c.loop-entry.entry-index (entry.Rest 0)) c.in-Some.fault
    i.place i.seen i.counted i.clear (slice_get-get_or c.args.entries.now c.loop-entry.entry-index (entry.Rest 0) c.loop-entry-test.true) c.in-Some.ensures

pub note_capture-requires-clause-space : goal.note_capture-requires-clause-space
note_capture-requires-clause-space c =
    let i = c.loop-entry.invariant in
    let few = captured-le (take c.loop-entry.entry-index c.args.entries.now) in
    let taken = length-take-le c.loop-entry.entry-index c.args.entries.now (omega (arith, c.loop-entry-test.true)) in
    omega (arith, few, taken, ap length i.seen, i.space, c.requires.space, c.loop-entry-test.true)

pub loop-entry-preserved : goal.loop-entry-preserved
loop-entry-preserved c =
    let i = c.loop-entry.invariant in
    let e = get_or c.args.entries.now c.loop-entry.entry-index (entry.Rest 0) in
    let at = slice_get-get_or c.args.entries.now c.loop-entry.entry-index (entry.Rest 0) c.loop-entry-test.true in
    let next : c.loop-entry.entry-index + 1 ≡ suc c.loop-entry.entry-index = omega arith in
    record {
      place = omega (arith, i.place);
      counted = counted_at c.args.entries.now c.loop-entry.entry-index (c.loop-entry.entry-index + 1) e c.loop-entry.passed c.more-passed.result next at i.counted c.more-passed.ensures.next;
      seen = seen_at c.args.entries.now c.loop-entry.entry-index (c.loop-entry.entry-index + 1) e _ _ next at i.seen c.note_capture.ensures.filled;
      clear = clear_at c.args.need.now c.loop-entry.passed _ c.args.entries.now c.loop-entry.entry-index c.loop-entry.place (c.loop-entry.entry-index + 1) e next i.place i.seen i.counted i.clear at c.in_default.ensures;
      operations = omega (arith, c.more-passed.ensures.operations, i.operations);
      shifts = omega (arith, c.more-passed.ensures.shifts, i.shifts);
      space = omega (arith, i.space, c.note_capture.ensures.space_left);
    }

pub returns-in-Some-end_fault-clause-fault : goal.returns-in-Some-end_fault-clause-fault
returns-in-Some-end_fault-clause-fault c =
    let i = c.loop-entry.invariant in
    fault_end c.args.need.now c.loop-entry.passed _ c.args.entries.now c.loop-entry.entry-index c.loop-entry.place c.in-Some-end_fault.fault i.place (omega (arith, c.loop-entry-test.false, c.loop-entry.auto.entry-index-end)) i.seen i.counted i.clear c.in-Some-end_fault.ensures

pub returns-in-None-clause-faultless : goal.returns-in-None-clause-faultless
returns-in-None-clause-faultless c =
    let i = c.loop-entry.invariant in
    none_end c.args.need.now c.loop-entry.passed _ c.args.entries.now c.loop-entry.entry-index c.loop-entry.place i.place (omega (arith, c.loop-entry-test.false, c.loop-entry.auto.entry-index-end)) i.seen i.counted i.clear c.in-None.ensures
