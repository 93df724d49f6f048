use Rattle.std.proofs.Common.{◌+◌, ◌-◌, ℕ, take, arith, refl, ◌∙◌, true, false}
use Rattle.outside.specs.Puts.{Puts}
use Rattle.outside.proofs.PieceLemmas.{puts_then}
use Rattle.cycle_texts.specs.ProgramText.{parts_of}
use Rattle.cycle_texts.specs.RowBlocks.{block_row, block_before}
use Rattle.cycle_texts.proofs.BlockRows.{next_part, parts_rest_of, no_parts, all_parts}
use Rattle.cycle_texts.proofs.UnderWay.{under_way_begins, put_behind, finished, stopped}
use Rattle.cycle_texts.proofs.parts.put_parts.Goals as goal

pub loop-place-init : goal.loop-place-init
loop-place-init g c = record {
  passed = omega arith;
  within = c.requires.within;
  at = omega arith;
  long = refl;
  written = λ row has. no_parts (g.F.CycleForm.part_of c.args.form.now) row (g.K.Sink.written c.args.out.now) (c.args.block.first + c.args.skipped) c.args.skipped (under_way_begins (g.K.Sink.written c.args.out.now));
  faults = omega arith;
  puts = Puts.begins;
}

pub returns-in-Err-clause-front : goal.returns-in-Err-clause-front
returns-in-Err-clause-front g c = λ row has.
    let part = g.F.CycleForm.part_of c.args.form.now in
    let from : ℕ = c.args.block.first + c.args.skipped in
    stopped (g.K.Sink.written c.args.out.now) (g.K.Sink.written c.loop-place.out) (g.K.Sink.written c.with_room.new.out) (take c.loop-place.at c.loop-place.text)
    (parts_of part row from (c.loop-place.place - c.args.skipped)) (parts_of part row (from + (c.loop-place.place - c.args.skipped)) (c.args.block.rows - c.loop-place.place)) (parts_of part row from (c.args.block.rows - c.args.skipped))
    (c.loop-place.invariant.written row has) c.in-Err.ensures.front
    (parts_rest_of part row from c.args.skipped c.loop-place.place c.args.block.rows c.loop-place.invariant.passed c.loop-place.invariant.within)

pub returns-in-Err-clause-last_failed : goal.returns-in-Err-clause-last_failed
returns-in-Err-clause-last_failed g c = puts_then g.K.Sink.is_put c.args.out.now c.loop-place.out c.with_room.new.out true c.loop-place.invariant.puts c.in-Err.ensures.last_failed

pub loop-place-preserved : goal.loop-place-preserved
loop-place-preserved g c = record {
  passed = omega (arith, c.loop-place.invariant.passed);
  within = omega (arith, c.loop-place-test.true);
  at = omega (arith, c.put_part-at.ensures.within, c.in-Ok.ensures.room, c.put_part-at.ensures.put.long);
  long = c.put_part-at.ensures.put.long ∙ c.loop-place.invariant.long;
  written = λ row has.
      let part = g.F.CycleForm.part_of c.args.form.now in
      put_behind (g.K.Sink.written c.args.out.now) (g.K.Sink.written c.loop-place.out) (g.K.Sink.written c.with_room.new.out) (take c.loop-place.at c.loop-place.text)
      (parts_of part row (c.args.block.first + c.args.skipped) (c.loop-place.place - c.args.skipped))
      (part (c.args.block.first + c.loop-place.place) (block_before c.args.block c.loop-place.place) (block_row c.args.block c.loop-place.place))
      (parts_of part row (c.args.block.first + c.args.skipped) (c.loop-place.place + 1 - c.args.skipped))
      c.in-Ok.next c.put_part-at.result c.loop-place.text c.put_part-at.new.text
      (c.loop-place.invariant.written row has) c.in-Ok.ensures.moved c.put_part-at.ensures.put
      (next_part part row c.args.block c.args.skipped c.loop-place.place has c.loop-place.invariant.passed c.loop-place-test.true c.requires.begins);
  faults = omega (arith, c.loop-place.invariant.faults, c.with_room.ensures.faults_never_fall);
  puts = puts_then g.K.Sink.is_put c.args.out.now c.loop-place.out c.with_room.new.out false c.loop-place.invariant.puts c.in-Ok.ensures.none_failed;
}

pub returns-in-Ok-put_all-clause-all : goal.returns-in-Ok-put_all-clause-all
returns-in-Ok-put_all-clause-all g c = λ row has.
    let part = g.F.CycleForm.part_of c.args.form.now in
    let written = finished (g.K.Sink.written c.args.out.now) (g.K.Sink.written c.loop-place.out) (g.K.Sink.written c.put_all.new.out) (take c.loop-place.at c.loop-place.text)
    (parts_of part row (c.args.block.first + c.args.skipped) (c.loop-place.place - c.args.skipped)) (c.loop-place.invariant.written row has) c.in-Ok-put_all.ensures.all in
    all_parts part row (g.K.Sink.written c.args.out.now) (g.K.Sink.written c.put_all.new.out) (c.args.block.first + c.args.skipped) c.args.skipped c.loop-place.place c.args.block.rows c.loop-place.invariant.within c.loop-place-test.false written

pub returns-in-Ok-put_all-clause-none_failed : goal.returns-in-Ok-put_all-clause-none_failed
returns-in-Ok-put_all-clause-none_failed g c = puts_then g.K.Sink.is_put c.args.out.now c.loop-place.out c.put_all.new.out false c.loop-place.invariant.puts c.in-Ok-put_all.ensures.none_failed

pub returns-in-Err-put_all-clause-front : goal.returns-in-Err-put_all-clause-front
returns-in-Err-put_all-clause-front g c = λ row has.
    let part = g.F.CycleForm.part_of c.args.form.now in
    let from : ℕ = c.args.block.first + c.args.skipped in
    stopped (g.K.Sink.written c.args.out.now) (g.K.Sink.written c.loop-place.out) (g.K.Sink.written c.put_all.new.out) (take c.loop-place.at c.loop-place.text)
    (parts_of part row from (c.loop-place.place - c.args.skipped)) (parts_of part row (from + (c.loop-place.place - c.args.skipped)) (c.args.block.rows - c.loop-place.place)) (parts_of part row from (c.args.block.rows - c.args.skipped))
    (c.loop-place.invariant.written row has) c.in-Err-put_all.ensures.front
    (parts_rest_of part row from c.args.skipped c.loop-place.place c.args.block.rows c.loop-place.invariant.passed c.loop-place.invariant.within)

pub returns-in-Err-put_all-clause-last_failed : goal.returns-in-Err-put_all-clause-last_failed
returns-in-Err-put_all-clause-last_failed g c = puts_then g.K.Sink.is_put c.args.out.now c.loop-place.out c.put_all.new.out true c.loop-place.invariant.puts c.in-Err-put_all.ensures.last_failed
