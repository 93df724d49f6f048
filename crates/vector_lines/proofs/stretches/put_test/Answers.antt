use Rattle.std.proofs.Common.{◌∙◌, arith}
use Rattle.vector_lines.proofs.LinesOfTests.{played_more, played_all}
use Rattle.vector_lines.proofs.stretches.put_test.Goals as goal

pub loop-cycle-preserved : goal.loop-cycle-preserved
loop-cycle-preserved g c = record {
  from = omega (arith, c.loop-cycle.invariant.from);
  begun = omega (arith, c.loop-cycle.invariant.begun);
  long = c.put_stretch-cycle.auto.text ∙ c.loop-cycle.invariant.long;
  played = λ content marks tests i t h.
      played_more c.args.text.now h c.loop-cycle.invariant.from (omega arith) (c.loop-cycle.invariant.played content marks tests i t h) (c.put_stretch-cycle.ensures.played content marks tests i t h);
}

pub returns-clause-played : goal.returns-clause-played
returns-clause-played g c = λ content marks tests i t h.
    played_all c.args.text.now h c.args.count c.loop-cycle.invariant.from (omega (arith, c.min-end.ensures, c.loop-cycle-test.false)) (c.loop-cycle.invariant.played content marks tests i t h)
