use Rattle.std.proofs.Common.{◌+◌, ◌∙◌, refl, arith}
use Rattle.vector_lines.proofs.LinesOfTests.{line_first, line_more, line_all, lane_has, some_lane_at}
use Rattle.vector_lines.proofs.stretches.put_tests.Goals as goal
use Rattle.common_lemmas.proofs.Lists.{slice_at}

pub loop-place-init : goal.loop-place-init
loop-place-init g c = record {
  long = refl;
  lines = λ content marks tests are on r h. line_first content marks tests (c.args.from + r) (c.put_blanks.ensures.blank r h);
}

pub put_test-requires-clause-lane : goal.put_test-requires-clause-lane
put_test-requires-clause-lane g c =
    some_lane_at c.loop-place.place c.requires.lanes (slice_at c.args.lanes.now c.loop-place.place c.index-lanes-place.result (omega (arith, c.loop-place-test.true)) c.index-lanes-place.is)

pub loop-place-preserved : goal.loop-place-preserved
loop-place-preserved g c = record {
  long = c.put_test.ensures.long ∙ c.loop-place.invariant.long;
  lines = λ content marks tests are on r h.
      let has = lane_has c.loop-place.place are on (slice_at c.args.lanes.now c.loop-place.place c.index-lanes-place.result (omega (arith, c.loop-place-test.true)) c.index-lanes-place.is) in
      line_more content marks tests (c.args.from + r) has.1 (c.put_test.ensures.played content marks tests c.loop-place.place has.0 has.1 r h) (c.loop-place.invariant.lines content marks tests are on r h);
}

pub returns-clause-lines : goal.returns-clause-lines
returns-clause-lines g c = λ content marks tests are on r h.
    line_all content tests (c.args.from + r) on (omega (arith, c.loop-place-test.false, are.long)) (c.loop-place.invariant.lines content marks tests are on r h)
