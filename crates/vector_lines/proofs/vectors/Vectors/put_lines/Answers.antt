use Rattle.std.proofs.Common.{ℕ, ◌+◌, ◌*◌, ◌≤◌, List, length, subst, sym, arith}
use Rattle.vector_lines.specs.Lanes.{IsFilled, AreLanes, AreSomeLanes}
use Rattle.vector_lines.specs.declared.lane.Lane.{Lane}
use Rattle.vector_lines.proofs.NewVectors.{vectors_some, vectors_lines}
use Rattle.vector_lines.proofs.vectors.Vectors.put_lines.Goals as goal

pub put_tests-requires-clause-narrow : goal.put_tests-requires-clause-narrow
put_tests-requires-clause-narrow g c =
    let room = c.requires.room in
    omega (arith, room.are.all, room.narrow)

pub put_tests-requires-clause-lanes : goal.put_tests-requires-clause-lanes
put_tests-requires-clause-lanes g c =
    let room = c.requires.room in
    subst (λ (lanes : List Lane). AreSomeLanes (g.C.Contents.keys c.args.contents.now) lanes c.args.self.now.wires) (sym c.deref.ensures.value) (vectors_some c.args.self.now room.are)

pub put_tests-requires-clause-rows : goal.put_tests-requires-clause-rows
put_tests-requires-clause-rows g c =
    let room = c.requires.room in
    subst (λ (n : ℕ). c.args.count * (2 * n + 2) ≤ length c.args.text.now) (sym room.are.all) room.rows

pub returns-clause-lines : goal.returns-clause-lines
returns-clause-lines g c = λ soc plan content marks are stand r h.
    vectors_lines c.args.self.now c.args.from c.args.count c.put_tests.new.text are stand (λ content marks tests are on r h. c.put_tests.ensures.lines content marks tests
    (subst (λ (lanes : List Lane). AreLanes (IsFilled (g.C.Contents.drive c.args.contents.now) (g.C.Contents.mark c.args.contents.now) content marks) tests lanes) (sym c.deref.ensures.value) are) on r h) r h
