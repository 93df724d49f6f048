use Rattle.std.proofs.Common.{◌++◌, ◌∙◌, drop, take, arith}
use Rattle.std.proofs.lemmas.List.{take_all}
use Rattle.busy_times.specs.{declared.power.Draw.Draw, Draws.marks_from}
use Rattle.busy_times.proofs.Profiles.{loads_fit, next_added}
use Rattle.busy_times.proofs.profile.add_draws.Goals as goal

abbrev no_draw : Draw
no_draw = record { from = 0; to = 0; power = 0 }

pub add_marks-near-requires-clause-points : goal.add_marks-near-requires-clause-points
add_marks-near-requires-clause-points c = (take c.args.from c.args.draws.now, c.requires.points.0, c.requires.points.1, c.requires.points.2)

pub loop-at-init : goal.loop-at-init
loop-at-init c = record {
  points = (λ cycles marked are. c.add_marks-near.ensures.points (take c.args.from c.args.draws.now) cycles marked are);
  capacity = c.add_marks-near.ensures.capacity;
}

pub raise_load-near-requires-clause-ordered : goal.raise_load-near-requires-clause-ordered
raise_load-near-requires-clause-ordered c = (c.loop-at.invariant.points c.requires.points.0 c.requires.points.1 c.requires.points.2).ordered

pub raise_load-near-requires-clause-fits : goal.raise_load-near-requires-clause-fits
raise_load-near-requires-clause-fits c =
    loads_fit c.args.draws.now (marks_from c.args.start (drop c.args.from c.args.draws.now) ++ c.requires.points.0) c.loop-at.at c.args.limit no_draw c.loop-at.points.items c.loop-at-test.true (c.loop-at.invariant.points c.requires.points.0 c.requires.points.1 c.requires.points.2) c.requires.within (omega arith)

pub loop-at-preserved : goal.loop-at-preserved
loop-at-preserved c = record {
  points = (λ cycles marked are. next_added c.args.draws.now (marks_from c.args.start (drop c.args.from c.args.draws.now) ++ cycles) c.loop-at.at no_draw c.loop-at.points.items c.raise_load-near.new.points.items c.loop-at-test.true (c.loop-at.invariant.points cycles marked are) c.raise_load-near.ensures.items);
  capacity = c.raise_load-near.ensures.capacity ∙ c.loop-at.invariant.capacity;
}

pub returns-clause-points : goal.returns-clause-points
returns-clause-points c = λ cycles marked are.
    rw (take_all c.loop-at.at c.args.draws.now (let ended = c.loop-at-test.false in omega arith)) at (c.loop-at.invariant.points cycles marked are)
