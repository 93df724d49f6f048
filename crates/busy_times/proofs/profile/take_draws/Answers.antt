use Rattle.std.proofs.Common.{◌≡◌, ◌≤◌, ◌++◌, ◌+◌, ◌-◌, ◌∙◌, ℕ, List, length, drop, take, arith, get_or, refl, subst}
use Rattle.std.proofs.lemmas.List.{take_all}
use Rattle.busy_times.specs.{declared.power.Draw.Draw, declared.points.Point.Point, Draws.marks_from, Profiles.ArePoints}
use Rattle.busy_times.proofs.Profiles.{last_split, loads_cover, draw_taken}
use Rattle.busy_times.proofs.profile.take_draws.Goals as goal

abbrev no_draw : Draw
no_draw = record { from = 0; to = 0; power = 0 }

-- the points up to a draw, split at it
split : (draws : List Draw) (cycles : List ℕ) (at : ℕ) (points : List Point) → 1 ≤ at → ArePoints (take at draws) cycles points → ArePoints (take (at - 1 + 1) draws) cycles points
split draws cycles at points some are = subst (λ n. ArePoints (take n draws) cycles points) (let e : at ≡ at - 1 + 1 = omega arith in e) are

pub loop-at-init : goal.loop-at-init
loop-at-init c = record {
  most = omega arith;
  least = c.requires.count;
  points = (λ cycles are. rw (take_all (length c.args.draws.now) c.args.draws.now (omega arith)) are);
  capacity = refl;
}

pub lower_load-near-requires-clause-ordered : goal.lower_load-near-requires-clause-ordered
lower_load-near-requires-clause-ordered c = (c.loop-at.invariant.points c.requires.points.0 c.requires.points.1).ordered

pub lower_load-near-requires-clause-covers : goal.lower_load-near-requires-clause-covers
lower_load-near-requires-clause-covers c =
    let marks = marks_from c.args.start (drop c.args.count c.args.draws.now) ++ c.requires.points.0 in
    let at = c.loop-at.at - 1 in
    let most = c.loop-at.invariant.most in
    let more = c.loop-at-test.true in
    let are = split c.args.draws.now marks c.loop-at.at c.loop-at.points.items (omega arith) (c.loop-at.invariant.points c.requires.points.0 c.requires.points.1) in
    loads_cover (take at c.args.draws.now) marks (get_or c.args.draws.now at no_draw) c.loop-at.points.items (last_split c.args.draws.now marks at no_draw c.loop-at.points.items (omega arith) are)

pub loop-at-preserved : goal.loop-at-preserved
loop-at-preserved c =
    let at = c.loop-at.at - 1 in
    let most = c.loop-at.invariant.most in
    let least = c.loop-at.invariant.least in
    let more = c.loop-at-test.true in
    record {
      most = omega arith;
      least = omega arith;
      points = (λ cycles old.
          let marks = marks_from c.args.start (drop c.args.count c.args.draws.now) ++ cycles in
          let are = split c.args.draws.now marks c.loop-at.at c.loop-at.points.items (omega arith) (c.loop-at.invariant.points cycles old) in
          draw_taken (take at c.args.draws.now) marks (get_or c.args.draws.now at no_draw) c.lower_load-near.new.points.items c.loop-at.points.items (last_split c.args.draws.now marks at no_draw c.loop-at.points.items (omega arith) are) c.lower_load-near.ensures.items);
      capacity = c.lower_load-near.ensures.capacity ∙ c.loop-at.invariant.capacity;
    }

pub remove_marks-requires-clause-points : goal.remove_marks-requires-clause-points
remove_marks-requires-clause-points c = (take c.loop-at.at c.args.draws.now, c.requires.points.0, c.loop-at.invariant.points c.requires.points.0 c.requires.points.1)

pub returns-clause-points : goal.returns-clause-points
returns-clause-points c = λ cycles old.
    let least = c.loop-at.invariant.least in
    let ended = c.loop-at-test.false in
    let same : c.loop-at.at ≡ c.args.count = omega arith in
    let are = rw same at (c.loop-at.invariant.points cycles old) in
    c.remove_marks.ensures.points (take c.args.count c.args.draws.now) cycles are
