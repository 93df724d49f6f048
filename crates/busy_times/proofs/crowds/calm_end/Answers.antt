use Rattle.std.proofs.Common.{◌≡◌, ◌+◌, ◌-◌, ◌≤◌, inl, inr, get_or, arith}
use Rattle.std.proofs.lemmas.Bool.{cases_lt}
use Rattle.busy_times.specs.Profiles.{no_point}
use Rattle.busy_times.proofs.Sweeps.{calm_more}
use Rattle.busy_times.proofs.crowds.calm_end.Goals as goal

pub loop-place-init : goal.loop-place-init
loop-place-init c = record {
  bound = omega arith;
  most = omega arith;
  ahead = (λ inside. absurd (omega (arith, inside)));
  calm = (λ load ended at late. (let none = ended.over at late in omega (arith, none)));
}

pub loop-place-preserved : goal.loop-place-preserved
loop-place-preserved c =
    let some = c.loop-place-test.true in
    let bound = c.loop-place.invariant.bound in
    let low : (get_or c.args.points.now (c.loop-place.place - 1) no_point).load ≤ c.args.free = (let h = c.if-now-free.false in omega (arith, h)) in
    let place_is : c.loop-place.place ≡ c.loop-place.place - 1 + 1 = omega (arith, some) in
    let ahead = rw place_is at c.loop-place.invariant.ahead in
    record {
      bound = omega (arith, bound);
      most = omega (arith, c.loop-place.invariant.most, c.min-calm.ensures);
      ahead = (λ inside. omega (arith, c.min-calm.ensures));
      calm = (λ load ended at late. elim (cases_lt at c.loop-place.calm) [
        | inr after ↦ c.loop-place.invariant.calm load ended at after
        | inl before ↦ calm_more load c.args.points.now c.args.free c.args.last (c.loop-place.place - 1) c.loop-place.calm ended (omega (arith, some, bound)) low ahead (c.loop-place.invariant.calm load ended) at (omega (arith, before, late, c.min-calm.ensures))
      ]);
    }
