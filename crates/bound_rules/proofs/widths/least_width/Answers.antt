use Rattle.std.proofs.Common.{◌≡◌, ◌+◌, ◌-◌, ◌/◌, arith, sym}
use Rattle.bound_rules.specs.Sizes.{tam_times_by}
use Rattle.plan_model.proofs.FirstAndLeast.{first_below_is}
use Rattle.bound_rules.proofs.LeastWidths.{times-fall}
use Rattle.bound_rules.proofs.widths.least_width.Goals as goal

pub loop-low-preserved : goal.loop-low-preserved
loop-low-preserved c = record {
  some = omega arith;
  order = omega arith;
  within = omega arith;
  before = λ v some less. omega (
    arith,
    c.if-tam_times-claimed.false,
    c.tam_times.ensures.time,
    times-fall c.args.sizes.now c.args.tests.now v (c.loop-low.low + (c.loop-low.high - c.loop-low.low) / 2) some (omega arith),
  );
  here = c.loop-low.invariant.here;
}

pub returns : goal.returns
returns c =
    let same : c.loop-low.high ≡ c.loop-low.low = omega (arith, c.loop-low.invariant.order) in
    sym (first_below_is (λ w. tam_times_by c.args.sizes.now w c.args.tests.now) c.args.claimed c.args.wires c.loop-low.low
    c.loop-low.invariant.some (omega (arith, c.loop-low.invariant.within)) c.loop-low.invariant.before (rw same at c.loop-low.invariant.here))
