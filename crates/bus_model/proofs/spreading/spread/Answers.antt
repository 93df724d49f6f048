use Rattle.std.proofs.Common.{arith, suc, ◌∙◌, ap}
use Rattle.bus_model.specs.Buses.{spread_of}
use Rattle.bus_model.proofs.spreading.spread.Goals as goal

pub loop-given-preserved : goal.loop-given-preserved
loop-given-preserved c = record {
  sound = c.widen_bottleneck.ensures.sound;
  some = λ h. let k = c.loop-given.invariant.some h in let e = c.widen_bottleneck.ensures.count in omega arith;
  free = let k = c.loop-given.invariant.free in let e = c.widen_bottleneck.ensures.used in omega arith;
  value = λ n h. ap (spread_of c.args.table.now n) c.widen_bottleneck.ensures.value ∙ c.loop-given.invariant.value (suc n) (omega arith);
}

pub returns-clause-value : goal.returns-clause-value
returns-clause-value c = c.loop-given.invariant.value 0 (omega arith)
