use Rattle.bound_certificate.proofs.FirstBest.{listed_more, listed_all}
use Rattle.bound_certificate.proofs.chains.best_of.Goals as goal

pub loop-place-preserved : goal.loop-place-preserved
loop-place-preserved c = record {
  best = listed_more c.args.sums.now c.args.places.now c.loop-place.place-index c.loop-place.best c.better-best.result c.loop-place-test.true c.loop-place.invariant.best c.better-best.ensures.better;
  within = c.better-best.ensures.within;
}

pub returns-clause-best : goal.returns-clause-best
returns-clause-best c = listed_all c.args.sums.now c.args.places.now c.loop-place.place-index c.loop-place.best c.loop-place-test.false c.loop-place.invariant.best
