use Rattle.std.proofs.Common.{arith}
use Rattle.resource_table.proofs.table.TableOf.sought_start.Goals as goal

pub starts-init : goal.starts-init
starts-init g c =
    record {
      apart = c.after_times-free.ensures.apart;
      after = (λ n p at before. let end = c.begin-first.ensures.after n p at before in omega (arith, end, c.after_times-free.ensures.from));
      most = c.after_times-free.ensures.most;
      least = (λ other fits. c.after_times-free.ensures.least other (c.begin-first.ensures.least other fits) fits.apart);
    }

pub starts-preserved : goal.starts-preserved
starts-preserved g c =
    let from = c.after_draws-within.ensures.from in
    record {
      apart = c.after_times-next.ensures.apart;
      after = (λ n p at before. let end = c.starts.invariant.after n p at before in omega (arith, end, from, c.after_times-next.ensures.from));
      most = c.after_times-next.ensures.most;
      least = (λ other fits. c.after_times-next.ensures.least other (c.after_draws-within.ensures.least other (c.starts.invariant.least other fits) fits.power) fits.apart);
    }

pub returns-then-within-free-clause-earliest : goal.returns-then-within-free-clause-earliest
returns-then-within-free-clause-earliest g c = record {
  fits = record {
    apart = c.starts.invariant.apart;
    power = rw c.if-within-free.true at c.after_draws-within.ensures.within;
    after = c.starts.invariant.after;
  };
  least = c.starts.invariant.least;
}

pub returns-then-next-within-clause-earliest : goal.returns-then-next-within-clause-earliest
returns-then-next-within-clause-earliest g c =
    record {
      fits = record {
        apart = rw c.if-next-within.true at c.after_times-next.ensures.apart;
        power = c.after_draws-within.ensures.within;
        after = (λ n p at before. let end = c.starts.invariant.after n p at before in omega (arith, end, c.after_draws-within.ensures.from));
      };
      least = (λ other fits. c.after_draws-within.ensures.least other (c.starts.invariant.least other fits) fits.power);
    }
