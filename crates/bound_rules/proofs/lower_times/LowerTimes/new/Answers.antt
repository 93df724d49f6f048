use Rattle.bound_rules.proofs.lower_times.LowerTimes.new.Goals as goal

pub of-requires : goal.of-requires
of-requires c = c.requires.small

pub invariant_of-result : goal.invariant_of-result
invariant_of-result c = record {
  sizes = c.of.ensures.sizes;
  fitting = c.of.ensures.fitting;
  work = rw c.of.ensures.sizes c.requires.work;
}
