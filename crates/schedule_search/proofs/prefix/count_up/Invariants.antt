use Rattle.std.proofs.Common.{◌≡◌, ℕ, List, take, vec_capacity}
use Rattle.resource_table.specs.Jobs.{job_value}
use Rattle.schedule_search.specs.Prefixes.{all_free, AreApart, AreLess}
use Rattle.schedule_search.proofs.prefix.count_up.Given as goal

abbrev pub invariant-loop-test : goal.invariant-loop-test
invariant-loop-test l = record {
  less : AreLess l.missing l.initial.missing (take l.test-index l.tests);
  free : (prefix : List ℕ) → AreApart prefix l.tests → l.initial.free.items ≡ all_free (job_value l.job) prefix l.initial.missing → l.free.items ≡ all_free (job_value l.job) prefix l.missing;
  room : vec_capacity l.free ≡ vec_capacity l.initial.free;
}
