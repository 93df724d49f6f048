use Rattle.std.proofs.Common.{◌≡◌, take, get_or, vec_capacity, nat_eq, filter}
use Rattle.schedule_search.proofs.prefix.fill_free.Given as goal

abbrev pub invariant-loop-test : goal.invariant-loop-test
invariant-loop-test l = record {
  items : l.free.items ≡ filter (λ test. nat_eq (get_or l.missing test 0) 0) (take l.test-index l.tests);
  room : vec_capacity l.free ≡ vec_capacity l.initial.free;
}
