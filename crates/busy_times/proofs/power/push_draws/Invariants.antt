use Rattle.std.proofs.Common.{◌≡◌, ◌+◌, ◌++◌, drop, vec_len, vec_capacity}
use Rattle.busy_times.specs.Draws.{draws_from}
use Rattle.busy_times.proofs.power.push_draws.Given as goal

abbrev pub invariant-loop-at : goal.invariant-loop-at
invariant-loop-at l = record {
  items : l.draws.items ++ draws_from l.start l.length (drop l.at l.steps) ≡ l.initial.draws.items ++ draws_from l.start l.length l.steps;
  len : vec_len l.draws ≡ vec_len l.initial.draws + l.at;
  capacity : vec_capacity l.draws ≡ vec_capacity l.initial.draws;
}
