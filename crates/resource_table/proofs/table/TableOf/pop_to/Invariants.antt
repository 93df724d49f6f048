use Rattle.std.proofs.Common.{◌≡◌, ◌≤◌, length, take}
use Rattle.resource_table.proofs.table.TableOf.pop_to.Given as goal

abbrev pub invariant-loop-self : goal.invariant-loop-self
invariant-loop-self g l = record {
  job : l.self.job ≡ l.initial.self.job;
  more : l.count ≤ length l.self.placed;
  front : take l.count l.self.placed ≡ take l.count l.initial.self.placed;
}

abbrev pub decreases-loop-self : goal.decreases-loop-self
decreases-loop-self g l = length l.self.placed
