use Rattle.std.proofs.Common.{ℕ, ◌-◌, ◌≤◌}
use Rattle.resource_table.specs.Schedules.{Fits, ComesAfter, MeetsNone}
use Rattle.resource_table.proofs.table.TableOf.sought_start.Given as goal

abbrev pub invariant-starts : goal.invariant-starts
invariant-starts g l = record {
  apart : MeetsNone l.self.job l.self.placed l.test l.free;
  after : ComesAfter l.self.job l.self.placed l.test l.free;
  most : l.free ≤ l.last;
  least : (other : ℕ) → Fits l.self.job l.self.placed l.test other → l.free ≤ other;
}

abbrev pub decreases-starts : goal.decreases-starts
decreases-starts g l = l.last - l.free
