use Rattle.std.proofs.Common.{◌≡◌, ◌+◌, length, drop}
use Rattle.std.specs.List.{sum_by, filter}
use Rattle.soc_model.specs.Modes.{is_of_mode}
use Rattle.width_table.proofs.Work.{patterns_of}
use Rattle.width_table.proofs.choosing.totals.Given as goal

abbrev pub invariant-loop-test : goal.invariant-loop-test
invariant-loop-test l = record {
  tests : l.tests + length (filter (is_of_mode l.scan) (drop l.test-index l.test-items)) ≡ length (filter (is_of_mode l.scan) l.test-items);
  patterns : l.patterns + sum_by patterns_of (filter (is_of_mode l.scan) (drop l.test-index l.test-items)) ≡ sum_by patterns_of (filter (is_of_mode l.scan) l.test-items);
}
