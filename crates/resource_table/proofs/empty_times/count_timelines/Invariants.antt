use Rattle.std.{proofs.Common.◌<◌, proofs.Common.take, specs.Prelude.IfSome, specs.List.All}
use Rattle.resource_table.specs.{declared.JobTest.JobTest, Jobs.test_value, PlacedTimes.timeline_of}
use Rattle.resource_table.proofs.empty_times.count_timelines.Given as goal

abbrev pub invariant-loop-test : goal.invariant-loop-test
invariant-loop-test l = All (λ (t : JobTest). IfSome (timeline_of l.kind (test_value t)) (λ k. k < l.count)) (take l.test-index l.tests)
