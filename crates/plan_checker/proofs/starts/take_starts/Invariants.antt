use Rattle.std.proofs.Common.{take}
use Rattle.plan_checker.specs.Named.{ids_of}
use Rattle.plan_checker.specs.Starting.{AreStarts, IsOnce}
use Rattle.plan_model.proofs.FirstBreaches.{EachTo}
use Rattle.plan_checker.proofs.starts.take_starts.Given as goal

abbrev pub invariant-loop-id : goal.invariant-loop-id
invariant-loop-id l = record {
  each : EachTo (IsOnce (ids_of l.names)) l.starts l.id-index;
  filled : AreStarts (ids_of l.names) (take l.id-index l.starts) l.room;
}
