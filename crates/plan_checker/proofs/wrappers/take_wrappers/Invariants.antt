use Rattle.std.proofs.Common.{◌≡◌, ◌+◌, ◌≤◌, length, map, take}
use Rattle.indexmap.specs.IndexSet.{keys, spare}
use Rattle.soc_model.specs.Chips.{soc_value}
use Rattle.plan_model.specs.Views.{plan_value, wrapper_value}
use Rattle.plan_model.specs.Rules.{IsFitting, pair_of}
use Rattle.plan_model.proofs.FirstBreaches.{EachTo}
use Rattle.plan_checker.proofs.wrappers.take_wrappers.Given as goal

abbrev pub invariant-loop-wrapper : goal.invariant-loop-wrapper
invariant-loop-wrapper l = record {
  each : EachTo (IsFitting (soc_value l.soc) (plan_value l.plan)) (map wrapper_value l.wrappers) l.wrapper-index;
  filled : keys l.room ≡ map pair_of (take l.wrapper-index (map wrapper_value l.wrappers));
  space : spare l.fn.room ≤ length (keys l.room) + spare l.room;
}
