use Rattle.std.proofs.Common.{◌++◌, true, false, sym, arith, Contains}
use Rattle.indexmap.specs.IndexSet.{keys}
use Rattle.soc_model.specs.Chips.{ModuleValue, soc_value, module_value}
use Rattle.plan_model.specs.Rules.{mode_pair}
use Rattle.plan_checker.proofs.Breaking.{if_broken, if_none, flat_kept_at, flat_all}
use Rattle.plan_checker.proofs.wrappers.unwrapped.Goals as goal

pub returns-then-is_some-clause-first : goal.returns-then-is_some-clause-first
returns-then-is_some-clause-first c = if_broken (Contains (keys c.args.room.now)) (λ (m : ModuleValue). mode_pair true m ++ mode_pair false m) (soc_value c.args.soc.now).modules c.loop-place.place (module_value c.module_at.result.now) c.unwrapped_in-missing.result c.module_at.ensures c.loop-place.invariant c.unwrapped_in-missing.ensures.first

pub loop-place-preserved : goal.loop-place-preserved
loop-place-preserved c = flat_kept_at (Contains (keys c.args.room.now)) (λ (m : ModuleValue). mode_pair true m ++ mode_pair false m) (soc_value c.args.soc.now).modules c.loop-place.place (module_value c.module_at.result.now) c.module_at.ensures c.loop-place.invariant (if_none c.unwrapped_in-missing.result _ (sym c.if-is_some.ensures) c.unwrapped_in-missing.ensures.all)

pub returns-clause-all : goal.returns-clause-all
returns-clause-all c = flat_all (Contains (keys c.args.room.now)) (λ (m : ModuleValue). mode_pair true m ++ mode_pair false m) (soc_value c.args.soc.now).modules c.loop-place.place (omega arith) c.loop-place.invariant
