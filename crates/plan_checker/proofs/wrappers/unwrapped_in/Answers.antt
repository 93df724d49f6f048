use Rattle.std.proofs.Common.{true, false, refl, Contains}
use Rattle.indexmap.specs.IndexSet.{keys}
use Rattle.soc_model.specs.Chips.{module_value}
use Rattle.plan_model.specs.Rules.{mode_pair}
use Rattle.plan_checker.proofs.Breaking.{of_append, breaks_front, breaks_behind}
use Rattle.plan_checker.proofs.wrappers.unwrapped_in.Goals as goal

pub returns-then-lacks_wrapper-clause-first : goal.returns-then-lacks_wrapper-clause-first
returns-then-lacks_wrapper-clause-first c = breaks_front (Contains (keys c.args.room.now)) (mode_pair true (module_value c.args.«module».now)) (mode_pair false (module_value c.args.«module».now)) (c.args.«module».now.number, true) (c.if-lacks_wrapper.ensures.broken refl)

pub returns-then-lacks_wrapper-2-clause-first : goal.returns-then-lacks_wrapper-2-clause-first
returns-then-lacks_wrapper-2-clause-first c = breaks_behind (Contains (keys c.args.room.now)) (mode_pair true (module_value c.args.«module».now)) (mode_pair false (module_value c.args.«module».now)) (c.args.«module».now.number, false) (c.if-lacks_wrapper.ensures.kept refl) (c.if-lacks_wrapper-2.ensures.broken refl)

pub returns-clause-all : goal.returns-clause-all
returns-clause-all c = of_append (Contains (keys c.args.room.now)) (mode_pair true (module_value c.args.«module».now)) (mode_pair false (module_value c.args.«module».now)) (c.if-lacks_wrapper.ensures.kept refl) (c.if-lacks_wrapper-2.ensures.kept refl)
