use Rattle.std.proofs.Common.{map, refl, Contains}
use Rattle.soc_model.specs.Chips.{soc_value}
use Rattle.plan_model.specs.Views.{plan_value}
use Rattle.plan_model.specs.Faults.{Present, Missing}
use Rattle.plan_model.specs.Rules.{used_pairs, pair_of}
use Rattle.plan_checker.proofs.Breaking.{breaks_first}
use Rattle.plan_checker.proofs.wrappers.check_wrappers.Goals as goal

pub returns-in-Some-clause-stage : goal.returns-in-Some-clause-stage
returns-in-Some-clause-stage c = λ limits.
    let f = rw c.deref.ensures.value at c.in-Some.ensures.first in
    (Present f.0 f.1 f.2 f.3, refl)

pub returns-in-Some-unwrapped-clause-stage : goal.returns-in-Some-unwrapped-clause-stage
returns-in-Some-unwrapped-clause-stage c = λ limits.
    let kept = rw c.deref.ensures.value at c.in-None.ensures.kept in
    let b = rw (c.in-None.ensures.filled, c.deref.ensures.value) at c.in-Some-unwrapped.ensures.first in
    let f = breaks_first (Contains (map pair_of (plan_value c.args.plan.now).wrappers)) (used_pairs (soc_value c.args.soc.now)) c.in-Some-unwrapped.pair b in
    (Missing kept f.0 c.in-Some-unwrapped.pair f.1 refl, refl)

pub returns-in-None-unwrapped-clause-stage : goal.returns-in-None-unwrapped-clause-stage
returns-in-None-unwrapped-clause-stage c = λ limits. (rw c.deref.ensures.value at c.in-None.ensures.kept, rw (c.in-None.ensures.filled, c.deref.ensures.value) at c.in-None-unwrapped.ensures.all)
