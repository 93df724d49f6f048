use Rattle.std.proofs.Common.{ap, length, refl, sym, subst, ◌∙◌, Contains}
use Rattle.soc_model.specs.Chips.{soc_value}
use Rattle.plan_model.specs.Views.{plan_value, bus_value}
use Rattle.plan_model.specs.Faults.{Present, Missing}
use Rattle.plan_model.specs.Rules.{IsKnown, listed}
use Rattle.plan_checker.proofs.Firsts.{each_front}
use Rattle.plan_checker.proofs.Rooms.{length_values}
use Rattle.plan_checker.proofs.places.check_places.Goals as goal

pub listed_twice-requires-clause-known : goal.listed_twice-requires-clause-known
listed_twice-requires-clause-known c = rw c.deref.ensures.value (λ n x at. subst (λ ns. Contains ns x) c.requires.sound.keyed (each_front (IsKnown (soc_value c.args.soc.now)) (listed (plan_value c.args.plan.now)) _ c.requires.known n x at))

pub listed_twice-requires-clause-room : goal.listed_twice-requires-clause-room
listed_twice-requires-clause-room c = c.requires.room ∙ sym (length_values _ (soc_value c.args.soc.now).modules)

pub returns-in-Some-clause-stage : goal.returns-in-Some-clause-stage
returns-in-Some-clause-stage c = λ limits.
    let f = rw c.deref.ensures.value at c.in-Some.ensures.first in
    (Present f.0 c.in-Some.«module» f.1 refl, refl)

pub returns-in-Some-unplaced-clause-stage : goal.returns-in-Some-unplaced-clause-stage
returns-in-Some-unplaced-clause-stage c = λ limits.
    let new = rw c.deref.ensures.value at c.in-None.ensures.new in
    let marked = rw c.deref.ensures.value at c.in-None.ensures.marked in
    let f = c.in-Some-unplaced.ensures (plan_value c.args.plan.now) marked (c.len.ensures ∙ sym c.deref.ensures.len ∙ ap length c.deref.ensures.value ∙ sym (length_values bus_value c.args.plan.now.buses.items)) in
    (Missing new f.0 f.1 f.2 f.3, refl)

pub returns-in-None-unplaced-clause-stage : goal.returns-in-None-unplaced-clause-stage
returns-in-None-unplaced-clause-stage c = λ limits.
    let new = rw c.deref.ensures.value at c.in-None.ensures.new in
    let marked = rw c.deref.ensures.value at c.in-None.ensures.marked in
    (new, c.in-None-unplaced.ensures (plan_value c.args.plan.now) marked (c.len.ensures ∙ sym c.deref.ensures.len ∙ ap length c.deref.ensures.value ∙ sym (length_values bus_value c.args.plan.now.buses.items)))
