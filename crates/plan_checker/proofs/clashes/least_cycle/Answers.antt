use Rattle.std.proofs.Common.{subst, sym}
use Rattle.plan_checker.specs.declared.clashes.Apart.TheVariants as apart
use Rattle.plan_checker.specs.declared.meetings.EndKey.TheVariants as key
use Rattle.plan_checker.specs.Clashes.{keeps_apart}
use Rattle.plan_checker.specs.Meetings.{AreSlots, notes_for}
use Rattle.plan_checker.proofs.Sides.{one_bus, one_module, parent_and_child, one_side, first_cycle}
use Rattle.plan_checker.proofs.clashes.least_cycle.Goals as goal

pub first_meeting-child_first-requires-clause-slots : goal.first_meeting-child_first-requires-clause-slots
first_meeting-child_first-requires-clause-slots c = subst (AreSlots c.args.parents.now c.args.placed.now) (sym c.first_meeting-parent_first.auto.ends) c.requires.slots

pub returns-in-OneBus : goal.returns-in-OneBus
returns-in-OneBus c = rw c.in-OneBus.is (one_side (keeps_apart c.args.parents.now apart.OneBus) (notes_for c.args.parents.now key.Bus key.Bus) c.args.placed.now c.args.begins.now (one_bus c.args.parents.now c.args.placed.now) c.requires.begins_are c.first_meeting.result c.first_meeting.ensures)

pub returns-in-OneModule : goal.returns-in-OneModule
returns-in-OneModule c = rw c.in-OneModule.is (one_side (keeps_apart c.args.parents.now apart.OneModule) (notes_for c.args.parents.now key.Place key.Place) c.args.placed.now c.args.begins.now (one_module c.args.parents.now c.args.placed.now) c.requires.begins_are c.first_meeting-in-OneModule.result c.first_meeting-in-OneModule.ensures)

pub returns-in-ParentAndChild : goal.returns-in-ParentAndChild
returns-in-ParentAndChild c = rw (c.in-ParentAndChild.is, c.earlier.ensures) (first_cycle (keeps_apart c.args.parents.now apart.ParentAndChild) (notes_for c.args.parents.now key.Place key.Parent) (notes_for c.args.parents.now key.Parent key.Place) c.args.placed.now c.args.begins.now (parent_and_child c.args.parents.now c.args.placed.now c.requires.parents_first) c.requires.begins_are c.first_meeting-parent_first.result c.first_meeting-child_first.result c.first_meeting-parent_first.ensures c.first_meeting-child_first.ensures)
