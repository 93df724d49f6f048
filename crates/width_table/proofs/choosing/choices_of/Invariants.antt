use Rattle.std.proofs.Common.{◌≡◌, ◌+◌, ◌-◌, ◌<◌, ◌≤◌, Some, [], length}
use Rattle.soc_model.specs.Chips.{module_value}
use Rattle.wrapper_design.specs.Design.{mode_of}
use Rattle.width_table.specs.Choices.{IsChoice, AreChoices, last_of}
use Rattle.width_table.specs.declared.choosing.Choice.{Choice}
use Rattle.width_table.proofs.choosing.choices_of.Given as goal

abbrev pub invariant-loop-width : goal.invariant-loop-width
invariant-loop-width l = record {
  some : 1 ≤ l.width;
  within : l.width ≤ l.wires + 1;
  mode : l.paths ≡ mode_of (module_value l.«module») l.scan;
  choices : AreChoices (module_value l.«module») l.scan (l.width - 1) l.taken.items l.places.items;
  few : length l.taken.items < l.width;
  last : 1 < l.width → (b : Choice) × (last_of l.taken.items ≡ Some b) × IsChoice (module_value l.«module») l.scan (l.width - 1) b;
  start : l.width ≤ 1 → l.taken.items ≡ [];
}

abbrev pub decreases-loop-width : goal.decreases-loop-width
decreases-loop-width l = l.wires + 1 - l.width
