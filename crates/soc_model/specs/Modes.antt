-- The modes of a module: which of its tests go over the wires in each, and the scan chains that each has.
use Rattle.std.specs.Prelude.{ℕ, Bool, true, false, List, [], ◌&&◌, not, if◌then◌else◌}
use Rattle.std.specs.List.{list_any}
use Rattle.soc_model.specs.declared.Test.{Test}
use Rattle.soc_model.specs.Chips.{ModuleValue, is_live}

-- both are scan, or both terminals
abbrev pub same_mode : Bool → Bool → Bool
same_mode true b = b
same_mode false b = not b

-- a live test over the wires
abbrev pub is_tam : Test → Bool
is_tam t = is_live t && t.tam

-- a live test over the wires, in this mode
abbrev pub is_of_mode : (scan : Bool) → Test → Bool
is_of_mode scan t = is_live t && (t.tam && same_mode scan t.scan)

-- the module has a live test over the wires
abbrev pub has_tam : ModuleValue → Bool
has_tam m = list_any is_tam m.tests

-- a live test of the module goes over the wires in that mode
abbrev pub uses_mode : Bool → ModuleValue → Bool
uses_mode scan m = list_any (is_of_mode scan) m.tests

-- the scan chains that a mode of the module has; in terminals mode there are none
abbrev pub scan_lengths : ModuleValue → Bool → List ℕ
scan_lengths m scan = if scan then m.chains else []
