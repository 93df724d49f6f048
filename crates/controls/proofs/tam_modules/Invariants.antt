use Rattle.std.proofs.Common.{◌≡◌, ◌++◌, map, filter}
use Rattle.soc_model.specs.Chips.{ModuleValue, soc_value, module_value}
use Rattle.soc_model.specs.Modes.{has_tam}
use Rattle.controls.specs.Controls.{tam_numbers}
use Rattle.controls.proofs.tam_modules.Given as goal

abbrev pub invariant-loop-module : goal.invariant-loop-module
invariant-loop-module l = l.list.items ++ map (λ (m : ModuleValue). m.number) (filter has_tam (map module_value l.module-iterator)) ≡ tam_numbers (soc_value l.soc)
