use Rattle.std.proofs.Common.{◌≡◌, ◌++◌}
use Rattle.std.specs.List.{flat_map}
use Rattle.soc_model.specs.declared.Module.{Module}
use Rattle.soc_model.specs.Chips.{soc_value, module_value}
use Rattle.soc_printer.specs.SocText.{module_text}
use Rattle.soc_printer.proofs.push_modules.Given as goal

abbrev pub invariant-loop-module : goal.invariant-loop-module
invariant-loop-module l =
    l.text.items ++ flat_map (λ (m : Module). module_text (module_value m)) l.module-iterator ≡ l.initial.text.items ++ flat_map module_text (soc_value l.soc).modules
