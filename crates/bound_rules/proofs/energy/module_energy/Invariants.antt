use Rattle.std.proofs.Common.{◌≡◌, take, map}
use Rattle.plan_model.specs.Views.{profile_value}
use Rattle.bound_rules.specs.Energy.{energies}
use Rattle.bound_rules.proofs.energy.module_energy.Given as goal

abbrev pub invariant-loop-test : goal.invariant-loop-test
invariant-loop-test l = l.sum ≡ energies l.sizes l.number (map profile_value l.profiles.list.now) l.wires (take l.test-index l.tests)
