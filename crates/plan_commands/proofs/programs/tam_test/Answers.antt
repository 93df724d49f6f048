use Rattle.std.proofs.Common.{◌∙◌, sym}
use Rattle.soc_model.specs.Chips.{module_value, soc_value}
use Rattle.plan_commands.proofs.NamedTests.{found_over_wires}
use Rattle.plan_commands.proofs.programs.tam_test.Goals as goal

pub returns-then-over_wires-clause-found : goal.returns-then-over_wires-clause-found
returns-then-over_wires-clause-found c =
    let m = module_value c.module_at-module.result.now in
    let t = c.index.result.now in
    let wires = sym c.over_wires.ensures ∙ c.if-over_wires.true in
    let found = found_over_wires (soc_value c.args.soc.now) c.args.id c.in_ok-place.place c.in_ok-place.at m t (sym c.in_ok-place.ensures) c.module_at-module.ensures c.index.ensures wires in
    (m, t, c.module_at-module.ensures, found.0, wires, found.1)
