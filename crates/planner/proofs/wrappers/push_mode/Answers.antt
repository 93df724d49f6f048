use Rattle.std.proofs.Common.{◌∙◌, map, sym}
use Rattle.soc_model.specs.Chips.{soc_value, module_value}
use Rattle.plan_model.specs.Views.{bus_value}
use Rattle.planner.proofs.UsedModes.{take_mode}
use Rattle.planner.proofs.wrappers.push_mode.Goals as goal

pub returns : goal.returns
returns c = λ core pairs at are.
    take_mode (soc_value c.args.soc.now) (map bus_value c.args.buses.now) (record { place = c.args.place; scan = c.args.scan; width = c.width_at-width.result }) (module_value c.module_at-module.result.now) core pairs c.args.to.now.items c.push.new.to.items
    c.module_at-module.ensures at (sym c.uses_mode.ensures ∙ c.if-not-uses_mode.false) (c.width_at-width.ensures c.module_at-module.result.now.number c.bus_place.ensures) c.in_ok-push.ensures.ok are
