use Rattle.std.proofs.Common.{◌≤◌, ◌∙◌, arith}
use Rattle.std.proofs.lemmas.Grind.{common_steps}
use Rattle.soc_model.specs.Chips.{module_value}
use Rattle.plan_commands.proofs.WidthLines.{time_at, line_more}
use Rattle.plan_commands.proofs.widths.push_module.Goals as goal

pub loop-width-preserved : goal.loop-width-preserved
loop-width-preserved c =
    let within : c.loop-width.width ≤ c.args.table.now.wires = grind (arith, common_steps) in
    line_more (module_value c.args.module.now) c.args.table.now.wires c.loop-width.width c.time.result c.loop-width.text.items _ _ within
    (c.time.ensures.time ∙ time_at c.args.table.now c.args.place c.loop-width.width (module_value c.args.module.now) c.requires.module) c.in_ok-push_line.ensures c.loop-width.invariant
