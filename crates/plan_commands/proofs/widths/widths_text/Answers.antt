use Rattle.std.proofs.Common.{rules, ◌≡◌, ◌++◌, ap, sym, ◌∙◌}
use Rattle.soc_model.specs.Chips.{soc_value, module_value}
use Rattle.plan_commands.specs.WidthsText.{module_widths}
use Rattle.plan_commands.proofs.WidthLines.{more_modules}
use Rattle.plan_commands.proofs.widths.widths_text.Goals as goal

pub loop-place-preserved : goal.loop-place-preserved
loop-place-preserved c =
    let put : c.push_module.new.text.items ≡ c.loop-place.text.items ++ module_widths c.args.wires (module_value c.module_at.result.now) = search rules in
    put ∙ ap (λ v. v ++ module_widths c.args.wires (module_value c.module_at.result.now)) c.loop-place.invariant ∙ sym (more_modules (soc_value c.args.soc.now) c.args.wires c.loop-place.place (module_value c.module_at.result.now) c.module_at.ensures)
