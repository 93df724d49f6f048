use Rattle.soc_model.specs.Chips.{module_value, soc_value}
use Rattle.plan_model.specs.Views.{plan_value}
use Rattle.report.proofs.Wired.{lines_more}
use Rattle.report.proofs.modules.push_modules.Goals as goal

pub loop-place-preserved : goal.loop-place-preserved
loop-place-preserved c =
    lines_more c.args.table.now.wires (plan_value c.args.plan.now) c.args.tests.now (soc_value c.args.soc.now).modules c.loop-place.place (module_value c.module_at.result.now) c.loop-place.text.items c.push_wired.new.text.items _
    c.module_at.ensures c.in_ok-push_wired.ensures c.loop-place.invariant
