use Rattle.std.proofs.Common.{sym, ◌∙◌}
use Rattle.soc_model.specs.Chips.{soc_value}
use Rattle.tester_commands.proofs.DataFiles.{misfit_refuses}
use Rattle.tester_commands.proofs.loading.suiting.Goals as goal

pub returns-in-Some : goal.returns-in-Some
returns-in-Some c =
    misfit_refuses (soc_value c.args.soc.now) c.args.test_data c.in-Some.misfit c.misfit_line.result c.refused_with.result (sym c.first_misfit.ensures ∙ c.in-Some.is) c.misfit_line.ensures.text c.misfit_line.ensures.line c.refused_with.ensures
