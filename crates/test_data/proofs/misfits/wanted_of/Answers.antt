use Rattle.std.proofs.Common.{sym, ◌∙◌}
use Rattle.soc_model.specs.Chips.{module_value, soc_value}
use Rattle.soc_model.proofs.Entries.{module-at}
use Rattle.test_data.proofs.ChipBits.{unnamed, named}
use Rattle.test_data.proofs.misfits.wanted_of.Goals as goal

pub returns-in_err-place : goal.returns-in_err-place
returns-in_err-place c = c.from_residual.ensures ∙ unnamed (soc_value c.args.soc.now) c.args.id (sym c.find_test.ensures ∙ c.in_err-place.was)

pub returns : goal.returns
returns c =
    let at = module-at c.args.soc.now.modules.entries c.in_ok-place.place _ (sym c.in_ok-module.ensures.entry) in
    c.wanted_in.ensures ∙ named (soc_value c.args.soc.now) c.args.id c.in_ok-place.place c.in_ok-place.at (module_value c.in_ok-module.«module».now) (sym c.in_ok-place.ensures) at
