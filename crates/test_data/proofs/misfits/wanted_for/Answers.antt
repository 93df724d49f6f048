use Rattle.std.proofs.Common.{sum, ◌∙◌, ap}
use Rattle.soc_model.specs.Chips.{module_value}
use Rattle.test_data.proofs.ChipBits.{wanted_are}
use Rattle.test_data.proofs.misfits.wanted_for.Goals as goal

pub returns : goal.returns
returns c =
    wanted_are (module_value c.args.«module».now) c.args.test.now c.scan_cells-flops.result c.terminals-inputs.result c.terminals-outputs.result (c.scan_cells-flops.ensures.cells ∙ ap sum c.mode_chains.ensures)
    c.terminals-inputs.ensures.sum c.terminals-outputs.ensures.sum
