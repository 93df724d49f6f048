use Rattle.soc_printer.proofs.ReadBack.{says-printed}
use Rattle.soc_printer.proofs.printed_chips_are_read.Goals as goal

pub returns : goal.returns
returns c = says-printed
