use Rattle.std.proofs.Common.{◌∙◌}
use Rattle.bit_machine.proofs.WholeChip.{carried_row}
use Rattle.bit_machine.proofs.chip.Chip.want.Goals as goal

pub returns : goal.returns
returns c = carried_row c.self.view_is c.self.invariant c.want.new.drive (c.want.ensures.long ∙ c.requires) c.want.ensures.bits
