use Rattle.std.proofs.Common.{◌∙◌}
use Rattle.bit_machine.proofs.WholeChip.{compared_read, compared_only}
use Rattle.bit_machine.proofs.chip.Chip.compared.Goals as goal

pub returns-clause-read : goal.returns-clause-read
returns-clause-read c = compared_read c.compare.new.care c.self.view_is c.self.invariant (c.compare.ensures.long ∙ c.requires) c.compare.ensures.bits

pub returns-clause-only : goal.returns-clause-only
returns-clause-only c = compared_only c.compare.new.care c.self.view_is c.self.invariant c.compare.ensures.bits
