use Rattle.std.proofs.Common.{◌∙◌, sym, ap, length}
use Rattle.bit_machine.proofs.PackedBits.{packed_long}
use Rattle.bit_machine.proofs.bits.Bits.len.Goals as goal

pub returns : goal.returns
returns c = sym (packed_long c.self.inside.words.items c.self.inside.count) ∙ ap length c.self.view_is
