use Rattle.bit_machine.proofs.PackedBits.{packed_zeros}
use Rattle.bit_machine.proofs.bits.Bits.zeros.Goals as goal

pub returns : goal.returns
returns c = packed_zeros c.div_ceil.result c.args.count c.in_ok-words.ensures
