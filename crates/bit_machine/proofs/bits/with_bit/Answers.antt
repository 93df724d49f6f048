use Rattle.std.proofs.Common.{◌∙◌, sym}
use Rattle.bit_machine.proofs.PackedBits.{set_here, set_other, cleared_here, cleared_other}
use Rattle.bit_machine.proofs.bits.with_bit.Goals as goal

pub returns-then-bit-clause-here : goal.returns-then-bit-clause-here
returns-then-bit-clause-here c = set_here c.args.word c.args.place c.requires ∙ sym c.if-bit.true

pub returns-then-bit-clause-others : goal.returns-then-bit-clause-others
returns-then-bit-clause-others c = set_other c.args.word c.args.place c.requires

pub returns-else-bit-clause-here : goal.returns-else-bit-clause-here
returns-else-bit-clause-here c = cleared_here c.args.word c.args.place c.requires ∙ sym c.if-bit.false

pub returns-else-bit-clause-others : goal.returns-else-bit-clause-others
returns-else-bit-clause-others c = cleared_other c.args.word c.args.place c.requires
