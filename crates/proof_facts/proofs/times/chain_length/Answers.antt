use Rattle.std.proofs.Common.{◌∙◌, ◌+◌, ap, max}
use Rattle.bound_rules.proofs.Works.{div_ceil_is}
use Rattle.proof_facts.proofs.times.chain_length.Goals as goal

pub returns-then-scan : goal.returns-then-scan
returns-then-scan c = rw c.if-scan.true (c.max.ensures ∙ ap (λ n. max n c.args.packing.now.packed) (c.div_ceil-dealt.ensures ∙ div_ceil_is (c.args.ends + c.args.packing.now.flops) c.args.packing.now.width c.requires.some_wire))

pub returns-else-scan : goal.returns-else-scan
returns-else-scan c = rw c.if-scan.false (c.div_ceil.ensures ∙ div_ceil_is c.args.ends c.args.packing.now.width c.requires.some_wire)
