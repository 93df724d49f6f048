use Rattle.std.proofs.Common.{refl, arith}
use Rattle.vector_lines.proofs.ShiftStretches.{load_put}
use Rattle.vector_lines.proofs.stretches.put_load.Goals as goal

pub returns-else-idle-stretch-clause-driven : goal.returns-else-idle-stretch-clause-driven
returns-else-idle-stretch-clause-driven g c =
    load_put (g.C.Bits.PatternBits.byte_of c.stimulus-bits.result) c.args.at.row c.args.stretch.count c.args.path.now c.in-Some.near.shifts c.requires.column
    (g.C.Contents.drive c.args.contents.now c.args.key) c.idle_shifts-idle.result c.in-Some.is refl c.stimulus-bits.ensures.bits c.idle_shifts-idle.ensures.few (c.requires.back c.in-Some.near c.in-Some.is)
    (λ i h. let past = c.idle_shifts-idle.ensures.idle i h in omega (arith, past, c.len-loads.ensures)) (λ h. let rest = c.idle_shifts-idle.ensures.rest h in omega (arith, rest, c.len-loads.ensures)) c.put_back.ensures
