use Rattle.std.proofs.Common.{◌*◌, ◌/◌, ◌≤◌, arith}
use Rattle.std.proofs.Math.Nat.{div-mul-le_self, mul-le-mul_right}
use Rattle.picture.proofs.scale.mark_at.Goals as goal

pub overflow_mul-result : goal.overflow_mul-result
overflow_mul-result c =
    let within : c.args.place * c.args.step ≤ c.args.cycles / c.args.step * c.args.step = mul-le-mul_right c.args.step c.requires.within in
    rw c.from.ensures (omega (arith, within, div-mul-le_self c.args.cycles c.args.step, c.ranges.cycles))

pub overflow_cast-result : goal.overflow_cast-result
overflow_cast-result c =
    let within : c.args.place * c.args.step ≤ c.args.cycles / c.args.step * c.args.step = mul-le-mul_right c.args.step c.requires.within in
    rw c.from.ensures (omega (arith, within, div-mul-le_self c.args.cycles c.args.step, c.ranges.cycles))
