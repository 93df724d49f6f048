use Rattle.std.proofs.Common.{◌^◌, ◌≤◌, arith}
use Rattle.std.proofs.Math.Nat.{pow-le-pow_right}
use Rattle.picture.proofs.scale.leading_power.Goals as goal

pub pow-requires : goal.pow-requires
pow-requires c =
    let few : c.saturating_sub-zeros.result ≤ 19 = omega (arith, c.digits.ensures.few, c.saturating_sub-zeros.ensures) in
    let most : 10 ^ c.saturating_sub-zeros.result ≤ 10 ^ 19 = pow-le-pow_right (omega arith) few in
    omega (arith, most)
