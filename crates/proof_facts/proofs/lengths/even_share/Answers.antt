use Rattle.std.proofs.Common.{◌+◌, ◌-◌, ◌*◌, length, ap, ◌∙◌, arith}
use Rattle.std.specs.Prelude.{slice_index}
use Rattle.std.proofs.Math.Nat.{mul-le-mul_left}
use Rattle.plan_model.specs.Bounds.{quotient_up}
use Rattle.bound_rules.proofs.Works.{div_ceil_is}
use Rattle.proof_facts.proofs.lengths.even_share.Goals as goal

pub returns : goal.returns
returns c =
    c.div_ceil.ensures
    ∙ div_ceil_is (slice_index c.args.fronts.now (c.args.k * c.args.busy + (length c.args.sorted.now - c.args.k * c.args.width))) c.args.busy c.requires.some_busy
    ∙ ap (λ v. quotient_up v c.args.busy) (c.requires.fronts.sums_are (c.args.k * c.args.busy + (length c.args.sorted.now - c.args.k * c.args.width)) (omega (arith, c.requires.within, mul-le-mul_left c.args.k c.requires.on_wires)))
