use Rattle.std.proofs.Common.{◌∙◌, length, ap, arith}
use Rattle.proof_facts.proofs.Rising.{length-rising}
use Rattle.leaf_bounds.proofs.list_rules.are_heavy.Goals as goal

pub pass_limit-requires : goal.pass_limit-requires
pass_limit-requires c =
    omega (arith, ap length (c.deref.ensures.value ∙ c.in_ok-sorted.ensures) ∙ length-rising c.args.powers.now, c.if-most-powers.false)
