use Rattle.std.proofs.Common.{arith}
use Rattle.leaf_bounds.specs.Cases.{known_ranks}
use Rattle.leaf_bounds.proofs.PackAnswers.{rest_high-le}
use Rattle.leaf_bounds.proofs.pack_rules.pair_count.Goals as goal

pub overflow_add-result : goal.overflow_add-result
overflow_add-result c =
    let k = c.requires.known in
    let r = c.requires.case.roomy in
    let rest = c.rest_high.ensures k.0 k.1 in
    omega (arith, c.widths_known.ensures.few, rest, rest_high-le c.args.case.now.widths.wires k.0 (known_ranks k.0), r.wires, r.ranks, r.known)

pub returns-clause-few : goal.returns-clause-few
returns-clause-few c =
    let k = c.requires.known in
    let r = c.requires.case.roomy in
    let rest = c.rest_high.ensures k.0 k.1 in
    omega (arith, c.widths_known.ensures.few, rest, rest_high-le c.args.case.now.widths.wires k.0 (known_ranks k.0), r.wires, r.ranks, r.known)
