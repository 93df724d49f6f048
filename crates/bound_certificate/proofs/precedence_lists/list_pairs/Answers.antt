use Rattle.std.proofs.Common.{◌+◌, arith}
use Rattle.std.proofs.lemmas.Option.{slice_get_within}
use Rattle.bound_certificate.proofs.precedence_lists.list_pairs.Goals as goal

pub returns-clause-listed : goal.returns-clause-listed
returns-clause-listed c = λ a b beside.
    let within = slice_get_within c.args.tests.now (beside.place + 1) b beside.second in
    let less = c.pair_count-place-end.ensures.all beside.place beside.near within in
    c.loop-place.invariant.listed beside.place (omega (arith, less, c.loop-place-test.false)) a b beside.first beside.second
