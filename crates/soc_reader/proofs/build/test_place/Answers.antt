use Rattle.std.proofs.Common.{◌≡◌, Some, arith, sym, ap, ◌∙◌}
use Rattle.soc_model.proofs.Nearby.{found_there}
use Rattle.soc_reader.proofs.build.test_place.Goals as goal

pub returns-in-Some : goal.returns-in-Some
returns-in-Some c =
    let same : c.in-Some.found.now ≡ c.args.number = omega (arith, c.if-found-number.true) in
    found_there c.args.numbers.now.set.keys c.args.number c.saturating_sub-last.result c.len.ensures.unique (sym c.in-Some.ensures.key ∙ ap Some same)
