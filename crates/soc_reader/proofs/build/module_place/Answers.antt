use Rattle.std.proofs.Common.{◌≡◌, arith}
use Rattle.soc_model.proofs.Nearby.{module_found}
use Rattle.soc_reader.proofs.build.module_place.Goals as goal

pub returns-in-Some : goal.returns-in-Some
returns-in-Some c =
    let same : c.args.number ≡ c.in-Some.found.now = omega (arith, c.if-found-number.true) in
    module_found c.args.soc.now.modules.entries c.saturating_sub-last.result c.args.number c.in-Some.found.now c.in-Some.field-0-1.now c.len.ensures.unique c.in-Some.ensures.entry same
