use Rattle.std.proofs.Common.{◌≡◌, sym, arith}
use Rattle.soc_model.proofs.Nearby.{module_found}
use Rattle.soc_model.proofs.lookups.stands_at.Goals as goal

pub returns-in-Some : goal.returns-in-Some
returns-in-Some c = λ yes.
    let same : c.args.number ≡ c.in-Some.found.now = omega (arith, c.if-found-number.true) in
    sym (module_found c.args.soc.now.modules.entries c.args.place c.args.number c.in-Some.found.now c.in-Some.field-0-1.now c.len.ensures.unique c.in-Some.ensures.entry same)
