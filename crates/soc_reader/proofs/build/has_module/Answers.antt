use Rattle.std.proofs.Common.{◌≡◌, ◌-◌, ◌∙◌, arith}
use Rattle.indexmap.specs.IndexMap.{index_map_len}
use Rattle.soc_model.proofs.Entries.{found-has}
use Rattle.soc_model.proofs.Nearby.{module_there}
use Rattle.soc_reader.proofs.build.has_module.Goals as goal

pub returns-in-Some : goal.returns-in-Some
returns-in-Some c =
    let same : c.args.number ≡ c.in-Some.found.now = omega (arith, c.if-found-number.true) in
    module_there c.args.soc.now.modules.entries (index_map_len c.args.soc.now.modules - 1) c.args.number c.in-Some.found.now c.in-Some.field-0-1.now c.in-Some.ensures.entry same

pub returns-in_default : goal.returns-in_default
returns-in_default c = c.contains_key.ensures ∙ found-has _ c.args.soc.now.modules.entries
