use Rattle.std.proofs.Common.{◌∙◌, refl, arith}
use Rattle.std.proofs.lemmas.Option.{get_or_from_slice_get, slice_get_within}
use Rattle.planner.specs.Sources.{chip_of, plan_of}
use Rattle.planner.proofs.job.shared_of.Goals as goal

pub index-requires : goal.index-requires
index-requires c = omega (arith, slice_get_within (chip_of c.args.parts.now.source.now).modules c.args.place _ c.requires.module_there, c.requires.parts.resolved.parents.long)

pub returns-clause-shared : goal.returns-clause-shared
returns-clause-shared c =
    let within = slice_get_within (chip_of c.args.parts.now.source.now).modules c.args.place _ c.requires.module_there in
    record {
      there = c.requires.module_there;
      parent = c.index.ensures ∙ get_or_from_slice_get c.args.parts.now.resolved.now.parents.items c.args.place _ c.index.result.now (c.requires.parts.resolved.parents.are c.args.place within);
      bus = c.bus_place.ensures;
      wrappers = c.found-wrappers.ensures (plan_of c.args.parts.now.source.now) refl;
    }
