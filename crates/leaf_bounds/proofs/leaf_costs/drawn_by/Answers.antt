use Rattle.std.proofs.Common.{◌∙◌, Some, sym, ap}
use Rattle.std.proofs.lemmas.Option.{slice_get-get_or}
use Rattle.soc_model.specs.Chips.{id_of}
use Rattle.bound_rules.proofs.ProfilePlaces.{place_within}
use Rattle.leaf_bounds.proofs.LeafSums.{counted_steps-are, counted_own-is}
use Rattle.leaf_bounds.proofs.leaf_costs.drawn_by.Goals as goal

pub returns-in-Some-clause-sum : goal.returns-in-Some-clause-sum
returns-in-Some-clause-sum c = λ l is own.
    let found = sym c.in-Some.is ∙ is in
    let within = (place_within (id_of l) c.args.limits.now.profiles.items c.in-Some.place found).0 in
    let at = slice_get-get_or c.args.limits.now.profiles.items c.in-Some.place c.index.result.now within ∙ ap Some (sym c.index.ensures) in
    c.counted_steps.ensures.sum ∙ counted_steps-are c.args.limits.now c.args.limit c.args.near l c.args.cycles found at c.deref.ensures.value

pub returns-in-None-clause-sum : goal.returns-in-None-clause-sum
returns-in-None-clause-sum c = λ l is own.
    c.counted_cycles.ensures.drawn ∙ counted_own-is c.args.limits.now c.args.limit c.args.near l c.args.cycles (sym c.in-None.is ∙ is) own
