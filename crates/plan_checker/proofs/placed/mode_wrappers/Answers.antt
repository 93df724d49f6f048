use Rattle.std.proofs.Common.{true, false, List, map, position, ap, sym, subst, ◌∙◌}
use Rattle.indexmap.specs.IndexSet.{keys}
use Rattle.soc_model.specs.Chips.{soc_value}
use Rattle.plan_model.specs.declared.Wrapper.{Wrapper}
use Rattle.plan_model.specs.Plans.{wraps}
use Rattle.plan_model.specs.Rules.{Each, HasProperCells}
use Rattle.plan_model.specs.Views.{plan_value, wrapper_value}
use Rattle.plan_checker.proofs.Listing.{wrapper_place}
use Rattle.plan_checker.proofs.placed.mode_wrappers.Goals as goal

pub found-requires-clause-scan : goal.found-requires-clause-scan
found-requires-clause-scan c =
    sym (wrapper_place (plan_value c.args.from.now.plan.now).wrappers c.args.«module».now.number true c.get_index_of-scan.result (keys c.args.from.now.wrappers.now) c.requires.placing.pairs_are c.get_index_of-scan.ensures.index)
    ∙ ap (λ (ws : List Wrapper). position (wraps c.args.«module».now.number true) (map wrapper_value ws)) (sym c.deref.ensures.value)

pub found-requires-clause-terminals : goal.found-requires-clause-terminals
found-requires-clause-terminals c =
    sym (wrapper_place (plan_value c.args.from.now.plan.now).wrappers c.args.«module».now.number false c.get_index_of-terminals.result (keys c.args.from.now.wrappers.now) c.requires.placing.pairs_are c.get_index_of-terminals.ensures.index)
    ∙ ap (λ (ws : List Wrapper). position (wraps c.args.«module».now.number false) (map wrapper_value ws)) (sym c.deref.ensures.value)

pub found-requires-clause-proper : goal.found-requires-clause-proper
found-requires-clause-proper c = subst (λ (ws : List Wrapper). Each (HasProperCells (soc_value c.args.from.now.soc.now)) (map wrapper_value ws)) (sym c.deref.ensures.value) c.requires.placing.proper

pub returns : goal.returns
returns c = c.found.ensures (plan_value c.args.from.now.plan.now) (ap (map wrapper_value) (sym c.deref.ensures.value))
