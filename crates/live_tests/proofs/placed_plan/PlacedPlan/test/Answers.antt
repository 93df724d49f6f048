use Rattle.std.proofs.Common.{◌∙◌, sym}
use Rattle.soc_model.specs.Chips.{module_value}
use Rattle.live_tests.proofs.FoundPlaced.{found_by_name, names_of_placed}
use Rattle.live_tests.proofs.placed_plan.PlacedPlan.test.Goals as goal

pub named-requires : goal.named-requires
named-requires c = names_of_placed c.self.invariant

pub unreachable-requires : goal.unreachable-requires
unreachable-requires c =
    let found = found_by_name c.self.invariant c.self.view_is c.args.place c.requires.test_there.0 (module_value c.args.«module».now) c.args.test.now c.requires.module_there c.requires.test_there.1 c.requires.live in
    let none = sym c.in-None.is ∙ c.named.ensures ∙ found in
    absurd cc

pub returns : goal.returns
returns c =
    let found = found_by_name c.self.invariant c.self.view_is c.args.place c.requires.test_there.0 (module_value c.args.«module».now) c.args.test.now c.requires.module_there c.requires.test_there.1 c.requires.live in
    let some = sym c.in-Some.is ∙ c.named.ensures ∙ found in
    cc
