use Rattle.std.proofs.Common.{◌≡◌, ◌∙◌, sym, None, Some, position, rules}
use Rattle.soc_model.specs.Chips.{same_test}
use Rattle.live_tests.proofs.Placing.{found_at, none_found}
use Rattle.live_tests.proofs.placed_plan.named.Goals as goal

pub returns-in_err-place : goal.returns-in_err-place
returns-in_err-place c =
    let none : position (same_test c.args.id) c.args.names.now ≡ None = search rules in
    let is : c.from_residual.result ≡ None = search rules in
    is ∙ sym (none_found c.args.id c.args.placed.now.tests.items c.args.names.now c.requires none)

pub returns : goal.returns
returns c =
    let found : position (same_test c.args.id) c.args.names.now ≡ Some c.in_ok-place.place = search rules in
    sym (found_at c.args.id c.args.placed.now.tests.items c.args.names.now c.in_ok-place.place c.index.result.now c.index.result.now c.requires found c.index.ensures).1
