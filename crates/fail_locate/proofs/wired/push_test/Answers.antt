use Rattle.std.proofs.Common.{◌∙◌, sym}
use Rattle.std.proofs.lemmas.Bool.{and_parts}
use Rattle.std.proofs.lemmas.Result.{on_ok_weaker}
use Rattle.soc_model.specs.Chips.{module_value, is_live}
use Rattle.fail_locate.proofs.KeptTests.{wired_test, other_test}
use Rattle.fail_locate.proofs.wired.push_test.Goals as goal

pub returns-then-not-over_wires : goal.returns-then-not-over_wires
returns-then-not-over_wires c = λ done are. other_test c.args.placed.now.soc c.args.placed.now.plan c.args.place (module_value c.args.«module».now) c.args.test.now done c.args.tests.now.items (sym c.over_wires.ensures ∙ c.if-not-over_wires.true) are

pub wired-requires-clause-live : goal.wired-requires-clause-live
wired-requires-clause-live c = (and_parts (is_live c.args.test.now) c.args.test.now.tam (sym c.over_wires.ensures ∙ c.if-not-over_wires.false)).0

pub wired-requires-clause-tam : goal.wired-requires-clause-tam
wired-requires-clause-tam c = (and_parts (is_live c.args.test.now) c.args.test.now.tam (sym c.over_wires.ensures ∙ c.if-not-over_wires.false)).1

pub returns : goal.returns
returns c = λ done are.
    on_ok_weaker c.push.result (λ pushed. wired_test c.args.placed.now.soc c.args.placed.now.plan c.args.place (module_value c.args.«module».now) c.args.test.now done c.args.tests.now.items c.push.new.to.items c.wired.result (sym c.over_wires.ensures ∙ c.if-not-over_wires.false) are pushed c.wired.ensures) c.push.ensures.ok
