use Rattle.std.proofs.Common.{◌∙◌, sym}
use Rattle.std.proofs.lemmas.Result.{on_ok_weaker}
use Rattle.soc_model.specs.Chips.{module_value}
use Rattle.vector_lines.proofs.PlacedTests.{live_more, dead_more}
use Rattle.vector_lines.proofs.placing.Setting.push_test.Goals as goal

pub returns-then-not-live : goal.returns-then-not-live
returns-then-not-live g c = λ done are.
    dead_more c.args.self.now.placed.now.plan c.args.core.now.place (module_value c.args.core.now.«module».now) c.args.test.now (sym c.live.ensures ∙ c.if-not-live.true) are

pub returns : goal.returns
returns g c = λ done are.
    on_ok_weaker c.push.result (λ pushed. live_more c.in_ok-lane_of.field-0 pushed c.args.self.now.placed.now.plan c.args.core.now.place (module_value c.args.core.now.«module».now) c.args.test.now (sym c.live.ensures
    ∙ c.if-not-live.false) are c.in_ok-lane_of.ensures) c.push.ensures.ok
