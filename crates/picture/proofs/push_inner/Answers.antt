use Rattle.std.proofs.Common.{◌≡◌, ◌∙◌, ◌+◌, ◌++◌, ℕ, List, sym, ap}
use Rattle.std.proofs.lemmas.Result.{on_ok_weaker}
use Rattle.soc_model.specs.Chips.{soc_value}
use Rattle.live_tests.specs.Placed.{placed_tests}
use Rattle.picture.specs.PictureText.{lanes_text, power_text, wires_text}
use Rattle.picture.specs.Rectangles.{between, wired}
use Rattle.picture.proofs.PartsOfPlans.{inner_is, wired_by}
use Rattle.picture.proofs.push_inner.Goals as goal

pub returns : goal.returns
returns c = λ limits plan p power cycles.
    let soc = soc_value c.args.soc.now in
    let parts = c.args.parts.now in
    let t0 = c.args.text.now.items in
    let t1 = c.push_wires.new.text.items in
    let t2 = c.push_lanes.new.text.items in
    let t3 = c.push_power.new.text.items in
    let t4 = c.push_scale.new.text.items in
    let t5 = c.push_lines.new.text.items in
    let tests = placed_tests soc plan in
    let drawn = c.deref-2.ensures.value ∙ wired_by soc limits plan parts p ∙ ap (λ (fs : List ℕ). wired (between fs) tests) (sym c.deref.ensures.value) in
    let e1 : t1 ≡ t0 ++ wires_text soc parts.wires (between parts.firsts.items) tests = c.in_ok-push_wires.ensures tests drawn ∙ ap (λ (fs : List ℕ). t0 ++ wires_text soc parts.wires (between fs) tests) c.deref.ensures.value in
    let e2 : t2 ≡ t1 ++ lanes_text soc parts.lanes parts.laned.items = c.in_ok-push_lanes.ensures ∙ ap (λ d. t1 ++ lanes_text soc parts.lanes d) c.deref-3.ensures.value in
    let e3 : t3 ≡ t2 ++ power_text (c.below.result + 24) c.args.cycles c.args.power parts.steps.items = c.in_ok-push_power.ensures ∙ ap (λ s. t2 ++ power_text (c.below.result + 24) c.args.cycles c.args.power s) c.deref-4.ensures.value in
    on_ok_weaker c.push_lines.result (λ e5. inner_is soc limits plan parts c.args.power c.args.mark c.args.cycles c.below.result t5 t4 t3 t2 t1 t0 p power cycles c.below.ensures.is e1 e2 e3 c.in_ok-push_scale.ensures e5) c.push_lines.ensures
