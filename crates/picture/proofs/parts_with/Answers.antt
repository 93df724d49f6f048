use Rattle.std.proofs.Common.{◌≡◌, ◌∙◌, ◌≤◌, ℕ, Some, [], length, ap, arith, slice_get, filter}
use Rattle.plan_model.specs.Views.{limits_value, plan_value}
use Rattle.live_tests.specs.declared.placed.PlacedTest.{PlacedTest}
use Rattle.live_tests.specs.Loads.{drawn_by, load_steps}
use Rattle.picture.specs.Panels.{below, lanes_panel}
use Rattle.picture.specs.PictureText.{bottom_of, lanes_of, self_tests}
use Rattle.picture.specs.Rectangles.{between, bus_wires, by_start, is_self, lane_ends, laned, wired}
use Rattle.picture.proofs.BusWires.{bus_wires_are}
use Rattle.picture.proofs.PartsOfPlans.{drawn_within, ends_by, has_steps, steps_are}
use Rattle.picture.proofs.parts_with.Goals as goal

pub steps_under-requires-clause-steps : goal.steps_under-requires-clause-steps
steps_under-requires-clause-steps c = rw c.requires.1.placed (has_steps c.requires.0 (limits_value c.args.limits.now) (plan_value c.args.plan.now) c.requires.1.sound_limits c.requires.1.good)

pub steps_under-requires-clause-within : goal.steps_under-requires-clause-within
steps_under-requires-clause-within c = rw c.requires.1.placed (drawn_within c.requires.0 (limits_value c.args.limits.now) (plan_value c.args.plan.now) c.requires.1.good)

pub returns : goal.returns
returns c = λ soc given.
    let limits = limits_value c.args.limits.now in
    let plan = plan_value c.args.plan.now in
    let ends : (i : ℕ) (t : PlacedTest) → slice_get c.args.placed.now i ≡ Some t → t.end ≤ plan.cycles = λ i t at. let at' = rw given.placed at at in (ends_by soc limits plan given.good i t at').1 in
    let starts : (i : ℕ) (t : PlacedTest) → slice_get c.args.placed.now i ≡ Some t → t.start ≤ plan.cycles = λ i t at.
    let at' = rw given.placed at at in
    let e = ends_by soc limits plan given.good i t at' in
    omega (arith, e.0, e.1) in
    let buses : between c.in_ok-firsts.firsts.items ≡ bus_wires plan = bus_wires_are plan c.in_ok-firsts.firsts.items c.in_ok-firsts.ensures in
    let own : by_start plan.cycles (filter is_self c.args.placed.now) ≡ self_tests soc plan = ap (λ l. by_start plan.cycles (filter is_self l)) given.placed in
    let count : c.lane_count.result ≡ length (lane_ends [] (self_tests soc plan)) = c.lane_count.ensures ∙ ap length (c.in_ok-lanes.ensures.ends plan.cycles starts ∙ ap (lane_ends []) own) in
    let panel : c.lanes_panel-panel.result ≡ lanes_of soc limits plan = c.lanes_panel-panel.ensures ∙ ap (lanes_panel plan.cycles limits.wires) count in
    record {
      wires = c.wires_panel.ensures;
      buses = buses;
      wired_are = c.in_ok-wired.ensures ∙ ap (λ b. wired b c.args.placed.now) (ap between c.deref.ensures.value ∙ buses) ∙ ap (wired (bus_wires plan)) given.placed;
      lanes = panel;
      laned_are = c.in_ok-lanes.ensures.drawn plan.cycles starts ∙ ap (laned []) own;
      steps = λ most limit. c.in_ok-steps.ensures plan.cycles most ends limit ∙ ap (λ l. load_steps (drawn_by limits l) plan.cycles) given.placed ∙ steps_are soc limits plan;
      bottom = c.bottom_of-bottom.ensures.is ∙ ap (λ e. bottom_of e plan.cycles limits.power) (c.below.ensures.is ∙ ap below panel);
      small = c.bottom_of-bottom.ensures.small;
    }
