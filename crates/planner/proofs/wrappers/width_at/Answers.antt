use Rattle.std.proofs.Common.{ap, sym, ◌∙◌, arith}
use Rattle.plan_model.specs.declared.Bus.{Bus}
use Rattle.planner.proofs.BusWidths.{width_found, width_missing}
use Rattle.planner.proofs.wrappers.width_at.Goals as goal

pub returns-then-place-buses : goal.returns-then-place-buses
returns-then-place-buses c = λ number is.
    ap (λ (v : Bus). v.width) (sym c.index-buses-place.is) ∙ width_found number c.args.buses.now 0 c.args.place c.index-buses-place.result (omega (arith, is)) (omega (arith, c.if-place-buses.true)) c.index-buses-place.is

pub returns-else-place-buses : goal.returns-else-place-buses
returns-else-place-buses c = λ number is. width_missing number c.args.buses.now 0 c.args.place (omega (arith, is)) (omega (arith, c.if-place-buses.false))
