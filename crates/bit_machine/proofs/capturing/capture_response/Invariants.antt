use Rattle.std.proofs.Common.{◌≡◌, ◌+◌, take, sum, sum_by}
use Rattle.plan_model.specs.declared.ChainPlan.{ChainPlan}
use Rattle.plan_model.specs.Runs.{captured}
use Rattle.bit_machine.specs.Sessions.{response_bit, each_with}
use Rattle.vector_lines.specs.Layouts.{layout_cells}
use Rattle.bit_machine.proofs.capturing.capture_response.Given as goal

abbrev pub invariant-loop-place : goal.invariant-loop-place
invariant-loop-place l =
    (l.outs_from ≡ sum l.layout.lengths.items + sum_by (λ (c : ChainPlan). c.outs) (take l.place l.layout.chains.items))
    × (l.bits ≡ each_with (captured (response_bit l.layout.lengths.items l.response)) (take l.place (layout_cells l.layout)) l.initial.bits)
