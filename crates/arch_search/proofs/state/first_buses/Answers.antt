use Rattle.std.proofs.Common.{◌∙◌}
use Rattle.arch_search.proofs.Beginnings.{first_are}
use Rattle.arch_search.proofs.state.first_buses.Goals as goal

pub loop-test-init : goal.loop-test-init
loop-test-init c = first_are c.args.problem.now _ c.len.result c.requires.some_wires c.in_ok-widths.ensures c.in_ok-slots.ensures c.in_ok-loads.ensures (c.len.ensures ∙ c.args.problem.now.modules.ok.0)
