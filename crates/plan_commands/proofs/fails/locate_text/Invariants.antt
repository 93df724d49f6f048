use Rattle.std.proofs.Common.{◌≡◌, ◌++◌, drop, flat_map}
use Rattle.plan_commands.specs.LocateText.{fail_line}
use Rattle.plan_commands.proofs.fails.locate_text.Given as goal

abbrev pub invariant-loop-cycle : goal.invariant-loop-cycle
invariant-loop-cycle l = l.text.items ++ flat_map (fail_line l.placed.soc l.placed.plan) (drop l.cycle-index l.fails) ≡ flat_map (fail_line l.placed.soc l.placed.plan) l.fails
