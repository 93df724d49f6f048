use Rattle.tester_commands.proofs.Stepping.{next_after}
use Rattle.tester_commands.proofs.running.run_cycle.Goals as goal

pub returns : goal.returns
returns c = λ soc plan seed cycle good is.
    next_after soc plan seed cycle c.want.new.drive c.args.chip.now c.cycle.new.self good c.want.ensures (record { soc = c.cycle.ensures.soc; plan = c.cycle.ensures.plan; seed = c.cycle.ensures.seed; cycle = c.cycle.ensures.cycle; state = c.cycle.ensures.state; captures = c.cycle.ensures.captures; right_loads = c.cycle.ensures.right_loads }) is
