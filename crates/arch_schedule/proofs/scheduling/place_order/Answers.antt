use Rattle.std.proofs.Common.{sym, subst}
use Rattle.resource_table.specs.Schedules.{TableValue}
use Rattle.arch_schedule.specs.Problems.{IsProblem}
use Rattle.arch_schedule.proofs.Sent.{room_in}
use Rattle.arch_schedule.proofs.scheduling.place_order.Goals as goal

pub place_all-requires-clause-room : goal.place_all-requires-clause-room
place_all-requires-clause-room g c =
    room_in c.lend.result.now.job c.args.problem.now c.args.room.now
    (subst (λ (t : TableValue). IsProblem t.job c.args.problem.now) (sym c.lend.ensures.value) c.restart_table.ensures.problem) c.requires.room
