use Rattle.std.proofs.Common.{◌≡◌, true}
use Rattle.resource_table.specs.Schedules.{is_placed}
use Rattle.arch_schedule.proofs.Listing.{before_inside, all_before_placed}
use Rattle.arch_schedule.proofs.scheduling.is_next.Goals as goal

pub all_placed-requires : goal.all_placed-requires
all_placed-requires g c = before_inside c.args.table.now.job c.args.before.now c.earlier_than.result.now c.args.test c.is_placed.ensures.sound.job c.requires.before c.requires.in_job c.earlier_than.ensures

pub returns-clause-ready : goal.returns-clause-ready
returns-clause-ready g c = λ yes. all_before_placed c.args.table.now.job (λ t. is_placed c.args.table.now.placed t ≡ true) c.args.before.now c.earlier_than.result.now c.args.test c.requires.before c.requires.in_job c.earlier_than.ensures (c.all_placed.ensures yes)
