use Rattle.std.proofs.Common.{◌∙◌, ℕ, List, length, sym, ap, subst}
use Rattle.resource_table.specs.Jobs.{job_over}
use Rattle.resource_table.specs.Schedules.{TableValue}
use Rattle.arch_schedule.specs.Problems.{IsProblem}
use Rattle.arch_schedule.specs.Rooms.{AreShort, AreCyclesOf}
use Rattle.arch_schedule.proofs.OtherBuses.{sound_over, cycles_over}
use Rattle.arch_schedule.proofs.Sent.{problem_over}
use Rattle.arch_schedule.proofs.scheduling.restart_table.Goals as goal

pub restart-requires-clause-sound : goal.restart-requires-clause-sound
restart-requires-clause-sound g c =
    sound_over c.deref.result.now c.deref-2.result.now c.args.table.now.job
    (ap length c.deref.ensures.value ∙ c.requires.room.slots ∙ c.requires.problem.tests) (ap length c.deref-2.ensures.value ∙ c.requires.room.cycles ∙ c.requires.problem.tests)
    c.requires.sound.job (subst AreShort (sym c.deref-2.ensures.value) c.requires.short)

pub returns-clause-problem : goal.returns-clause-problem
returns-clause-problem g c =
    subst (λ (t : TableValue). IsProblem t.job c.args.problem.now) (sym c.restart.ensures.empty)
    (problem_over c.deref.result.now c.deref-2.result.now c.args.table.now.job c.args.problem.now c.requires.problem)

pub returns-clause-cycles : goal.returns-clause-cycles
returns-clause-cycles g c =
    subst (λ (t : TableValue). AreCyclesOf t.job c.args.room.now.cycles.items) (sym c.restart.ensures.empty)
    (subst (λ (l : List ℕ). AreCyclesOf (job_over c.deref.result.now c.deref-2.result.now c.args.table.now.job) l) c.deref-2.ensures.value
    (cycles_over c.deref.result.now c.deref-2.result.now c.args.table.now.job
    (ap length c.deref.ensures.value ∙ c.requires.room.slots ∙ c.requires.problem.tests) (ap length c.deref-2.ensures.value ∙ c.requires.room.cycles ∙ c.requires.problem.tests)))
