use Rattle.std.proofs.Common.{◌≡◌, ◌∙◌, map, refl, ap}
use Rattle.soc_model.specs.SoundChips.{IsSoundChip}
use Rattle.plan_model.specs.Views.{wrapper_value, bus_value}
use Rattle.resource_table.specs.Jobs.{job_value}
use Rattle.schedule_search.specs.SearchValues.{SearchValue}
use Rattle.planner.specs.Jobs.{settled_parts, job_of}
use Rattle.planner.proofs.Scheduled.{scheduled}
use Rattle.planner.proofs.schedule.schedule_of.Goals as goal

pub job_with-requires-clause-wrapped : goal.job_with-requires-clause-wrapped
job_with-requires-clause-wrapped g c = (c.requires.wiring.rules (settled_parts (map bus_value c.deref.result.now) (map wrapper_value c.deref-2.result.now)) (ap (map bus_value) c.deref.ensures.value) (ap (map wrapper_value) c.deref-2.ensures.value)).wrappers

pub job_with-requires-clause-proper : goal.job_with-requires-clause-proper
job_with-requires-clause-proper g c = (c.requires.wiring.rules (settled_parts (map bus_value c.deref.result.now) (map wrapper_value c.deref-2.result.now)) (ap (map bus_value) c.deref.ensures.value) (ap (map wrapper_value) c.deref-2.ensures.value)).proper

pub new-requires : goal.new-requires
new-requires g c = c.in_ok-job.ensures.sound

pub returns : goal.returns
returns g c =
    let soc = c.args.problem.now.soc in
    let limits = c.args.problem.now.limits in
    let wiring = c.args.wiring.now in
    let sound : IsSoundChip c.args.problem.now.soc = rw (← c.problem.view_is) c.problem.invariant.sound in
    let budget : c.in_ok-search.search.budget ≡ c.args.problem.now.limits.budget = rw (← c.problem.view_is) (ap (λ (s : SearchValue g.row.F.Denot). s.budget) c.in_ok-search.ensures) in
    let job : job_value c.in_ok-job.job ≡ job_of soc limits (settled_parts (map bus_value wiring.buses.items) (map wrapper_value wiring.wrappers.items)) = c.in_ok-job.ensures.job ∙ rw (c.deref.ensures.value, c.deref-2.ensures.value) refl in
    scheduled soc limits wiring c.in_ok-schedule.schedule sound (rw job at c.in_ok-job.ensures.sound) (rw (job, budget) at c.in_ok-schedule.ensures)

pub found_schedule-requires-clause-estimate : goal.found_schedule-requires-clause-estimate
found_schedule-requires-clause-estimate g c =
    let same : c.in_ok-search.search.ahead ≡ c.args.ahead = ap (λ (s : SearchValue g.row.F.Denot). s.ahead) c.in_ok-search.ensures in
    rw same c.requires.estimate
