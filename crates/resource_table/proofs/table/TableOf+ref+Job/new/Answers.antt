use Rattle.std.proofs.Common.{◌≡◌, ◌∙◌, ap, ◌<◌, ℕ, List, length, map, sym, subst, arith}
use Rattle.std.{specs.List.sum_by, proofs.lemmas.List.length-map}
use Rattle.resource_table.specs.{declared.JobTest.JobTest, declared.table.Rows.Rows}
use Rattle.busy_times.specs.declared.timelines.Timelines.{Timelines}
use Rattle.resource_table.specs.Jobs.{IsSoundJob, TestValue, JobValue, test_value, job_value}
use Rattle.resource_table.specs.EmptyRows.{AreEmptyRows}
use Rattle.resource_table.specs.Befores.{listed, AreListed}
use Rattle.resource_table.specs.PlacedTimes.{AreTimes, AreEmptyTimes}
use Rattle.resource_table.specs.Kept.{IsKept, IsProfiled, IsBounded}
use Rattle.resource_table.proofs.{PlacedTimes.times_new, Bounds.bounded_new, KeptStarts.steps_counted}
use Rattle.resource_table.proofs.KeptTables.{kept_new, profiled_new, steps_same}
use Rattle.resource_table.proofs.table.TableOf+ref+Job.new.Goals as goal

all_new : (job own : JobValue) → own ≡ job → IsSoundJob job → (rows : Rows) (tests steps : ℕ) → tests ≡ length job.tests → steps ≡ sum_by (λ (t : TestValue). length t.steps) job.tests → AreEmptyRows tests steps rows →
    (times : Timelines) → AreEmptyTimes job.tests times → (lists : List (List ℕ)) → AreListed job lists →
    IsKept own rows.trail rows.ends rows.lasts rows.draws × AreListed own lists × IsProfiled own rows.trail rows.draws rows.points × AreTimes own rows.trail.items times × IsBounded own rows.trail.items rows.bounds
all_new job own same sound rows tests steps tests_is steps_is empty times none lists listed = (
  rw same (kept_new job rows.trail rows.ends rows.lasts rows.draws tests steps sound tests_is steps_is empty.trail empty.trail_room empty.ends empty.lasts empty.lasts_room empty.draws empty.draws_room),
  rw same listed,
  rw same (profiled_new job rows.trail rows.draws rows.points tests steps tests_is steps_is empty.trail empty.draws empty.points empty.points_room),
  rw same (rw empty.trail (times_new job times none)),
  rw same (bounded_new job rows.trail.items rows.bounds tests empty.trail tests_is empty.notes empty.marks empty.history empty.marks_room),
)

pub count_steps-steps-requires : goal.count_steps-steps-requires
count_steps-steps-requires c =
    let few = steps_counted c.args.job.now.power c.args.job.now.tests.items c.requires.tests in
    subst (λ v. sum_by (λ (t : JobTest). length t.power.items) v < 18446744073709551616) (sym c.deref.ensures.value) (omega (arith, few, c.requires.short))

pub invariant_of-result : goal.invariant_of-result
invariant_of-result c =
    let tests = c.len-tests.ensures ∙ c.args.job.now.tests.ok.0 ∙ sym (length-map c.args.job.now.tests.items test_value) in
    let steps = c.count_steps-steps.ensures ∙ ap (sum_by (λ (t : JobTest). length t.power.items)) c.deref.ensures.value ∙ steps_same c.args.job.now.tests.items in
    all_new (job_value c.args.job.now) (job_value c.in_ok-own.field-0.own) c.in_ok-own.ensures.own c.requires c.in_ok-ends.field-0 c.len-tests.result c.count_steps-steps.result tests steps c.in_ok-ends.ensures
    c.in_ok-own.field-0.times c.in_ok-own.ensures.times (map listed c.in_ok-own.field-0.before.items) c.in_ok-own.ensures.before

pub returns-clause-sound : goal.returns-clause-sound
returns-clause-sound c = (invariant_of-result c).0.sound
