use Rattle.std.proofs.Common.{◌<◌, ℕ, List, length, subst, arith}
use Rattle.std.proofs.lemmas.Option.{slice_get_within}
use Rattle.resource_table.specs.Jobs.{job_value}
use Rattle.schedule_search.specs.Prefixes.{IsPlaceOf}
use Rattle.schedule_search.proofs.Sorting.{sorted_at, sorted_order, place_there, take_filtered}
use Rattle.schedule_search.proofs.sorted.take_out.Goals as goal

pub place_of-place-requires-clause-in_job : goal.place_of-place-requires-clause-in_job
place_of-place-requires-clause-in_job c = sorted_at (job_value c.args.job.now) c.args.tests.now.items c.requires.there.0 c.args.test c.requires.sorted c.requires.there.1

pub take_at-requires : goal.take_at-requires
take_at-requires c =
    let tests : List ℕ = c.args.tests.now.items in
    let found = subst (λ (l : List ℕ). IsPlaceOf (job_value c.args.job.now) l c.args.test c.place_of-place.result) c.deref.ensures.value c.place_of-place.ensures in
    let same = place_there (job_value c.args.job.now) tests c.args.test c.place_of-place.result c.requires.there.0 (sorted_order (job_value c.args.job.now) tests c.requires.sorted) found c.requires.there.1 in
    let within : c.requires.there.0 < length tests = slice_get_within tests c.requires.there.0 c.args.test c.requires.there.1 in
    omega (arith, same, within)

pub returns-clause-taken : goal.returns-clause-taken
returns-clause-taken c = λ p q without is.
    let found = subst (λ (l : List ℕ). IsPlaceOf (job_value c.args.job.now) l c.args.test c.place_of-place.result) c.deref.ensures.value c.place_of-place.ensures in
    take_filtered (job_value c.args.job.now) p q c.args.tests.now.items c.take_at.new.from.items c.args.test c.place_of-place.result c.requires.there.0 c.requires.there.1 found c.take_at.ensures.items without is
