use Rattle.std.proofs.Common.{ℕ, List, subst}
use Rattle.resource_table.specs.Jobs.{job_value}
use Rattle.schedule_search.specs.Prefixes.{IsPlaceOf}
use Rattle.schedule_search.proofs.Sorting.{put_filtered}
use Rattle.schedule_search.proofs.sorted.put_in.Goals as goal

pub returns-clause-put : goal.returns-clause-put
returns-clause-put c = λ p q without passes is.
    let found = subst (λ (l : List ℕ). IsPlaceOf (job_value c.args.job.now) l c.args.test c.place_of-place.result) c.deref.ensures.value c.place_of-place.ensures in
    put_filtered (job_value c.args.job.now) p q c.args.tests.now.items c.put_at.new.to.items c.args.test c.place_of-place.result c.requires.in_job found c.put_at.ensures.items without passes is
