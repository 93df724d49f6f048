use Rattle.std.proofs.Common.{◌≡◌, ◌∙◌, ℕ, Some, ap, subst, slice_get}
use Rattle.std.proofs.lemmas.Option.{slice_get-get_or}
use Rattle.resource_table.specs.Jobs.{job_value}
use Rattle.schedule_search.proofs.Sorting.{sorted_at, sorted_order, place_there}
use Rattle.schedule_search.proofs.prefix.place_left.Goals as goal

pub place_of-requires-clause-in_job : goal.place_of-requires-clause-in_job
place_of-requires-clause-in_job c = sorted_at (job_value c.args.job.now) c.args.rest.now c.requires.there.0 c.args.test c.requires.sorted c.requires.there.1

pub returns : goal.returns
returns c =
    let same = place_there (job_value c.args.job.now) c.args.rest.now c.args.test c.place_of.result c.requires.there.0 (sorted_order (job_value c.args.job.now) c.args.rest.now c.requires.sorted) c.place_of.ensures c.requires.there.1 in
    subst (λ (n : ℕ). slice_get c.args.rest.now n ≡ Some c.args.test) same c.requires.there.1

pub returns-then-stands_at : goal.returns-then-stands_at
returns-then-stands_at c =
    let there = c.stands_at.ensures c.if-stands_at.true in
    slice_get-get_or c.args.rest.now c.args.near 0 there.0 ∙ ap Some there.1
