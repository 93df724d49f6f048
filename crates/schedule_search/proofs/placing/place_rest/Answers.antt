use Rattle.std.proofs.Common.{◌≡◌, ◌+◌, ◌∙◌, ℕ, ◌++◌, ◌∷◌, [], List, ◌<◌, length, get_or, max, refl, sym, ap, subst, append_assoc, append-nil, arith}
use Rattle.resource_table.specs.declared.Placement.{Placement}
use Rattle.resource_table.specs.Jobs.{JobValue, job_value, cycles_of}
use Rattle.resource_table.specs.Schedules.{TableValue, at_start}
use Rattle.schedule_search.proofs.PlacedOrders.{next_ready, next_new, next_after, placed_more}
use Rattle.schedule_search.proofs.CycleCounts.{front_least}
use Rattle.schedule_search.proofs.placing.place_rest.Goals as goal

pub place_next-start-requires-clause-new : goal.place_next-start-requires-clause-new
place_next-start-requires-clause-new g c =
    next_new c.loop-place.table (job_value c.args.job.now) c.args.order.now c.loop-place.place c.loop-place.last_end c.requires.topological c.loop-place-test.true c.loop-place.invariant.placed

pub place_next-start-requires-clause-ready : goal.place_next-start-requires-clause-ready
place_next-start-requires-clause-ready g c =
    next_after c.loop-place.table (job_value c.args.job.now) c.args.order.now c.loop-place.place c.loop-place.last_end c.requires.topological c.loop-place-test.true c.loop-place.invariant.placed (c.loop-place.invariant.job ∙ c.requires.job)

pub cycles_at-requires : goal.cycles_at-requires
cycles_at-requires g c = (next_ready (job_value c.args.job.now) c.args.order.now c.loop-place.place c.requires.topological c.loop-place-test.true).in_job

pub loop-place-preserved : goal.loop-place-preserved
loop-place-preserved g c =
    let test : ℕ = get_or c.args.order.now c.loop-place.place 0 in
    let cycles : c.cycles_at.result ≡ cycles_of c.loop-place.table.job test = c.cycles_at.ensures ∙ ap (λ (j : JobValue). cycles_of j test) (sym (c.loop-place.invariant.job ∙ c.requires.job)) in
    record {
      placed = placed_more c.loop-place.table c.place_next-start.new.table c.args.order.now c.loop-place.place c.loop-place.last_end c.max-last_end.result c.place_next-start.result c.loop-place.invariant.placed c.loop-place-test.true c.place_next-start.ensures.earliest c.place_next-start.ensures.table
          (c.max-last_end.ensures ∙ ap (λ (n : ℕ). max c.loop-place.last_end (c.place_next-start.result + n)) cycles);
      front = (let before = c.loop-place.invariant.front in (before.0 ++ at_start test c.place_next-start.result ∷ [], ap (λ (t : TableValue). t.placed) c.place_next-start.ensures.table ∙ ap (λ (l : List Placement). l ++ at_start test c.place_next-start.result ∷ []) before.1 ∙ append_assoc c.args.table.now.placed before.0 (at_start test c.place_next-start.result ∷ [])));
      small = omega (arith, c.max-last_end.ensures, c.loop-place.invariant.small, c.place_next-start.ensures.ends, cycles);
      job = ap (λ (t : TableValue). t.job) c.place_next-start.ensures.table ∙ c.loop-place.invariant.job;
    }

pub loop-place-init : goal.loop-place-init
loop-place-init g c = record {
  placed = c.requires.first;
  small = c.requires.small;
  front = ([], sym (append-nil c.args.table.now.placed));
  job = refl;
}

pub place_next-start-requires-clause-in_job : goal.place_next-start-requires-clause-in_job
place_next-start-requires-clause-in_job g c =
    let test : ℕ = get_or c.args.order.now c.loop-place.place 0 in
    subst (λ (j : JobValue). test < length j.tests) (sym (c.loop-place.invariant.job ∙ c.requires.job)) (next_ready (job_value c.args.job.now) c.args.order.now c.loop-place.place c.requires.topological c.loop-place-test.true).in_job

pub returns-then-last_end-most-clause-late : goal.returns-then-last_end-most-clause-late
returns-then-last_end-most-clause-late g c = λ past cycles takes.
    let least = front_least c.loop-place.table (job_value c.args.job.now) c.args.order.now c.loop-place.place c.loop-place.last_end cycles (c.loop-place.invariant.job ∙ c.requires.job) c.loop-place.invariant.placed takes in
    omega (arith, past, least)

pub returns-clause-late : goal.returns-clause-late
returns-clause-late g c = λ past cycles takes.
    let least = front_least c.loop-place.table (job_value c.args.job.now) c.args.order.now c.loop-place.place c.loop-place.last_end cycles (c.loop-place.invariant.job ∙ c.requires.job) c.loop-place.invariant.placed takes in
    omega (arith, past, least)
