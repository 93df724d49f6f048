use Rattle.std.proofs.Common.{◌≡◌, ◌+◌, ◌∙◌, ℕ, ap, ◌<◌, get_or, length, max, sym, subst, arith}
use Rattle.resource_table.specs.Jobs.{JobValue, job_value, cycles_of}
use Rattle.resource_table.specs.Schedules.{TableValue}
use Rattle.schedule_search.proofs.Searching.{next_free, next_placed, noted_more}
use Rattle.schedule_search.proofs.PlacedOrders.{next_ready, placed_more}
use Rattle.schedule_search.proofs.starts.note_rest.Goals as goal

pub place_next-start-requires-clause-new : goal.place_next-start-requires-clause-new
place_next-start-requires-clause-new g c = next_free c.loop-place.table (job_value c.args.job.now) c.args.order.now c.loop-place.place c.loop-place.starts.items c.requires.topological c.loop-place-test.true c.loop-place.invariant.noted

pub place_next-start-requires-clause-ready : goal.place_next-start-requires-clause-ready
place_next-start-requires-clause-ready g c = next_placed c.loop-place.table (job_value c.args.job.now) c.args.order.now c.loop-place.place c.loop-place.starts.items c.requires.topological c.loop-place-test.true c.loop-place.invariant.noted (c.loop-place.invariant.job ∙ c.requires.job)

pub cycles_at-requires : goal.cycles_at-requires
cycles_at-requires g c = (next_ready (job_value c.args.job.now) c.args.order.now c.loop-place.place c.requires.topological c.loop-place-test.true).in_job

pub loop-place-preserved : goal.loop-place-preserved
loop-place-preserved g c =
    let test : ℕ = get_or c.args.order.now c.loop-place.place 0 in
    let cycles : c.cycles_at.result ≡ cycles_of c.loop-place.table.job test = c.cycles_at.ensures ∙ ap (λ (j : JobValue). cycles_of j test) (sym (c.loop-place.invariant.job ∙ c.requires.job)) in
    record {
      noted = noted_more c.loop-place.table c.place_next-start.new.table c.args.order.now c.loop-place.place c.loop-place.starts.items c.push_reserved.new.self.items c.place_next-start.result c.loop-place.invariant.noted c.loop-place-test.true c.place_next-start.ensures.earliest c.place_next-start.ensures.table c.push_reserved.ensures.items;
      placed = placed_more c.loop-place.table c.place_next-start.new.table c.args.order.now c.loop-place.place c.loop-place.last_end c.max-last_end.result c.place_next-start.result c.loop-place.invariant.placed c.loop-place-test.true c.place_next-start.ensures.earliest c.place_next-start.ensures.table
          (c.max-last_end.ensures ∙ ap (λ (n : ℕ). max c.loop-place.last_end (c.place_next-start.result + n)) cycles);
      small = omega (arith, c.max-last_end.ensures, c.loop-place.invariant.small, c.place_next-start.ensures.ends, cycles);
      job = ap (λ (t : TableValue). t.job) c.place_next-start.ensures.table ∙ c.loop-place.invariant.job;
      room = c.push_reserved.ensures.capacity ∙ c.loop-place.invariant.room;
    }

pub place_next-start-requires-clause-in_job : goal.place_next-start-requires-clause-in_job
place_next-start-requires-clause-in_job g c =
    let ready = next_ready (job_value c.args.job.now) c.args.order.now c.loop-place.place c.requires.topological c.loop-place-test.true in
    subst (λ (j : JobValue). get_or c.args.order.now c.loop-place.place 0 < length j.tests) (sym (c.loop-place.invariant.job ∙ c.requires.job)) ready.in_job
