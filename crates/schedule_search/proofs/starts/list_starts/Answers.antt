use Rattle.std.proofs.Common.{◌<◌, ◌≤◌, ◌+◌, ◌^◌, ◌∙◌, ◌≡◌, ℕ, [], length, get_or, max, refl, ap, sym, subst, arith}
use Rattle.resource_table.specs.Jobs.{JobValue, job_value, cycles_of}
use Rattle.resource_table.specs.Schedules.{TableValue}
use Rattle.schedule_search.proofs.Explorings.{some_left}
use Rattle.schedule_search.proofs.PlacedOrders.{next_ready, none_placed, placed_more, takes_placed}
use Rattle.schedule_search.proofs.Searching.{none_noted, next_free, next_placed, starts_noted}
use Rattle.schedule_search.proofs.starts.list_starts.Goals as goal

pub place-frame-requires : goal.place-frame-requires
place-frame-requires g c =
    let job = job_value c.args.job.now in
    let some = some_left (length c.args.order.now) c.is_empty.result c.is_empty.ensures c.if-is_empty.false in
    let none = none_noted c.args.table.now c.args.order.now [] c.requires.empty refl in
    let ready = next_ready job c.args.order.now 0 c.requires.topological some in
    let in_job = subst (λ (j : JobValue). get_or c.args.order.now 0 0 < length j.tests) (sym c.requires.job) ready.in_job in
    let new = next_free c.args.table.now job c.args.order.now 0 [] c.requires.topological some none in
    record {
      in_job = in_job;
      new = new;
      ready = next_placed c.args.table.now job c.args.order.now 0 [] c.requires.topological some none c.requires.job;
      fits = c.earliest-start.ensures.earliest.fits;
      ends = c.list_schedules_are_short.ensures.fits c.args.table.now (get_or c.args.order.now 0 0) c.earliest-start.result c.earliest-start.ensures.sound none.list in_job new c.earliest-start.ensures.earliest;
    }

pub returns-clause-starts : goal.returns-clause-starts
returns-clause-starts g c =
    starts_noted c.note_rest-cycles.new.table (job_value c.args.job.now) c.args.order.now c.note_rest-cycles.new.starts.items (c.note_rest-cycles.ensures.job ∙ ap (λ (t : TableValue). t.job) (c.table.ensures.value ∙ c.place-frame.ensures.table) ∙ c.requires.job) c.note_rest-cycles.ensures.all

pub returns-clause-takes : goal.returns-clause-takes
returns-clause-takes g c =
    takes_placed c.note_rest-cycles.new.table (job_value c.args.job.now) c.args.order.now c.note_rest-cycles.result (c.note_rest-cycles.ensures.job ∙ ap (λ (t : TableValue). t.job) (c.table.ensures.value ∙ c.place-frame.ensures.table) ∙ c.requires.job) c.note_rest-cycles.ensures.ends

pub earliest-start-requires : goal.earliest-start-requires
earliest-start-requires g c =
    let some = some_left (length c.args.order.now) c.is_empty.result c.is_empty.ensures c.if-is_empty.false in
    record { in_job = subst (λ (j : JobValue). get_or c.args.order.now 0 0 < length j.tests) (sym c.requires.job) (next_ready (job_value c.args.job.now) c.args.order.now 0 c.requires.topological some).in_job }

pub cycles_at-requires : goal.cycles_at-requires
cycles_at-requires g c =
    let some = some_left (length c.args.order.now) c.is_empty.result c.is_empty.ensures c.if-is_empty.false in
    (next_ready (job_value c.args.job.now) c.args.order.now 0 c.requires.topological some).in_job

pub overflow_add-first_end : goal.overflow_add-first_end
overflow_add-first_end g c =
    let job = job_value c.args.job.now in
    let some = some_left (length c.args.order.now) c.is_empty.result c.is_empty.ensures c.if-is_empty.false in
    let none = none_noted c.args.table.now c.args.order.now [] c.requires.empty refl in
    let ready = next_ready job c.args.order.now 0 c.requires.topological some in
    let in_job = subst (λ (j : JobValue). get_or c.args.order.now 0 0 < length j.tests) (sym c.requires.job) ready.in_job in
    let new = next_free c.args.table.now job c.args.order.now 0 [] c.requires.topological some none in
    let ends : c.earliest-start.result + cycles_of c.args.table.now.job (get_or c.args.order.now 0 0) ≤ 10 ^ 18 = c.list_schedules_are_short.ensures.fits c.args.table.now (get_or c.args.order.now 0 0) c.earliest-start.result c.earliest-start.ensures.sound none.list in_job new c.earliest-start.ensures.earliest in
    let cycles : c.cycles_at.result ≡ cycles_of c.args.table.now.job (get_or c.args.order.now 0 0) = c.cycles_at.ensures ∙ ap (λ (j : JobValue). cycles_of j (get_or c.args.order.now 0 0)) (sym c.requires.job) in
    omega (arith, ends, cycles)

pub note_rest-cycles-requires-clause-job : goal.note_rest-cycles-requires-clause-job
note_rest-cycles-requires-clause-job g c = ap (λ (t : TableValue). t.job) (c.table.ensures.value ∙ c.place-frame.ensures.table) ∙ c.requires.job

pub note_rest-cycles-requires-clause-placed : goal.note_rest-cycles-requires-clause-placed
note_rest-cycles-requires-clause-placed g c =
    let some = some_left (length c.args.order.now) c.is_empty.result c.is_empty.ensures c.if-is_empty.false in
    let test : ℕ = get_or c.args.order.now 0 0 in
    let cycles : c.cycles_at.result ≡ cycles_of c.args.table.now.job test = c.cycles_at.ensures ∙ ap (λ (j : JobValue). cycles_of j test) (sym c.requires.job) in
    let end : ℕ = c.earliest-start.result + c.cycles_at.result in
    placed_more c.args.table.now c.table.result.now c.args.order.now 0 0 end c.earliest-start.result (none_placed c.args.table.now c.args.order.now c.requires.empty) some c.earliest-start.ensures.earliest (c.table.ensures.value ∙ c.place-frame.ensures.table)
    (let e : end ≡ max 0 (c.earliest-start.result + cycles_of c.args.table.now.job test) = omega (arith, cycles) in e)

pub note_rest-cycles-requires-clause-small : goal.note_rest-cycles-requires-clause-small
note_rest-cycles-requires-clause-small g c =
    let job = job_value c.args.job.now in
    let some = some_left (length c.args.order.now) c.is_empty.result c.is_empty.ensures c.if-is_empty.false in
    let none = none_noted c.args.table.now c.args.order.now [] c.requires.empty refl in
    let ready = next_ready job c.args.order.now 0 c.requires.topological some in
    let in_job = subst (λ (j : JobValue). get_or c.args.order.now 0 0 < length j.tests) (sym c.requires.job) ready.in_job in
    let new = next_free c.args.table.now job c.args.order.now 0 [] c.requires.topological some none in
    let ends : c.earliest-start.result + cycles_of c.args.table.now.job (get_or c.args.order.now 0 0) ≤ 10 ^ 18 = c.list_schedules_are_short.ensures.fits c.args.table.now (get_or c.args.order.now 0 0) c.earliest-start.result c.earliest-start.ensures.sound none.list in_job new c.earliest-start.ensures.earliest in
    let cycles : c.cycles_at.result ≡ cycles_of c.args.table.now.job (get_or c.args.order.now 0 0) = c.cycles_at.ensures ∙ ap (λ (j : JobValue). cycles_of j (get_or c.args.order.now 0 0)) (sym c.requires.job) in
    omega (arith, ends, cycles)
