use Rattle.std.proofs.Common.{◌≡◌, ◌+◌, ◌∙◌, ◌<◌, ◌≤◌, ◌^◌, ℕ, get_or, length, max, sym, ap, subst, arith, rules}
use Rattle.resource_table.specs.Jobs.{JobValue, job_value, cycles_of}
use Rattle.schedule_search.proofs.PlacedOrders.{next_ready, next_new, next_after, placed_more, placed_back, placed_long}
use Rattle.schedule_search.proofs.placing.fewer_cycles.Goals as goal

pub place-frame-requires : goal.place-frame-requires
place-frame-requires g c =
    let job = job_value c.args.job.now in
    let test : ℕ = get_or c.args.order.now c.args.place 0 in
    let ready = next_ready job c.args.order.now c.args.place c.requires.topological c.requires.within in
    let in_job = subst (λ (j : JobValue). test < length j.tests) (sym c.requires.job) ready.in_job in
    let new = next_new c.args.table.now job c.args.order.now c.args.place c.args.end c.requires.topological c.requires.within c.requires.front in
    record {
      in_job = in_job;
      new = new;
      ready = next_after c.args.table.now job c.args.order.now c.args.place c.args.end c.requires.topological c.requires.within c.requires.front c.requires.job;
      fits = c.earliest-start.ensures.earliest.fits;
      ends = c.list_schedules_are_short.ensures.fits c.args.table.now test c.earliest-start.result c.earliest-start.ensures.sound c.requires.front.list in_job new c.earliest-start.ensures.earliest;
    }

pub cycles_at-requires : goal.cycles_at-requires
cycles_at-requires g c = (next_ready (job_value c.args.job.now) c.args.order.now c.args.place c.requires.topological c.requires.within).in_job

pub place_rest-cycles-requires-clause-first : goal.place_rest-cycles-requires-clause-first
place_rest-cycles-requires-clause-first g c =
    let test : ℕ = get_or c.args.order.now c.args.place 0 in
    let cycles : c.cycles_at.result ≡ cycles_of c.args.table.now.job test = c.cycles_at.ensures ∙ ap (λ (j : JobValue). cycles_of j test) (sym c.requires.job) in
    placed_more c.args.table.now c.table.result.now c.args.order.now c.args.place c.args.end c.max-next_end.result c.earliest-start.result c.requires.front c.requires.within c.earliest-start.ensures.earliest (c.table.ensures.value ∙ c.place-frame.ensures.table)
    (c.max-next_end.ensures ∙ ap (λ (n : ℕ). max c.args.end (c.earliest-start.result + n)) cycles)

pub place_rest-cycles-requires-clause-small : goal.place_rest-cycles-requires-clause-small
place_rest-cycles-requires-clause-small g c =
    let job = job_value c.args.job.now in
    let test : ℕ = get_or c.args.order.now c.args.place 0 in
    let ready = next_ready job c.args.order.now c.args.place c.requires.topological c.requires.within in
    let in_job = subst (λ (j : JobValue). test < length j.tests) (sym c.requires.job) ready.in_job in
    let new = next_new c.args.table.now job c.args.order.now c.args.place c.args.end c.requires.topological c.requires.within c.requires.front in
    let ends : c.earliest-start.result + cycles_of c.args.table.now.job test ≤ 10 ^ 18 = c.list_schedules_are_short.ensures.fits c.args.table.now test c.earliest-start.result c.earliest-start.ensures.sound c.requires.front.list in_job new c.earliest-start.ensures.earliest in
    let cycles : c.cycles_at.result ≡ cycles_of c.args.table.now.job test = c.cycles_at.ensures ∙ ap (λ (j : JobValue). cycles_of j test) (sym c.requires.job) in
    omega (arith, ends, cycles, c.max-next_end.ensures, c.requires.small)

pub undo-requires : goal.undo-requires
undo-requires g c =
    let test : ℕ = get_or c.args.order.now c.args.place 0 in
    placed_long c.args.table.now c.place_rest-cycles.new.table c.table.result.now c.place-frame.result.before test c.earliest-start.result c.place_rest-cycles.ensures.front (c.table.ensures.value ∙ c.place-frame.ensures.table) c.place-frame.ensures.before

pub returns-then-cycles-most-clause-table : goal.returns-then-cycles-most-clause-table
returns-then-cycles-most-clause-table g c =
    let test : ℕ = get_or c.args.order.now c.args.place 0 in
    let back : c.undo.new.self.0 ≡ c.args.table.now = placed_back c.args.table.now c.place_rest-cycles.new.table c.undo.new.self.0 c.table.result.now c.place-frame.result.before test c.earliest-start.result c.undo.ensures.table c.place_rest-cycles.ensures.job c.place_rest-cycles.ensures.front (c.table.ensures.value ∙ c.place-frame.ensures.table) c.place-frame.ensures.before in
    search rules

pub returns-else-cycles-most-clause-none : goal.returns-else-cycles-most-clause-none
returns-else-cycles-most-clause-none g c = c.place_rest-cycles.ensures.late c.if-cycles-most.false

pub returns-else-cycles-most-clause-table : goal.returns-else-cycles-most-clause-table
returns-else-cycles-most-clause-table g c =
    let test : ℕ = get_or c.args.order.now c.args.place 0 in
    let back : c.undo.new.self.0 ≡ c.args.table.now = placed_back c.args.table.now c.place_rest-cycles.new.table c.undo.new.self.0 c.table.result.now c.place-frame.result.before test c.earliest-start.result c.undo.ensures.table c.place_rest-cycles.ensures.job c.place_rest-cycles.ensures.front (c.table.ensures.value ∙ c.place-frame.ensures.table) c.place-frame.ensures.before in
    search rules

pub overflow_add-start : goal.overflow_add-start
overflow_add-start g c =
    let job = job_value c.args.job.now in
    let test : ℕ = get_or c.args.order.now c.args.place 0 in
    let ready = next_ready job c.args.order.now c.args.place c.requires.topological c.requires.within in
    let in_job = subst (λ (j : JobValue). test < length j.tests) (sym c.requires.job) ready.in_job in
    let new = next_new c.args.table.now job c.args.order.now c.args.place c.args.end c.requires.topological c.requires.within c.requires.front in
    let ends : c.earliest-start.result + cycles_of c.args.table.now.job test ≤ 10 ^ 18 = c.list_schedules_are_short.ensures.fits c.args.table.now test c.earliest-start.result c.earliest-start.ensures.sound c.requires.front.list in_job new c.earliest-start.ensures.earliest in
    let cycles : c.cycles_at.result ≡ cycles_of c.args.table.now.job test = c.cycles_at.ensures ∙ ap (λ (j : JobValue). cycles_of j test) (sym c.requires.job) in
    omega (arith, ends, cycles)

pub earliest-start-requires : goal.earliest-start-requires
earliest-start-requires g c =
    let ready = next_ready (job_value c.args.job.now) c.args.order.now c.args.place c.requires.topological c.requires.within in
    record { in_job = subst (λ (j : JobValue). get_or c.args.order.now c.args.place 0 < length j.tests) (sym c.requires.job) ready.in_job }
