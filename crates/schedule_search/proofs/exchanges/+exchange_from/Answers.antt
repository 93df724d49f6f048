use Rattle.std.proofs.Common.{◌≡◌, ◌+◌, ◌-◌, ◌∙◌, ◌<◌, ◌≤◌, ◌^◌, ◌++◌, ◌∷◌, [], ℕ, List, get_or, length, max, take, sym, ap, subst, arith, rules, length-append}
use Rattle.resource_table.specs.Jobs.{JobValue, job_value, cycles_of}
use Rattle.resource_table.specs.Schedules.{TableValue, at_start, IsEarliest, MayPlace}
use Rattle.schedule_search.specs.Orders.{IsTopological}
use Rattle.schedule_search.specs.OrderCycles.{HasPlaced}
use Rattle.schedule_search.specs.Exchanges.{NoGainAt}
use Rattle.schedule_search.proofs.PlacedOrders.{next_ready, next_new, next_after, placed_more}
use Rattle.schedule_search.proofs.Exchanging.{if_none, none_from}
use Rattle.schedule_search.proofs.Explorings.{taken_back}
use Rattle.schedule_search.proofs.exchanges.+exchange_from.Goals as goal

pub place-frame-requires : goal.place-frame-requires
place-frame-requires g t c =
    let job = job_value c.args.job.now in
    let order : List ℕ = c.args.order.now in
    let table : TableValue = c.exchange_at.new.table in
    let same : c.exchange_at.new.order ≡ order = c.in_default.ensures.stays in
    let stays : table ≡ c.args.table.now = c.in_default.ensures.table in
    let job_is : table.job ≡ job = ap (λ (v : TableValue). v.job) stays ∙ c.requires.job in
    let front : HasPlaced table (take c.args.place order) c.args.end = subst (λ (v : TableValue). HasPlaced v (take c.args.place order) c.args.end) (sym stays) c.requires.front in
    let test : ℕ = get_or order c.args.place 0 in
    let ready = next_ready job order c.args.place c.requires.topological c.requires.within in
    let in_job = subst (λ (j : JobValue). test < length j.tests) (sym job_is) ready.in_job in
    let new = next_new table job order c.args.place c.args.end c.requires.topological c.requires.within front in
    let earliest : IsEarliest table.job table.placed test c.earliest-start.result = subst (λ (l : List ℕ). IsEarliest table.job table.placed (get_or l c.args.place 0) c.earliest-start.result) same c.earliest-start.ensures.earliest in
    subst (λ (l : List ℕ). MayPlace table.job table.placed (get_or l c.args.place 0) c.earliest-start.result) (sym same) (record {
      in_job = in_job;
      new = new;
      ready = next_after table job order c.args.place c.args.end c.requires.topological c.requires.within front job_is;
      fits = earliest.fits;
      ends = c.list_schedules_are_short.ensures.fits table test c.earliest-start.result c.earliest-start.ensures.sound front.list in_job new earliest;
    })

pub cycles_at-requires : goal.cycles_at-requires
cycles_at-requires g t c =
    let job = job_value c.args.job.now in
    let same : c.exchange_at.new.order ≡ c.args.order.now = c.in_default.ensures.stays in
    subst (λ (l : List ℕ). get_or l c.args.place 0 < length job.tests) (sym same) (next_ready job c.args.order.now c.args.place c.requires.topological c.requires.within).in_job

pub exchange_from-fewer-requires : goal.exchange_from-fewer-requires
exchange_from-fewer-requires g t c κs within_measure =
    let job = job_value c.args.job.now in
    let order : List ℕ = c.args.order.now in
    let now : List ℕ = c.exchange_at.new.order in
    let table : TableValue = c.exchange_at.new.table in
    let same : now ≡ order = c.in_default.ensures.stays in
    let stays : table ≡ c.args.table.now = c.in_default.ensures.table in
    let job_is : table.job ≡ job = ap (λ (v : TableValue). v.job) stays ∙ c.requires.job in
    let front : HasPlaced table (take c.args.place now) c.args.end = subst (λ (l : List ℕ). HasPlaced table (take c.args.place l) c.args.end) (sym same) (subst (λ (v : TableValue). HasPlaced v (take c.args.place order) c.args.end) (sym stays) c.requires.front) in
    let test : ℕ = get_or now c.args.place 0 in
    let topological : IsTopological job now = subst (IsTopological job) (sym same) c.requires.topological in
    let inside : c.args.place < length now = omega (arith, ap length same, c.requires.within) in
    let ready = next_ready job now c.args.place topological inside in
    let in_job : test < length table.job.tests = subst (λ (j : JobValue). test < length j.tests) (sym job_is) ready.in_job in
    let new = next_new table job now c.args.place c.args.end topological inside front in
    let ends : c.earliest-start.result + cycles_of table.job test ≤ 10 ^ 18 = c.list_schedules_are_short.ensures.fits table test c.earliest-start.result c.earliest-start.ensures.sound front.list in_job new c.earliest-start.ensures.earliest in
    let cycles : c.cycles_at.result ≡ cycles_of table.job test = c.cycles_at.ensures ∙ ap (λ (j : JobValue). cycles_of j test) (sym job_is) in
    let grown : c.table.result.now ≡ record table { placed = table.placed ++ at_start test c.earliest-start.result ∷ [] } = c.table.ensures.value ∙ c.place-frame.ensures.table in
    let placed : HasPlaced c.table.result.now (take (c.args.place + 1) now) c.max-next_end.result = placed_more table c.table.result.now now c.args.place c.args.end c.max-next_end.result c.earliest-start.result front inside c.earliest-start.ensures.earliest grown (c.max-next_end.ensures ∙ ap (λ (n : ℕ). max c.args.end (c.earliest-start.result + n)) cycles) in
    let small : c.max-next_end.result ≤ 10 ^ 18 = omega (arith, ends, cycles, c.max-next_end.ensures, c.requires.small) in
    let job_then : c.table.result.now.job ≡ job = ap (λ (v : TableValue). v.job) grown ∙ job_is in
    let more : c.args.place + 1 < length now = omega (arith, inside, c.if-place-order.false, ap length same) in
    let measure : length now - (c.args.place + 1) < length order - c.args.place = omega (arith, inside, ap length same) in
    (search rules, (within_measure, (more, (job_then, (placed, (small, topological))))))

pub returns-clause-none_helps : goal.returns-clause-none_helps
returns-clause-none_helps g t c =
    let job = job_value c.args.job.now in
    let order : List ℕ = c.args.order.now in
    let now : List ℕ = c.exchange_at.new.order in
    let same : now ≡ order = c.in_default.ensures.stays in
    if_none c.exchange_from-fewer.result ((later : ℕ) → c.args.place + 1 ≤ later → later + 1 < length now → NoGainAt job now later c.args.cycles) ((later : ℕ) → c.args.place ≤ later → later + 1 < length order → NoGainAt job order later c.args.cycles)
    (λ none. none_from job order c.args.place c.args.cycles c.in_default.ensures.no_gain (subst (λ (l : List ℕ). (later : ℕ) → c.args.place + 1 ≤ later → later + 1 < length l → NoGainAt job l later c.args.cycles) same none))
    c.exchange_from-fewer.ensures.none_helps

pub overflow_add-start : goal.overflow_add-start
overflow_add-start g t c =
    let job = job_value c.args.job.now in
    let order : List ℕ = c.args.order.now in
    let table : TableValue = c.exchange_at.new.table in
    let same : c.exchange_at.new.order ≡ order = c.in_default.ensures.stays in
    let stays : table ≡ c.args.table.now = c.in_default.ensures.table in
    let job_is : table.job ≡ job = ap (λ (v : TableValue). v.job) stays ∙ c.requires.job in
    let front : HasPlaced table (take c.args.place order) c.args.end = subst (λ (v : TableValue). HasPlaced v (take c.args.place order) c.args.end) (sym stays) c.requires.front in
    let test : ℕ = get_or order c.args.place 0 in
    let in_job : test < length table.job.tests = subst (λ (j : JobValue). test < length j.tests) (sym job_is) (next_ready job order c.args.place c.requires.topological c.requires.within).in_job in
    let new = next_new table job order c.args.place c.args.end c.requires.topological c.requires.within front in
    let earliest : IsEarliest table.job table.placed test c.earliest-start.result = subst (λ (l : List ℕ). IsEarliest table.job table.placed (get_or l c.args.place 0) c.earliest-start.result) same c.earliest-start.ensures.earliest in
    let ends : c.earliest-start.result + cycles_of table.job test ≤ 10 ^ 18 = c.list_schedules_are_short.ensures.fits table test c.earliest-start.result c.earliest-start.ensures.sound front.list in_job new earliest in
    let cycles : c.cycles_at.result ≡ cycles_of table.job test = c.cycles_at.ensures ∙ ap (λ (l : List ℕ). cycles_of job (get_or l c.args.place 0)) same ∙ ap (λ (j : JobValue). cycles_of j test) (sym job_is) in
    omega (arith, ends, cycles)

pub returns-clause-table : goal.returns-clause-table
returns-clause-table g t c =
    let table : TableValue = c.exchange_at.new.table in
    let test : ℕ = get_or c.exchange_at.new.order c.args.place 0 in
    let grown : c.table.result.now ≡ record table { placed = table.placed ++ at_start test c.earliest-start.result ∷ [] } = c.table.ensures.value ∙ c.place-frame.ensures.table in
    let back : c.undo.new.self.0 ≡ c.args.table.now = taken_back table c.exchange_from-fewer.new.table c.undo.new.self.0 c.place-frame.result.before test c.earliest-start.result c.undo.ensures.table (c.exchange_from-fewer.ensures.table ∙ grown) c.place-frame.ensures.before ∙ c.in_default.ensures.table in
    search rules

pub earliest-start-requires : goal.earliest-start-requires
earliest-start-requires g t c =
    let job = job_value c.args.job.now in
    let table : TableValue = c.exchange_at.new.table in
    let same : c.exchange_at.new.order ≡ c.args.order.now = c.in_default.ensures.stays in
    let job_is : table.job ≡ job = ap (λ (v : TableValue). v.job) c.in_default.ensures.table ∙ c.requires.job in
    let ready = next_ready job c.args.order.now c.args.place c.requires.topological c.requires.within in
    record { in_job = subst (λ (l : List ℕ). get_or l c.args.place 0 < length table.job.tests) (sym same) (subst (λ (j : JobValue). get_or c.args.order.now c.args.place 0 < length j.tests) (sym job_is) ready.in_job) }

pub undo-requires : goal.undo-requires
undo-requires g t c =
    let table : TableValue = c.exchange_at.new.table in
    let test : ℕ = get_or c.exchange_at.new.order c.args.place 0 in
    let grown : c.table.result.now ≡ record table { placed = table.placed ++ at_start test c.earliest-start.result ∷ [] } = c.table.ensures.value ∙ c.place-frame.ensures.table in
    let after : length c.exchange_from-fewer.new.table.placed ≡ length (table.placed ++ at_start test c.earliest-start.result ∷ []) = ap (λ (v : TableValue). length v.placed) (c.exchange_from-fewer.ensures.table ∙ grown) in
    let before : c.place-frame.result.before ≡ length table.placed = c.place-frame.ensures.before in
    omega (arith, before, after, length-append table.placed (at_start test c.earliest-start.result ∷ []))
