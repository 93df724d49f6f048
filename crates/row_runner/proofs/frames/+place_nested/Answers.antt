use Rattle.std.proofs.Common.{refl, rules, ◌≡◌, ◌∙◌, ◌++◌, ◌∷◌, [], ℕ, slice_index_or, ap, subst, sym}
use Rattle.resource_table.specs.Jobs.{job_value}
use Rattle.resource_table.specs.Schedules.{TableValue, at_start, IsListSchedule}
use Rattle.schedule_search.proofs.Explorings.{taken_back}
use Rattle.row_runner.proofs.frames.+place_nested.Goals as goal

pub place-frame-requires : goal.place-frame-requires
place-frame-requires g t c =
    let next = c.if-not-may_be_next.ensures in
    record {
      in_job = next.in_job refl;
      new = next.new refl;
      ready = next.ready refl;
      fits = c.earliest-start.ensures.earliest.fits;
      ends = c.list_schedules_are_short.ensures.fits c.args.table.now (slice_index_or c.args.tests.now 0 0) c.earliest-start.result c.earliest-start.ensures.sound c.requires.list (next.in_job refl) (next.new refl) c.earliest-start.ensures.earliest;
    }

pub place_nested-placed-requires : goal.place_nested-placed-requires
place_nested-placed-requires g t c κs within =
    let test : ℕ = slice_index_or c.args.tests.now 0 0 in
    let grown : c.table.result.now ≡ record c.args.table.now { placed = c.args.table.now.placed ++ at_start test c.earliest-start.result ∷ [] } = c.table.ensures.value ∙ c.place-frame.ensures.table in
    let job_is : c.table.result.now.job ≡ job_value c.args.job.now = ap (λ (v : TableValue). v.job) grown ∙ c.requires.job in
    let list : IsListSchedule c.table.result.now.job c.table.result.now.placed = subst (λ (v : TableValue). IsListSchedule v.job v.placed) (sym grown) (c.list_schedules_are_short.ensures.next c.args.table.now.job c.args.table.now.placed test c.earliest-start.result c.requires.list c.earliest-start.ensures.earliest) in
    (search rules, (within, (job_is, list)))

pub returns-in_err-placed : goal.returns-in_err-placed
returns-in_err-placed g t c =
    let test : ℕ = slice_index_or c.args.tests.now 0 0 in
    let grown : c.table.result.now ≡ record c.args.table.now { placed = c.args.table.now.placed ++ at_start test c.earliest-start.result ∷ [] } = c.table.ensures.value ∙ c.place-frame.ensures.table in
    let back : c.undo.new.self.0 ≡ c.args.table.now = taken_back c.args.table.now c.place_nested-placed.new.table c.undo.new.self.0 c.place-frame.result.before test c.earliest-start.result c.undo.ensures.table (c.place_nested-placed.ensures ∙ grown) c.place-frame.ensures.before in
    search rules

pub push_answers-requires-2 : goal.push_answers-requires-2
push_answers-requires-2 g t c =
    let test : ℕ = slice_index_or c.args.tests.now 0 0 in
    let grown : c.table.result.now ≡ record c.args.table.now { placed = c.args.table.now.placed ++ at_start test c.earliest-start.result ∷ [] } = c.table.ensures.value ∙ c.place-frame.ensures.table in
    let back : c.undo.new.self.0 ≡ c.args.table.now = taken_back c.args.table.now c.place_nested-placed.new.table c.undo.new.self.0 c.place-frame.result.before test c.earliest-start.result c.undo.ensures.table (c.place_nested-placed.ensures ∙ grown) c.place-frame.ensures.before in
    let job_is : c.undo.new.self.0.job ≡ job_value c.args.job.now = ap (λ (v : TableValue). v.job) back ∙ c.requires.job in
    search rules

pub returns : goal.returns
returns g t c =
    let test : ℕ = slice_index_or c.args.tests.now 0 0 in
    let grown : c.table.result.now ≡ record c.args.table.now { placed = c.args.table.now.placed ++ at_start test c.earliest-start.result ∷ [] } = c.table.ensures.value ∙ c.place-frame.ensures.table in
    let back : c.undo.new.self.0 ≡ c.args.table.now = taken_back c.args.table.now c.place_nested-placed.new.table c.undo.new.self.0 c.place-frame.result.before test c.earliest-start.result c.undo.ensures.table (c.place_nested-placed.ensures ∙ grown) c.place-frame.ensures.before in
    search rules
