use Rattle.std.proofs.Common.{◌≡◌, ◌∙◌, ℕ, Option, List, length, map, sym, ap, arith}
use Rattle.std.{specs.Vec.with_items, proofs.lemmas.List.with_items_is, proofs.lemmas.List.length-map}
use Rattle.resource_table.specs.declared.{Job.Job, JobTest.JobTest, Placement.Placement, table.Rows.Rows}
use Rattle.resource_table.specs.{Befores.listed, Schedules.TableValue}
use Rattle.resource_table.specs.Jobs.{JobValue, test_value, job_value, tests_over, job_over}
use Rattle.resource_table.proofs.{Emptying.emptied, Restarts.rows_emptied, Restarts.kept_anew, Restarts.length-tests_over}
use Rattle.resource_table.proofs.table.TableOf.restart.Goals as goal

-- the job that is written back is the one over the other buses
same_job : (own : Job) (new read : List JobTest) (buses : List (Option ℕ)) (lengths : List ℕ) → read ≡ own.tests.items → map test_value new ≡ tests_over buses lengths (map test_value read) →
    job_value (record { tests = with_items own.tests new; before = own.before; power = own.power }) ≡ job_over buses lengths (job_value own)
same_job own new read buses lengths read_is new_is =
    let values = map test_value own.tests.items in
    let tests = new_is ∙ ap (λ v. tests_over buses lengths (map test_value v)) read_is in
    let long = ap length tests ∙ length-tests_over buses lengths values in
    let items = with_items_is own.tests new (omega (arith, long, length-map new test_value, length-map own.tests.items test_value, own.tests.ok.0)) in
    ap (λ v. (let j : JobValue = record { tests = v; before = own.before.items; power = own.power } in j)) (ap (map test_value) items ∙ tests)

pub invariant_of-self : goal.invariant_of-self
invariant_of-self g c =
    let was = c.self.inside in
    let own = was.own in
    let old = job_value own in
    let buses = c.args.buses.now in
    let lengths = c.args.lengths.now in
    let job = ap (λ (t : TableValue). t.job) c.self.view_is in
    let long = ap (λ (j : JobValue). length j.tests) job in
    let sound = rw (← job) at c.requires.sound in
    let same = same_job own c.send_over.new.tests c.deref_mut.result.now buses lengths c.deref_mut.ensures.value c.send_over.ensures in
    let rows : Rows = record { ends = c.clear_ends.new.ends; lasts = c.clear.new.self; draws = c.clear-2.new.self; points = c.clear-3.new.self; trail = c.clear_trail.new.trail; bounds = c.forget_notes.new.history } in
    rw same (kept_anew old buses lengths sound (c.requires.buses ∙ sym long) (c.requires.lengths ∙ sym long) c.requires.room rows
    (rows_emptied c.self.invariant.0 c.self.invariant.2 c.self.invariant.4 rows
    c.clear_trail.ensures.items c.clear_trail.ensures.room c.clear_ends.ensures c.clear.ensures.items c.clear.ensures.capacity c.clear-2.ensures.items c.clear-2.ensures.capacity c.clear-3.ensures.items c.clear-3.ensures.capacity
    c.forget_notes.ensures.values c.forget_notes.ensures.marks c.forget_notes.ensures.history c.forget_notes.ensures.room)
    (map listed was.before.items) c.self.invariant.1 c.clear_times.new.times (emptied old was.trail.items was.times c.clear_times.new.times c.self.invariant.3 c.clear_times.ensures))

pub returns-clause-empty : goal.returns-clause-empty
returns-clause-empty g c =
    let buses = c.args.buses.now in
    let lengths = c.args.lengths.now in
    let job = ap (λ (t : TableValue). t.job) c.self.view_is in
    let same = same_job c.self.inside.own c.send_over.new.tests c.deref_mut.result.now buses lengths c.deref_mut.ensures.value c.send_over.ensures in
    ap (λ j. (let t : TableValue = record { job = j; placed = c.clear_trail.new.trail.items } in t)) (same ∙ ap (job_over buses lengths) job)
    ∙ ap (λ v. (let t : TableValue = record { job = job_over buses lengths c.args.self.now.job; placed = v } in t)) c.clear_trail.ensures.items

pub returns-clause-sound : goal.returns-clause-sound
returns-clause-sound g c = (invariant_of-self g c).0.sound

-- the tests that are changed are as many as those of the job
as_many : (own : Job) (read : List JobTest) (placed : List Placement) (t : TableValue) (count : ℕ) → (let now : TableValue = record { job = job_value own; placed = placed } in now) ≡ t → read ≡ own.tests.items → count ≡ length t.job.tests → count ≡ length read
as_many own read placed t count view is many = many ∙ sym (ap (λ (v : TableValue). length v.job.tests) view) ∙ length-map own.tests.items test_value ∙ sym (ap length is)

pub send_over-requires-clause-lengths : goal.send_over-requires-clause-lengths
send_over-requires-clause-lengths g c =
    as_many c.self.inside.own c.deref_mut.result.now c.self.inside.trail.items c.args.self.now (length c.args.lengths.now) c.self.view_is c.deref_mut.ensures.value c.requires.lengths

pub send_over-requires-clause-buses : goal.send_over-requires-clause-buses
send_over-requires-clause-buses g c =
    as_many c.self.inside.own c.deref_mut.result.now c.self.inside.trail.items c.args.self.now (length c.args.buses.now) c.self.view_is c.deref_mut.ensures.value c.requires.buses
