use Rattle.std.proofs.Common.{◌≡◌, ◌∙◌, [], ℕ, List, length, sym, ap, subst, arith, nat_eq, slice_index_or, filter}
use Rattle.resource_table.specs.Jobs.{job_value}
use Rattle.schedule_search.specs.declared.prefix.Prefix.{Prefix}
use Rattle.schedule_search.specs.Prefixes.{AreMissing, IsAt}
use Rattle.schedule_search.proofs.Outside.{all_long}
use Rattle.schedule_search.proofs.Stepping.{all_known, begun}
use Rattle.schedule_search.proofs.prefix.Prefix.begin.Goals as goal

pub copy_to-requires : goal.copy_to-requires
copy_to-requires c = omega (arith, ap length (c.deref.ensures.value ∙ c.requires.tries.tests), all_long (job_value c.args.job.now), c.requires.room.rest_room)

pub fill_free-requires-clause-in_range : goal.fill_free-requires-clause-in_range
fill_free-requires-clause-in_range c =
    let job = job_value c.args.job.now in
    all_known job c.deref-2.result.now c.deref-3.result.now (c.deref-2.ensures.value ∙ c.requires.tries.tests) (subst (AreMissing job []) (sym c.deref-3.ensures.value) c.requires.tries.missing)

pub fill_free-requires-clause-room : goal.fill_free-requires-clause-room
fill_free-requires-clause-room c = omega (arith, ap length (c.deref-2.ensures.value ∙ c.requires.tries.tests), all_long (job_value c.args.job.now), c.requires.room.free_room)

pub returns-clause-at : goal.returns-clause-at
returns-clause-at c =
    let job = job_value c.args.job.now in
    let tests : c.clear.new.self.items ≡ [] = c.clear.ensures.items in
    let p : Prefix = record { tests = c.clear.new.self; rest = c.copy_to.new.to; free = c.fill_free.new.free; missing = c.copy_to-2.new.to } in
    let missing : c.copy_to-2.new.to.items ≡ c.args.tries.now.missing.items = c.copy_to-2.ensures.items ∙ c.deref-4.ensures.value in
    subst (λ (path : List ℕ). IsAt job path p) (sym tests) (begun job p tests (c.copy_to.ensures.items ∙ c.deref.ensures.value ∙ c.requires.tries.tests)
    (c.fill_free.ensures.items
    ∙ ap (λ (l : List ℕ). filter (λ test. nat_eq (slice_index_or l test 0) 0) c.deref-2.result.now) (c.deref-3.ensures.value ∙ sym missing)
    ∙ ap (filter (λ test. nat_eq (slice_index_or c.copy_to-2.new.to.items test 0) 0)) (c.deref-2.ensures.value ∙ c.requires.tries.tests))
    (subst (AreMissing job []) (sym missing) c.requires.tries.missing) (record {
      tests_room = omega (arith, c.clear.ensures.capacity, c.requires.room.tests_room);
      rest_room = omega (arith, c.copy_to.ensures.room, c.requires.room.rest_room);
      free_room = omega (arith, c.fill_free.ensures.room, c.requires.room.free_room);
      missing_room = omega (arith, c.copy_to-2.ensures.room, c.requires.room.missing_room);
    }))
