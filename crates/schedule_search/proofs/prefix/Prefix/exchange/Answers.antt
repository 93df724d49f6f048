use Rattle.std.proofs.Common.{◌≡◌, ◌∙◌, ◌+◌, ℕ, List, length, get_or, set, refl, sym, ap, arith}
use Rattle.std.specs.Vec.{with_items}
use Rattle.std.proofs.lemmas.List.{length-set, with_items_is}
use Rattle.resource_table.specs.Jobs.{job_value}
use Rattle.schedule_search.specs.declared.prefix.Prefix.{Prefix}
use Rattle.schedule_search.specs.Prefixes.{followers}
use Rattle.schedule_search.proofs.Stepping.{back_free, back_rest, next_out, other_out}
use Rattle.schedule_search.proofs.Waiting.{follower_left}
use Rattle.schedule_search.proofs.prefix.Prefix.exchange.Goals as goal

pub pass_left-left-requires-clause-out : goal.pass_left-left-requires-clause-out
pass_left-left-requires-clause-out c =
    let job = job_value c.args.job.now in
    let path : List ℕ = c.args.self.now.tests.items in
    let x : ℕ = c.args.taken.test in
    let free = back_free job path c.args.self.now c.args.place x c.requires.out c.requires.taken_out.free_at in
    let rest = back_rest job path c.args.self.now c.args.taken.left x c.requires.out c.requires.taken_out.left_at in
    let y : ℕ = c.put_for-test.result in
    let next = next_out (followers job path) c.args.self.now.free.items (set c.args.self.now.free.items c.args.place x) c.args.place x y c.requires.taken_out.free_at free.2 c.requires.more (c.put_for-test.ensures.item ∙ ap (λ (l : List ℕ). get_or l c.args.place y) c.deref_mut.ensures.value) refl in
    let there = follower_left job path (c.args.place + 1) y next.0 in
    (path, rest.2, c.requires.taken_out.left_at, there.0, there.1)

pub pass_left-left-requires-clause-room : goal.pass_left-left-requires-clause-room
pass_left-left-requires-clause-room c =
    let rest = back_rest (job_value c.args.job.now) c.args.self.now.tests.items c.args.self.now c.args.taken.left c.args.taken.test c.requires.out c.requires.taken_out.left_at in
    omega (arith, rest.1, c.requires.out.has_room.rest_room)

pub returns-clause-out : goal.returns-clause-out
returns-clause-out c =
    let job = job_value c.args.job.now in
    let path : List ℕ = c.args.self.now.tests.items in
    let x : ℕ = c.args.taken.test in
    let free = back_free job path c.args.self.now c.args.place x c.requires.out c.requires.taken_out.free_at in
    let rest = back_rest job path c.args.self.now c.args.taken.left x c.requires.out c.requires.taken_out.left_at in
    let y : ℕ = c.put_for-test.result in
    let next = next_out (followers job path) c.args.self.now.free.items (set c.args.self.now.free.items c.args.place x) c.args.place x y c.requires.taken_out.free_at free.2 c.requires.more (c.put_for-test.ensures.item ∙ ap (λ (l : List ℕ). get_or l c.args.place y) c.deref_mut.ensures.value) refl in
    let there = follower_left job path (c.args.place + 1) y next.0 in
    let passed = c.pass_left-left.ensures.out path rest.2 c.requires.taken_out.left_at there in
    let new : List ℕ = c.put_for-test.new.items in
    let put : new ≡ set c.args.self.now.free.items c.args.place x = c.put_for-test.ensures.items ∙ ap (λ (l : List ℕ). set l c.args.place x) c.deref_mut.ensures.value in
    let long : length new ≡ c.args.self.now.free.len = ap length put ∙ length-set c.args.self.now.free.items c.args.place x ∙ sym c.args.self.now.free.ok.0 in
    let written : (with_items c.args.self.now.free new).items ≡ new = with_items_is c.args.self.now.free new long in
    let room = c.requires.out.has_room in
    let q : Prefix = record { tests = c.args.self.now.tests; rest = c.pass_left-left.new.rest; free = with_items c.args.self.now.free new; missing = c.args.self.now.missing } in
    other_out job path c.args.self.now q (c.args.place + 1) c.args.taken.left c.pass_left-left.result x y c.requires.out c.requires.taken_out.left_at next.0 passed.1 refl passed.0 (written ∙ put ∙ next.1) refl (record {
      tests_room = room.tests_room;
      rest_room = omega (arith, room.rest_room, c.pass_left-left.ensures.room);
      free_room = room.free_room;
      missing_room = room.missing_room;
    })

pub returns-clause-taken_out : goal.returns-clause-taken_out
returns-clause-taken_out c =
    let job = job_value c.args.job.now in
    let path : List ℕ = c.args.self.now.tests.items in
    let x : ℕ = c.args.taken.test in
    let free = back_free job path c.args.self.now c.args.place x c.requires.out c.requires.taken_out.free_at in
    let rest = back_rest job path c.args.self.now c.args.taken.left x c.requires.out c.requires.taken_out.left_at in
    let y : ℕ = c.put_for-test.result in
    let next = next_out (followers job path) c.args.self.now.free.items (set c.args.self.now.free.items c.args.place x) c.args.place x y c.requires.taken_out.free_at free.2 c.requires.more (c.put_for-test.ensures.item ∙ ap (λ (l : List ℕ). get_or l c.args.place y) c.deref_mut.ensures.value) refl in
    let there = follower_left job path (c.args.place + 1) y next.0 in
    let passed = c.pass_left-left.ensures.out path rest.2 c.requires.taken_out.left_at there in
    record { free_at = next.0; left_at = passed.1 }
