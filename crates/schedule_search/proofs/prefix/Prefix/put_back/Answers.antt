use Rattle.std.proofs.Common.{ℕ, List, refl, arith}
use Rattle.resource_table.specs.Jobs.{job_value}
use Rattle.schedule_search.specs.declared.prefix.Prefix.{Prefix}
use Rattle.schedule_search.proofs.Stepping.{back_free, back_rest, come_back}
use Rattle.schedule_search.proofs.prefix.Prefix.put_back.Goals as goal

pub put_at-requires-clause-place : goal.put_at-requires-clause-place
put_at-requires-clause-place c = (back_free (job_value c.args.job.now) c.args.self.now.tests.items c.args.self.now c.args.place c.args.taken.test c.requires.out c.requires.taken_out.free_at).0

pub put_at-requires-clause-room : goal.put_at-requires-clause-room
put_at-requires-clause-room c =
    let free = back_free (job_value c.args.job.now) c.args.self.now.tests.items c.args.self.now c.args.place c.args.taken.test c.requires.out c.requires.taken_out.free_at in
    omega (arith, free.1, c.requires.out.has_room.free_room)

pub put_at-requires-2-clause-place : goal.put_at-requires-2-clause-place
put_at-requires-2-clause-place c = (back_rest (job_value c.args.job.now) c.args.self.now.tests.items c.args.self.now c.args.taken.left c.args.taken.test c.requires.out c.requires.taken_out.left_at).0

pub put_at-requires-2-clause-room : goal.put_at-requires-2-clause-room
put_at-requires-2-clause-room c =
    let rest = back_rest (job_value c.args.job.now) c.args.self.now.tests.items c.args.self.now c.args.taken.left c.args.taken.test c.requires.out c.requires.taken_out.left_at in
    omega (arith, rest.1, c.requires.out.has_room.rest_room)

pub returns : goal.returns
returns c =
    let job = job_value c.args.job.now in
    let path : List ℕ = c.args.self.now.tests.items in
    let room = c.requires.out.has_room in
    let q : Prefix = record { tests = c.args.self.now.tests; rest = c.put_at-2.new.to; free = c.put_at.new.to; missing = c.args.self.now.missing } in
    come_back job path c.args.self.now q c.args.place c.args.taken.left c.args.taken.test c.requires.out c.requires.taken_out.free_at c.requires.taken_out.left_at refl c.put_at-2.ensures.items c.put_at.ensures.items refl (record {
      tests_room = room.tests_room;
      rest_room = omega (arith, room.rest_room, c.put_at-2.ensures.room);
      free_room = omega (arith, room.free_room, c.put_at.ensures.room);
      missing_room = room.missing_room;
    })
