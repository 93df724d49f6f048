use Rattle.std.proofs.Common.{◌≡◌, ◌∙◌, ◌<◌, ℕ, Some, List, length, sym, ap, refl, arith, slice_get}
use Rattle.std.proofs.lemmas.Option.{slice_get_within}
use Rattle.resource_table.specs.Jobs.{job_value}
use Rattle.schedule_search.specs.declared.prefix.Prefix.{Prefix}
use Rattle.schedule_search.specs.Prefixes.{outside}
use Rattle.schedule_search.proofs.Stepping.{free_at, goes_out}
use Rattle.schedule_search.proofs.Waiting.{follower_left}
use Rattle.schedule_search.proofs.prefix.Prefix.take_out.Goals as goal

pub place_left-left-requires-clause-there : goal.place_left-left-requires-clause-there
place_left-left-requires-clause-there c =
    let job = job_value c.args.job.now in
    let path : List ℕ = c.args.self.now.tests.items in
    let x : ℕ = c.take_at-test.result in
    let there = follower_left job path c.args.place x (free_at job path c.args.self.now c.args.place x x c.requires.at c.requires.within c.take_at-test.ensures.item) in
    (there.0, ap (λ (l : List ℕ). slice_get l there.0) (c.deref.ensures.value ∙ c.requires.at.rest_are) ∙ there.1)

pub take_at-requires : goal.take_at-requires
take_at-requires c =
    let within : c.place_left-left.result < length c.deref.result.now = slice_get_within c.deref.result.now c.place_left-left.result c.take_at-test.result c.place_left-left.ensures in
    omega (arith, within, ap length c.deref.ensures.value)

pub returns-clause-out : goal.returns-clause-out
returns-clause-out c =
    let job = job_value c.args.job.now in
    let path : List ℕ = c.args.self.now.tests.items in
    let x : ℕ = c.take_at-test.result in
    let left : ℕ = c.place_left-left.result in
    let here = free_at job path c.args.self.now c.args.place x x c.requires.at c.requires.within c.take_at-test.ensures.item in
    let there : slice_get (outside job path) left ≡ Some x = ap (λ (l : List ℕ). slice_get l left) (sym (c.deref.ensures.value ∙ c.requires.at.rest_are)) ∙ c.place_left-left.ensures in
    let room = c.requires.at.has_room in
    let q : Prefix = record { tests = c.args.self.now.tests; rest = c.take_at.new.from; free = c.take_at-test.new.from; missing = c.args.self.now.missing } in
    goes_out job path c.args.self.now q c.args.place left x c.requires.at here there refl c.take_at.ensures.items c.take_at-test.ensures.items refl (record {
      tests_room = room.tests_room;
      rest_room = omega (arith, room.rest_room, c.take_at.ensures.room);
      free_room = omega (arith, room.free_room, c.take_at-test.ensures.room);
      missing_room = room.missing_room;
    })

pub returns-clause-taken_out : goal.returns-clause-taken_out
returns-clause-taken_out c =
    let job = job_value c.args.job.now in
    let path : List ℕ = c.args.self.now.tests.items in
    let x : ℕ = c.take_at-test.result in
    record {
      free_at = free_at job path c.args.self.now c.args.place x x c.requires.at c.requires.within c.take_at-test.ensures.item;
      left_at = ap (λ (l : List ℕ). slice_get l c.place_left-left.result) (sym (c.deref.ensures.value ∙ c.requires.at.rest_are)) ∙ c.place_left-left.ensures;
    }
