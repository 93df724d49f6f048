use Rattle.std.proofs.Common.{◌≡◌, ◌∙◌, ◌<◌, ℕ, Some, sym, get_or, length, subst, slice_get}
use Rattle.std.proofs.lemmas.Option.{slice_get-get_or}
use Rattle.resource_table.specs.Schedules.{TableValue}
use Rattle.schedule_search.proofs.walk.note_few.Goals as goal

pub note-requires : goal.note-requires
note-requires g c =
    let test : ℕ = get_or c.args.rest.now c.loop-place.place 0 in
    let at : slice_get c.args.rest.now c.loop-place.place ≡ Some test = slice_get-get_or c.args.rest.now c.loop-place.place 0 c.loop-place-test.true in
    record {
      in_job = subst (λ (t : TableValue). test < length t.job.tests) (sym c.loop-place.invariant.same) (c.requires.rest.free c.loop-place.place test at).0;
    }

pub loop-place-preserved : goal.loop-place-preserved
loop-place-preserved g c = record {
  same = c.note.ensures.same ∙ c.loop-place.invariant.same;
}
