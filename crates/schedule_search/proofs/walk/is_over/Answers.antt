use Rattle.std.proofs.Common.{◌∙◌, sym, subst}
use Rattle.resource_table.specs.Schedules.{TableValue}
use Rattle.schedule_search.specs.Late.{AreUnplaced}
use Rattle.schedule_search.proofs.walk.is_over.Goals as goal

pub note_few-requires : goal.note_few-requires
note_few-requires g c = record {
  rest = subst (λ (t : TableValue). AreUnplaced t.job t.placed c.args.rest.now) (sym (c.tidy_points.ensures.same ∙ c.is_late.ensures.same)) c.requires.rest;
}
