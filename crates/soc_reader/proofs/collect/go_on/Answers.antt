use Rattle.std.proofs.Common.{refl}
use Rattle.soc_reader.specs.Views.{value_of}
use Rattle.soc_reader.proofs.collect.go_on.Goals as goal

pub returns-clause-went_on : goal.returns-clause-went_on
returns-clause-went_on c = record {
  draft = refl;
  given = λ s k. c.in_ok-mark_entry.ensures.ok s k (value_of c.args.value.now);
  names = refl;
  opened = c.opened_by-opened.ensures;
  place = c.after_key-kept.ensures;
  xy = c.xy_after-xy.ensures c.args.subject;
  totals = c.in_ok-note_total.ensures.noted;
}
