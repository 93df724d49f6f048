use Rattle.std.proofs.Common.{refl, not}
use Rattle.soc_reader.specs.Table.{name, may_repeat}
use Rattle.soc_reader.specs.Marks.{is_marked}
use Rattle.soc_reader.specs.Views.{known_of}
use Rattle.soc_reader.proofs.Adding.{kept-added, none_more}
use Rattle.soc_reader.proofs.collect.add_name.Goals as goal

pub note_name-requires : goal.note_name-requires
unfolding known_of
note_name-requires c = c.requires.free

pub returns-clause-added : goal.returns-clause-added
returns-clause-added c =
    kept-added (name c.args.number c.args.name.now) c.args.kept.now _ refl refl refl (λ s k. none_more (not (may_repeat k)) (is_marked s k c.args.kept.now.given)) c.in_ok-note_name.ensures.noted c.in_ok-put_name.ensures.named refl
