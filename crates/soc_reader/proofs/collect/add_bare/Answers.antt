use Rattle.std.proofs.Common.{refl, sym}
use Rattle.std.proofs.lemmas.Result.{on_ok_weaker}
use Rattle.soc_reader.specs.Table.{entry, nothing}
use Rattle.soc_model.specs.Chips.{soc_value}
use Rattle.soc_reader.proofs.Silent.{says-nothing}
use Rattle.soc_reader.proofs.Adding.{went-added, went-indexed}
use Rattle.soc_reader.proofs.collect.add_bare.Goals as goal

pub returns-clause-added : goal.returns-clause-added
returns-clause-added c =
    on_ok_weaker c.go_on.result
    (λ went. went-added (entry c.args.subject c.args.key nothing) c.args.kept.now _ c.go_on.new.kept went refl refl refl refl refl (λ m w. refl) (sym (says-nothing c.args.subject c.args.key (soc_value c.args.kept.now.draft.soc))))
    c.go_on.ensures.went_on

pub returns-clause-indexed : goal.returns-clause-indexed
returns-clause-indexed c =
    on_ok_weaker c.go_on.result (λ went. went-indexed (entry c.args.subject c.args.key nothing) _ c.go_on.new.kept went c.requires) c.go_on.ensures.went_on
