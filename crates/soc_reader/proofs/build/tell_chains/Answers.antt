use Rattle.std.proofs.Common.{sym, ap, ◌∙◌}
use Rattle.soc_model.specs.Chips.{soc_value}
use Rattle.soc_reader.specs.declared.keys.Subject.{Subject}
use Rattle.soc_reader.specs.Table.{entry, lengths}
use Rattle.soc_reader.specs.Meaning.{says}
use Rattle.soc_reader.proofs.Silent.{list-of_chip, list-of_test}
use Rattle.soc_reader.proofs.build.tell_chains.Goals as goal

pub returns-in-OfModule-clause-said : goal.returns-in-OfModule-clause-said
returns-in-OfModule-clause-said c =
    c.put_chains.ensures.said ∙ ap (λ (s : Subject). says (entry s c.args.key (lengths c.args.list.items)) (soc_value c.args.draft.now.soc)) (sym c.in-OfModule.is)

pub returns-in-Chip-clause-said : goal.returns-in-Chip-clause-said
returns-in-Chip-clause-said c =
    sym (list-of_chip c.args.key c.args.list.items (soc_value c.args.draft.now.soc)) ∙ ap (λ (s : Subject). says (entry s c.args.key (lengths c.args.list.items)) (soc_value c.args.draft.now.soc)) (sym c.in-Chip.is)

pub returns-in-OfTest-clause-said : goal.returns-in-OfTest-clause-said
returns-in-OfTest-clause-said c =
    sym (list-of_test c.in-OfTest.field-0 c.in-OfTest.field-1 c.args.key c.args.list.items (soc_value c.args.draft.now.soc)) ∙ ap (λ (s : Subject). says (entry s c.args.key (lengths c.args.list.items)) (soc_value c.args.draft.now.soc)) (sym c.in-OfTest.is)
