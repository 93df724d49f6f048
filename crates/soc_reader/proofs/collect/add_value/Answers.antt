use Rattle.std.proofs.Common.{refl, sym, ap, ◌∙◌}
use Rattle.std.proofs.lemmas.Result.{on_ok_weaker}
use Rattle.soc_model.specs.Chips.{soc_value}
use Rattle.soc_reader.specs.declared.keys.Subject.{Subject}
use Rattle.soc_reader.specs.declared.keys.Subject.TheVariants.{OfModule, OfTest}
use Rattle.soc_reader.specs.Table.{entry}
use Rattle.soc_reader.specs.Meaning.{says}
use Rattle.soc_reader.specs.Marks.{is_marked}
use Rattle.soc_reader.specs.Views.{value_of, known_of}
use Rattle.soc_reader.proofs.Adding.{kept-added, went-added, added-of, once_more, test-opens, test-after, test-no_xy}
use Rattle.soc_reader.proofs.collect.add_value.Goals as goal

pub returns-then-is_of_test-clause-added : goal.returns-then-is_of_test-clause-added
returns-then-is_of_test-clause-added c =
    let of_test = sym c.is_of_test.ensures ∙ c.if-is_of_test.true in
    let subject = OfTest c.in-OfTest.number c.in-OfTest.test in
    let value = value_of c.args.value in
    added-of c.args.subject (OfTest c.in-OfTest.number c.in-OfTest.test) c.args.key (value_of c.args.value) (known_of c.args.kept.now) _ c.in-OfTest.is
    (kept-added (entry (OfTest c.in-OfTest.number c.in-OfTest.test) c.args.key (value_of c.args.value)) c.args.kept.now _
    (test-opens c.args.key of_test subject value c.args.kept.now.opened)
    (test-after c.args.key of_test)
    (test-no_xy c.args.key of_test subject value c.args.kept.now.xy)
    (λ s k. once_more s subject k c.args.key value (is_marked s k c.args.kept.now.given) (is_marked s k c.mark_given.new.marks) (c.in_ok-mark_given-in-OfTest.ensures.ok s k))
    (λ m w. refl) c.tell_test.ensures.said refl)

pub returns-else-is_of_test-clause-added : goal.returns-else-is_of_test-clause-added
returns-else-is_of_test-clause-added c =
    on_ok_weaker c.go_on.result
    (λ went. added-of c.args.subject (OfTest c.in-OfTest.number c.in-OfTest.test) c.args.key (value_of c.args.value) (known_of c.args.kept.now) (known_of c.go_on.new.kept) c.in-OfTest.is
    (went-added (entry (OfTest c.in-OfTest.number c.in-OfTest.test) c.args.key (value_of c.args.value)) c.args.kept.now _ c.go_on.new.kept went refl refl refl refl refl (λ m w. refl) c.tell_test.ensures.said))
    c.go_on.ensures.went_on

pub returns-in_ok-tell_module-in-OfModule-clause-added : goal.returns-in_ok-tell_module-in-OfModule-clause-added
returns-in_ok-tell_module-in-OfModule-clause-added c =
    on_ok_weaker c.go_on-in-OfModule.result
    (λ went. added-of c.args.subject (OfModule c.in-OfModule.number) c.args.key (value_of c.args.value) (known_of c.args.kept.now) (known_of c.go_on-in-OfModule.new.kept) c.in-OfModule.is
    (went-added (entry (OfModule c.in-OfModule.number) c.args.key (value_of c.args.value)) c.args.kept.now _ c.go_on-in-OfModule.new.kept went refl refl refl refl refl (λ m w. refl) c.in_ok-tell_module-in-OfModule.ensures.said))
    c.go_on-in-OfModule.ensures.went_on

pub returns-in_ok-give_chip-in-Chip-clause-added : goal.returns-in_ok-give_chip-in-Chip-clause-added
returns-in_ok-give_chip-in-Chip-clause-added c =
    on_ok_weaker c.go_on-in-Chip.result
    (λ went. went-added (entry c.args.subject c.args.key (value_of c.args.value)) c.args.kept.now _ c.go_on-in-Chip.new.kept went refl refl refl refl refl (λ m w. refl)
    (c.in_ok-give_chip-in-Chip.ensures.given ∙ ap (λ (s : Subject). says (entry s c.args.key (value_of c.args.value)) (soc_value c.args.kept.now.draft.soc)) (sym c.in-Chip.is)))
    c.go_on-in-Chip.ensures.went_on
