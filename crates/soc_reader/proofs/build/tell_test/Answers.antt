use Rattle.std.proofs.Common.{sym, ap, ◌∙◌, List, nat_eq, position}
use Rattle.soc_model.specs.declared.Test.{Test}
use Rattle.soc_model.specs.Chips.{module_value}
use Rattle.soc_reader.specs.declared.keys.Subject.TheVariants.{OfTest}
use Rattle.soc_reader.specs.Table.{entry}
use Rattle.soc_reader.specs.Views.{value_of}
use Rattle.soc_reader.specs.Meaning.{tells, test_says}
use Rattle.soc_reader.specs.Drafts.{test_numbers}
use Rattle.soc_reader.proofs.ChipsSaid.{test_number}
use Rattle.soc_reader.proofs.Places.{soc-changed, indexed-at, index-within, numbers-found, numbers-kept}
use Rattle.soc_reader.proofs.build.tell_test.Goals as goal

pub give_test_at-requires : goal.give_test_at-requires
give_test_at-requires c =
    indexed-at c.args.draft.now.numbers.items c.args.draft.now.soc.modules.entries c.in-Some.place c.index-numbers.result.now c.in-Some-get_index_mut.found.now c.requires
    (index-within c.args.draft.now.numbers.items c.args.draft.now.soc.modules.entries c.args.number c.in-Some.place c.requires (sym c.module_place.ensures ∙ c.in-Some.is))
    c.index-numbers.ensures (sym c.in-Some-get_index_mut.ensures.value)

pub returns-clause-said : goal.returns-clause-said
returns-clause-said c =
    soc-changed c.args.draft.now.soc c.args.number (tells (entry (OfTest c.args.number c.args.test) c.args.key (value_of c.args.value.now))) c.in-Some.place c.in-Some-get_index_mut.found.now (record c.in-Some-get_index_mut.found.now { tests = c.give_test_at.new.tests }) c.module_place.result c.module_place.ensures c.in-Some.is (sym c.in-Some-get_index_mut.ensures.value)
    (ap (λ (ts : List Test). record (module_value c.in-Some-get_index_mut.found.now) { tests = ts }) c.give_test_at.ensures)

pub returns-clause-indexed : goal.returns-clause-indexed
returns-clause-indexed c =
    let change = test_says c.args.key (value_of c.args.value.now) in
    let place = position (λ (x : Test). nat_eq c.args.test x.number) c.in-Some-get_index_mut.found.now.tests.items in
    c.requires
    ∙ sym (numbers-kept c.args.draft.now.soc.modules.entries c.in-Some.place c.in-Some-get_index_mut.found.now (record c.in-Some-get_index_mut.found.now { tests = c.give_test_at.new.tests }) (sym c.in-Some-get_index_mut.ensures.value)
    (ap test_numbers c.give_test_at.ensures ∙ numbers-found place change c.in-Some-get_index_mut.found.now.tests.items (test_number c.args.key (value_of c.args.value.now))))
