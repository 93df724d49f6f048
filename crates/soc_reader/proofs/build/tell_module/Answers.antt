use Rattle.std.proofs.Common.{sym, ◌∙◌}
use Rattle.soc_reader.specs.declared.keys.Subject.TheVariants.{OfModule}
use Rattle.soc_reader.specs.Table.{entry}
use Rattle.soc_reader.specs.Views.{value_of}
use Rattle.soc_reader.specs.Meaning.{tells}
use Rattle.soc_reader.proofs.Places.{soc-changed, indexed-at, indexed-set, index-within}
use Rattle.soc_reader.proofs.build.tell_module.Goals as goal
use Rattle.common_lemmas.proofs.Options.{on_ok}

pub give_module-requires : goal.give_module-requires
give_module-requires c =
    indexed-at c.args.draft.now.numbers.items c.args.draft.now.soc.modules.entries c.in-Some.place c.index_mut-numbers.result.now c.in-Some-get_index_mut.found.now c.requires
    (index-within c.args.draft.now.numbers.items c.args.draft.now.soc.modules.entries c.args.number c.in-Some.place c.requires (sym c.module_place.ensures ∙ c.in-Some.is))
    c.index_mut-numbers.ensures.value (sym c.in-Some-get_index_mut.ensures.value)

pub returns-clause-said : goal.returns-clause-said
returns-clause-said c =
    on_ok c.give_module.result
    (λ changes. soc-changed c.args.draft.now.soc c.args.number (tells (entry (OfModule c.args.number) c.args.key (value_of c.args.value.now))) c.in-Some.place c.in-Some-get_index_mut.found.now c.give_module.new.found c.module_place.result c.module_place.ensures c.in-Some.is (sym c.in-Some-get_index_mut.ensures.value) changes)
    c.give_module.ensures.given

pub returns-clause-indexed : goal.returns-clause-indexed
returns-clause-indexed c =
    on_ok c.give_module.result
    (λ numbered. indexed-set c.args.draft.now.numbers.items c.args.draft.now.soc.modules.entries c.in-Some.place c.give_module.new.numbers c.give_module.new.found c.requires numbered)
    c.give_module.ensures.numbered
