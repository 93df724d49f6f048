use Rattle.std.proofs.Common.{sym, ap, ◌∙◌, Vec, Global}
use Rattle.soc_model.specs.declared.Test.{Test}
use Rattle.soc_reader.specs.declared.keys.Subject.TheVariants.{OfModule}
use Rattle.soc_reader.specs.Table.{entry, lengths}
use Rattle.soc_reader.specs.Meaning.{tells}
use Rattle.soc_reader.specs.Drafts.{test_numbers}
use Rattle.soc_reader.proofs.Places.{soc-changed, numbers-kept}
use Rattle.soc_reader.proofs.build.put_chains.Goals as goal

pub returns-clause-said : goal.returns-clause-said
returns-clause-said c =
    soc-changed c.args.draft.now.soc c.args.number (tells (entry (OfModule c.args.number) c.args.key (lengths c.args.list.items))) c.in-Some.place c.in-Some-get_index_mut.found.now c.give_chains.new.found c.module_place.result c.module_place.ensures c.in-Some.is (sym c.in-Some-get_index_mut.ensures.value)
    c.give_chains.ensures.given

pub returns-clause-indexed : goal.returns-clause-indexed
returns-clause-indexed c =
    c.requires
    ∙ sym (numbers-kept c.args.draft.now.soc.modules.entries c.in-Some.place c.in-Some-get_index_mut.found.now c.give_chains.new.found (sym c.in-Some-get_index_mut.ensures.value) (ap (λ (ts : Vec Test Global). test_numbers ts.items) c.give_chains.ensures.tests))
