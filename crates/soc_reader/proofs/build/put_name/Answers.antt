use Rattle.std.proofs.Common.{sym, ap, ◌∙◌, refl, List, ℕ}
use Rattle.soc_model.specs.Chips.{module_value}
use Rattle.soc_reader.specs.Table.{name}
use Rattle.soc_reader.specs.Meaning.{tells}
use Rattle.soc_reader.proofs.Places.{soc-changed, numbers-kept}
use Rattle.soc_reader.proofs.build.put_name.Goals as goal

pub returns-clause-named : goal.returns-clause-named
returns-clause-named c =
    soc-changed c.args.draft.now.soc c.args.number (tells (name c.args.number c.args.name.now)) c.in-Some.place c.in-Some-get_index_mut.found.now (record c.in-Some-get_index_mut.found.now { name = c.in_ok-found-in-Some-get_index_mut.field-0 }) c.module_place.result c.module_place.ensures c.in-Some.is (sym c.in-Some-get_index_mut.ensures.value)
    (ap (λ (w : List ℕ). record (module_value c.in-Some-get_index_mut.found.now) { name = w }) c.in_ok-found-in-Some-get_index_mut.ensures)

pub returns-clause-indexed : goal.returns-clause-indexed
returns-clause-indexed c =
    c.requires
    ∙ sym (numbers-kept c.args.draft.now.soc.modules.entries c.in-Some.place c.in-Some-get_index_mut.found.now (record c.in-Some-get_index_mut.found.now { name = c.in_ok-found-in-Some-get_index_mut.field-0 }) (sym c.in-Some-get_index_mut.ensures.value) refl)
