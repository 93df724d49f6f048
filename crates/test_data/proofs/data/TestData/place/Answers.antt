use Rattle.std.proofs.Common.{◌∙◌, ap, position}
use Rattle.soc_model.specs.Chips.{same_test}
use Rattle.test_data.specs.declared.places.TestEntry.{TestEntry}
use Rattle.test_data.specs.DataWords.{EntryValue}
use Rattle.test_data.proofs.Firsts.{same_place}
use Rattle.test_data.proofs.data.TestData.place.Goals as goal

pub returns : goal.returns
returns c =
    c.entry_place.ensures
    ∙ ap (position (λ (e : TestEntry). same_test c.args.id e.test)) c.deref.ensures.value
    ∙ same_place c.self.inside.bytes.items c.self.inside.entries.items c.args.id
    ∙ ap (position (λ (e : EntryValue). same_test c.args.id e.test)) c.self.view_is
