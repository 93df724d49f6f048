-- What the reader's values stand for.
use Rattle.std.specs.Prelude.{◌≡◌, List, map, reverse, Option, None, Some, Result, Ok, Err}
use Rattle.std.specs.List.{list_any}
use Rattle.soc_model.specs.declared.TestId.{TestId}
use Rattle.soc_model.specs.Chips.{same_test}
use Rattle.limits_text.specs.declared.items.Item.{Item as ReadItem}
use Rattle.limits_text.specs.declared.items.Item.TheVariants as read
use Rattle.limits_text.specs.declared.items.Items.{Items}
use Rattle.limits_text.specs.declared.items.Part.{Part as ReadPart}
use Rattle.limits_text.specs.declared.items.Part.TheVariants as part
use Rattle.outside.specs.declared.reading.Stop.{Stop}
use Rattle.outside.specs.declared.reading.Stop.TheVariants as stop
use Rattle.limits_text.specs.Items.{Item, amount_item, before_item, profile_item, has_profile}
use Rattle.limits_text.specs.Steps.{Part, title, version, between, wants, module_for, test_for, steps_for, power_for, State}

abbrev pub item_of : ReadItem → Item
item_of (read.Number a n) = amount_item a n
item_of (read.Precedence line a b) = before_item line a b
item_of (read.Steps line id steps) = profile_item line id steps.items

-- the latest first
abbrev pub done_of : Items → List Item
done_of items = reverse (map item_of items.list.items)

-- the set of the tests with a profile is so
abbrev pub InStep : Items → Type 0
InStep items = (id : TestId) → list_any (same_test id) items.profiled.keys ≡ has_profile id (done_of items)

abbrev pub part_of : ReadPart → Part
part_of part.Title = title
part_of part.Version = version
part_of part.Between = between
part_of (part.Wants a) = wants a
part_of (part.ModuleFor n) = module_for n
part_of (part.TestFor n m) = test_for n m
part_of (part.StepsFor line id steps) = steps_for line id steps.items
part_of (part.PowerFor line id steps from) = power_for line id steps.items from

-- The next state is this part and these items; or there is none.
abbrev pub Steps : Option State → Result (Unit {0}) Stop → ReadPart → Items → Type 0
Steps next (Ok done) p items = (next ≡ Some (record { form = items.second; done = done_of items; part = part_of p })) × InStep items
Steps next (Err stop.Refused) p items = next ≡ None
Steps next (Err stop.NoMemory) p items = Unit {0}

-- The items where the text ends here are these; or it ends too early.
abbrev pub Closes : Option (List Item) → Result Items Stop → Type 0
Closes whole (Ok items) = whole ≡ Some (done_of items)
Closes whole (Err stop.Refused) = whole ≡ None
Closes whole (Err stop.NoMemory) = Unit {0}
