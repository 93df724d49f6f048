use Rattle.std.proofs.Common.{◌≡◌, map, drop}
use Rattle.std.specs.List.{list_any}
use Rattle.limits_text.specs.Places.{names_test}
use Rattle.limits_text.specs.Views.{item_of}
use Rattle.limits_text.proofs.places.some_names_test.Given as goal

abbrev pub invariant-loop-item : goal.invariant-loop-item
invariant-loop-item l = list_any names_test (map item_of l.list) ≡ list_any names_test (map item_of (drop l.item-index l.list))
