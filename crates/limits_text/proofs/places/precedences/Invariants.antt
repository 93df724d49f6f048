use Rattle.std.proofs.Common.{◌≡◌, map, take, drop, flat_map}
use Rattle.limits_text.specs.Meaning.{first_line}
use Rattle.limits_text.specs.Places.{pair_of}
use Rattle.limits_text.specs.Views.{item_of}
use Rattle.limits_text.proofs.places.precedences.Given as goal

abbrev pub invariant-loop-item : goal.invariant-loop-item
invariant-loop-item l =
    (first_line l.tests (map item_of l.list) ≡ first_line l.tests (map item_of (drop l.item-index l.list)))
    × (l.pairs.items ≡ flat_map (pair_of l.tests) (map item_of (take l.item-index l.list)))
