use Rattle.std.proofs.Common.{◌≡◌, map, drop}
use Rattle.std.specs.List.{list_any}
use Rattle.limits_text.specs.Items.{gives_amount}
use Rattle.limits_text.specs.Views.{item_of}
use Rattle.limits_text.proofs.collect.some_gives.Given as goal

abbrev pub invariant-loop-item : goal.invariant-loop-item
invariant-loop-item l = list_any (gives_amount l.amount) (map item_of l.list) ≡ list_any (gives_amount l.amount) (map item_of (drop l.item-index l.list))
