use Rattle.std.proofs.Common.{◌≡◌, map, take}
use Rattle.bus_model.proofs.Keys.{place_of}
use Rattle.bus_model.proofs.start.start_order.Given as goal

abbrev pub invariant-loop-key : goal.invariant-loop-key
invariant-loop-key l = l.order.items ≡ map place_of (take l.key-index l.key-items)
