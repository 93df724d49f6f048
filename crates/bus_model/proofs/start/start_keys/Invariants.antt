use Rattle.bus_model.proofs.Keys.{AreKeysBelow}
use Rattle.bus_model.proofs.start.start_keys.Given as goal

abbrev pub invariant-loop-place : goal.invariant-loop-place
invariant-loop-place l = AreKeysBelow l.table l.place l.keys.items
