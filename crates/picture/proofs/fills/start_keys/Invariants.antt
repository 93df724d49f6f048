use Rattle.std.proofs.Common.{take}
use Rattle.picture.specs.Fills.{AreStartKeys}
use Rattle.picture.proofs.fills.start_keys.Given as goal

abbrev pub invariant-loop-one : goal.invariant-loop-one
invariant-loop-one l = AreStartKeys (take l.one-index l.drawn) l.keys.items
