use Rattle.std.proofs.Common.{refl}
use Rattle.width_table.proofs.choosing.takes_fewer.Goals as goal

pub returns-in-Some : goal.returns-in-Some
returns-in-Some c = rw (← c.in-Some.ensures.value) refl
