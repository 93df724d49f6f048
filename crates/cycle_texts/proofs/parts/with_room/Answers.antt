use Rattle.outside.specs.Puts.{Puts}
use Rattle.cycle_texts.proofs.parts.with_room.Goals as goal

pub returns-then-room-text-clause-none_failed : goal.returns-then-room-text-clause-none_failed
returns-then-room-text-clause-none_failed g c = Puts.begins
