-- Buses that are changed again.
use Rattle.std.proofs.Common.{◌∙◌, sym}
use Rattle.arch_schedule.specs.declared.buses.Buses.{Buses}
use Rattle.arch_schedule.specs.declared.times.Times.{Times}
use Rattle.arch_schedule.specs.Buses.{AreAlike, AreTimesOn}

-- changes one after the other
pub alike_then : (a b c : Buses) → AreAlike a b → AreAlike b c → AreAlike a c
alike_then a b c one other = record { widths = other.widths ∙ one.widths; slots = other.slots ∙ one.slots }

-- the cycles of their modules stay
pub times_alike : (a b : Buses) (t : Times) → AreAlike a b → AreTimesOn a t → AreTimesOn b t
times_alike a b t alike on = record { times = on.times; wires = on.wires ∙ sym alike.widths; modules = on.modules ∙ sym alike.slots }
