use Rattle.std.proofs.Common.{◌∙◌, length-set}
use Rattle.std.proofs.lemmas.List.Elements.{All-set}
use Rattle.arch_schedule.specs.Rooms.{IsSlot}
use Rattle.arch_schedule.proofs.scheduling.assign_bus.Goals as goal

pub returns-clause-room : goal.returns-clause-room
returns-clause-room c = λ tests has. record {
  slots = length-set c.args.room.now.slots.items c.args.test c.args.slot ∙ has.slots;
  cycles = length-set c.args.room.now.cycles.items c.args.test c.args.cycles ∙ has.cycles;
  chains = has.chains;
  starts = has.starts;
  keys = has.keys;
  second = has.second;
  in_slots = All-set IsSlot c.args.room.now.slots.items c.args.test c.args.slot c.requires.slot has.in_slots;
  small_starts = has.small_starts;
  in_second = has.in_second;
}
