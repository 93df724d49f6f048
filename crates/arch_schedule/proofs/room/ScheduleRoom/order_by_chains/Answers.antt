use Rattle.std.proofs.Common.{◌∙◌, ap, length}
use Rattle.arch_schedule.proofs.Refilled.{places_sorted, with_keys}
use Rattle.arch_schedule.proofs.room.ScheduleRoom.order_by_chains.Goals as goal

pub returns-clause-room : goal.returns-clause-room
returns-clause-room c = λ tests has. with_keys tests c.args.self.now c.key_by_chains.new.keys c.sort_keyed.new.all c.write_places.new.order (c.write_places.ensures.long ∙ ap length c.deref_mut-3.ensures.value)
    (c.write_places.ensures.places tests (places_sorted tests c.args.self.now.keys c.deref.result.now c.key_by_chains.new.keys c.deref_mut-2.result.now c.sort_keyed.new.all c.deref-2.result.now
    (ap length c.deref.ensures.value ∙ has.chains) (c.key_by_chains.ensures.long ∙ ap length c.deref_mut.ensures.value) c.key_by_chains.ensures.places c.deref_mut-2.ensures.value c.sort_keyed.ensures c.deref-2.ensures.value))
    has
