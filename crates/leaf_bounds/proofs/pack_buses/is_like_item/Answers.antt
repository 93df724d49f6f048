use Rattle.std.proofs.Common.{◌≡◌, sym, ◌∙◌}
use Rattle.proof_facts.specs.Packed.{packed_tam_time}
use Rattle.leaf_bounds.specs.Bases.{chip_of}
use Rattle.leaf_bounds.proofs.LikeBuses.{time_like}
use Rattle.leaf_bounds.proofs.pack_buses.is_like_item.Goals as goal

pub returns-then-time-was : goal.returns-then-time-was
returns-then-time-was c = λ e k pricing of same_grain ready.
    let time : c.tam_time-time.result ≡ packed_tam_time (chip_of c.args.basis.now) c.args.item.place c.args.bus.width = rw c.requires.leaf.basis.times at c.tam_time-time.ensures.time in
    let was : c.tam_time-was.result ≡ packed_tam_time (chip_of c.args.basis.now) c.args.item.place c.args.before = rw c.requires.leaf.basis.times at c.tam_time-was.ensures.time in
    time_like c.packed_times_are_least.ensures.falls c.args.basis.now k pricing c.args.item.place c.args.item.price c.args.bus.rank c.args.before c.args.bus.width c.requires.some_wire c.requires.before
    (sym was ∙ sym c.if-time-was.true ∙ time)
