use Rattle.std.proofs.Common.{◌≡◌, ◌<◌, ◌≤◌, ◌++◌, ◌∙◌, Bool, List, sym, ap, length, drop, take, set, arith, subst}
use Rattle.bit_machine.proofs.Rings.{put_at, head_fits, ring_long}
use Rattle.bit_machine.proofs.ring.Ring.put.Goals as goal

pub returns : goal.returns
returns c =
    let fits : c.self.inside.head ≤ length c.self.inside.bits = head_fits c.self.inside.bits c.self.inside.head c.self.invariant in
    let some : length c.self.inside.bits ≡ c.len.result = omega (arith, c.len.ensures) in
    let long : length c.args.self.now ≡ length c.self.inside.bits = ap length (sym c.self.view_is) ∙ ring_long c.self.inside.bits c.self.inside.head fits in
    let cell : c.args.cell < length c.self.inside.bits = omega (arith, long, c.requires) in
    let within : c.place_of-place.result < length c.self.inside.bits = omega (arith, c.place_of-place.ensures.within, some) in
    let place = rw (sym some) at c.place_of-place.ensures.place in
    subst (λ (bits : List Bool). drop c.self.inside.head bits ++ take c.self.inside.head bits ≡ set c.args.self.now c.args.cell c.args.bit) (sym c.put.ensures)
    (put_at c.self.inside.bits c.self.inside.head c.args.cell c.place_of-place.result c.args.bit cell fits within place ∙ ap (λ bits. set bits c.args.cell c.args.bit) c.self.view_is)
