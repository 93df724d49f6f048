use Rattle.std.proofs.Common.{◌≡◌, ◌<◌, ◌++◌, ◌∙◌, Bool, List, sym, ap, length, drop, take, arith, subst}
use Rattle.bit_machine.specs.Sessions.{entered}
use Rattle.bit_machine.proofs.Rings.{enter_at}
use Rattle.bit_machine.proofs.ring.Ring.enter.Goals as goal

pub returns : goal.returns
returns c =
    let some : length c.self.inside.bits ≡ c.len-cells.result = omega (arith, c.len-cells.ensures) in
    let head : c.self.inside.head < length c.self.inside.bits = omega (arith, c.self.invariant, c.if-cells-eq0.false, some) in
    let within : c.before_head-first.result < length c.self.inside.bits = omega (arith, c.before_head-first.ensures.within, some) in
    let before = rw (sym some) at c.before_head-first.ensures.before in
    subst (λ (bits : List Bool). drop c.before_head-first.result bits ++ take c.before_head-first.result bits ≡ entered c.args.bit c.args.self.now) (sym c.put.ensures)
    (enter_at c.self.inside.bits c.before_head-first.result c.args.bit c.self.inside.head within head before ∙ ap (entered c.args.bit) c.self.view_is)
