use Rattle.std.proofs.Common.{sym, subst}
use Rattle.bit_machine.specs.Sessions.{IsLong}
use Rattle.bit_machine.proofs.Layouts.{zeros-long}
use Rattle.bit_machine.proofs.session.Session.new.Goals as goal

pub invariant_of-result : goal.invariant_of-result
invariant_of-result c = (c.in_ok-layout.ensures.layout, subst (IsLong c.in_ok-layout.layout) (sym c.in_ok-bits.ensures) (zeros-long c.in_ok-layout.layout))
