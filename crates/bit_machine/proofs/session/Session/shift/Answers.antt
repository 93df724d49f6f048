use Rattle.std.proofs.Common.{◌∙◌, ap, sym, subst, length, arith}
use Rattle.std.proofs.lemmas.List.{with_items_is}
use Rattle.bit_machine.specs.Sessions.{each_with, entered, IsLong}
use Rattle.bit_machine.proofs.SessionSteps.{shifted_long, shifted_bits}
use Rattle.bit_machine.proofs.session.Session.shift.Goals as goal

pub invariant_of-self : goal.invariant_of-self
invariant_of-self c =
    let same = c.shift_all.auto.chains ∙ ap length c.deref_mut.ensures.value in
    let steps = c.shift_all.ensures.bits ∙ ap (each_with entered c.args.drive.now) c.deref_mut.ensures.value in (
      c.self.invariant.0,
      subst (IsLong c.self.inside.layout) (sym (with_items_is c.self.inside.bits c.shift_all.new.chains (omega (arith, same, c.self.inside.bits.ok.0))))
          (shifted_long c.self.inside.layout c.self.inside.bits.items c.self.invariant.1 c.args.drive.now steps),
    )

pub returns-clause-bits : goal.returns-clause-bits
returns-clause-bits c = λ response.
    let same = c.shift_all.auto.chains ∙ ap length c.deref_mut.ensures.value in
    let steps = c.shift_all.ensures.bits ∙ ap (each_with entered c.args.drive.now) c.deref_mut.ensures.value in
    with_items_is c.self.inside.bits c.shift_all.new.chains (omega (arith, same, c.self.inside.bits.ok.0))
    ∙ shifted_bits c.self.inside.layout c.self.inside.bits.items c.self.invariant.1 c.args.drive.now response c.self.view_is c.requires.driven steps
