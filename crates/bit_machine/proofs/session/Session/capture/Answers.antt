use Rattle.std.proofs.Common.{◌∙◌, ap, sym, subst, length, arith}
use Rattle.std.proofs.lemmas.List.{with_items_is}
use Rattle.plan_model.specs.Runs.{captured}
use Rattle.bit_machine.specs.Sessions.{each_with, response_bit, IsLong}
use Rattle.vector_lines.specs.Layouts.{layout_cells}
use Rattle.bit_machine.proofs.SessionSteps.{captured_long, captured_bits}
use Rattle.bit_machine.proofs.session.Session.capture.Goals as goal

pub invariant_of-self : goal.invariant_of-self
invariant_of-self c =
    let same = c.capture_response.auto.bits ∙ ap length c.deref_mut.ensures.value in
    let steps = c.capture_response.ensures ∙ ap (each_with (captured (response_bit c.self.inside.layout.lengths.items c.args.response.now)) (layout_cells c.self.inside.layout)) c.deref_mut.ensures.value in (
      c.self.invariant.0,
      subst (IsLong c.self.inside.layout) (sym (with_items_is c.self.inside.bits c.capture_response.new.bits (omega (arith, same, c.self.inside.bits.ok.0))))
          (captured_long c.self.inside.layout c.self.inside.bits.items c.self.invariant.1 (response_bit c.self.inside.layout.lengths.items c.args.response.now) steps),
    )

pub returns-clause-bits : goal.returns-clause-bits
returns-clause-bits c = λ k drive.
    let same = c.capture_response.auto.bits ∙ ap length c.deref_mut.ensures.value in
    let steps = c.capture_response.ensures ∙ ap (each_with (captured (response_bit c.self.inside.layout.lengths.items c.args.response.now)) (layout_cells c.self.inside.layout)) c.deref_mut.ensures.value in
    with_items_is c.self.inside.bits c.capture_response.new.bits (omega (arith, same, c.self.inside.bits.ok.0))
    ∙ captured_bits c.self.inside.layout c.self.inside.bits.items c.self.invariant.1 c.args.response.now k drive c.self.view_is steps
