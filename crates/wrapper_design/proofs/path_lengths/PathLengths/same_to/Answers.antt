use Rattle.std.proofs.Common.{◌≤◌, ◌∙◌, length, sym, ap, arith}
use Rattle.wrapper_design.specs.Balance.{in_length_of, out_length_of}
use Rattle.wrapper_design.specs.Design.{Mode, design}
use Rattle.wrapper_design.proofs.Steady.{in_alone, out_alone}
use Rattle.wrapper_design.proofs.path_lengths.PathLengths.same_to.Goals as goal

pub level_to-ins-requires-clause-reached : goal.level_to-ins-requires-clause-reached
level_to-ins-requires-clause-reached c =
    let m : Mode = record { lengths = c.self.inside.lengths.now; ins = c.self.inside.ins; outs = c.self.inside.outs } in
    let few : length c.self.inside.order.items ≤ c.args.width = omega (arith, c.if-len-width.false, c.len.ensures, c.self.inside.order.ok.0) in
    c.requires.si ∙ ap (λ (v : Mode). in_length_of v (design v c.args.width)) (sym c.self.view_is)
    ∙ sym (in_alone m c.self.inside.order.items c.args.width c.self.inside.longest_chain c.self.inside.flops c.requires.some_wire c.self.invariant.in_order few c.self.invariant.longest_is c.self.invariant.flops_are)

pub level_to-outs-requires-clause-reached : goal.level_to-outs-requires-clause-reached
level_to-outs-requires-clause-reached c =
    let m : Mode = record { lengths = c.self.inside.lengths.now; ins = c.self.inside.ins; outs = c.self.inside.outs } in
    let few : length c.self.inside.order.items ≤ c.args.width = omega (arith, c.if-len-width.false, c.len.ensures, c.self.inside.order.ok.0) in
    c.requires.so ∙ ap (λ (v : Mode). out_length_of v (design v c.args.width)) (sym c.self.view_is)
    ∙ sym (out_alone m c.self.inside.order.items c.args.width c.self.inside.longest_chain c.self.inside.flops c.requires.some_wire c.self.invariant.in_order few c.self.invariant.longest_is c.self.invariant.flops_are)

pub returns-clause-si : goal.returns-clause-si
returns-clause-si c = λ v le within.
    let m : Mode = record { lengths = c.self.inside.lengths.now; ins = c.self.inside.ins; outs = c.self.inside.outs } in
    let few : length c.self.inside.order.items ≤ v = omega (arith, c.if-len-width.false, c.len.ensures, c.self.inside.order.ok.0, le) in
    ap (λ (w : Mode). in_length_of w (design w v)) (sym c.self.view_is)
    ∙ sym (in_alone m c.self.inside.order.items v c.self.inside.longest_chain c.self.inside.flops (omega (arith, c.requires.some_wire, le)) c.self.invariant.in_order few c.self.invariant.longest_is c.self.invariant.flops_are)
    ∙ c.level_to-ins.ensures.same v le (omega (arith, within, c.min.ensures))

pub returns-clause-so : goal.returns-clause-so
returns-clause-so c = λ v le within.
    let m : Mode = record { lengths = c.self.inside.lengths.now; ins = c.self.inside.ins; outs = c.self.inside.outs } in
    let few : length c.self.inside.order.items ≤ v = omega (arith, c.if-len-width.false, c.len.ensures, c.self.inside.order.ok.0, le) in
    ap (λ (w : Mode). out_length_of w (design w v)) (sym c.self.view_is)
    ∙ sym (out_alone m c.self.inside.order.items v c.self.inside.longest_chain c.self.inside.flops (omega (arith, c.requires.some_wire, le)) c.self.invariant.in_order few c.self.invariant.longest_is c.self.invariant.flops_are)
    ∙ c.level_to-outs.ensures.same v le (omega (arith, within, c.min.ensures))
