use Rattle.std.proofs.Common.{◌∙◌, ap, sym, subst, arith}
use Rattle.wrapper_design.specs.Loads.{IsOrder}
use Rattle.wrapper_design.specs.Design.{Mode, longest_part}
use Rattle.wrapper_design.proofs.Alone.{longest_alone}
use Rattle.wrapper_design.proofs.Limits.{order_sum}
use Rattle.wrapper_design.proofs.path_lengths.PathLengths.longest.Goals as goal

pub longest_part-requires-clause-fits : goal.longest_part-requires-clause-fits
longest_part-requires-clause-fits c =
    let is = subst (λ v. IsOrder c.self.inside.lengths.now v) (sym c.deref.ensures.value) c.self.invariant.in_order in
    omega (arith, order_sum c.self.inside.lengths.now c.deref.result.now is)

pub returns-then-len-width-clause-longest : goal.returns-then-len-width-clause-longest
returns-then-len-width-clause-longest c =
    let few = c.if-len-width.true in
    longest_alone c.self.inside.lengths.now c.self.inside.order.items c.args.width c.self.inside.longest_chain c.self.invariant.in_order (omega (arith, few, c.len.ensures, c.self.inside.order.ok.0)) c.self.invariant.longest_is
    ∙ ap (λ (v : Mode). longest_part v.lengths c.args.width) c.self.view_is
