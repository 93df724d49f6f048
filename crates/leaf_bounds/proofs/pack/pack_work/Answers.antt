use Rattle.std.proofs.Common.{refl, sym, ap, ◌∙◌, if◌then◌else◌}
use Rattle.plan_model.specs.Proofs.{pricing_value}
use Rattle.leaf_bounds.specs.PackLeaves.{work_in}
use Rattle.leaf_bounds.proofs.PackAnswers.{some_is}
use Rattle.leaf_bounds.proofs.pack.pack_work.Goals as goal

pub returns : goal.returns
returns c = record {
  work = λ k claim of cells. c.work_in.ensures.work k claim of cells
      ∙ sym (ap (λ b. if b then 0 else work_in c.args.case.now.widths.wires claim k (pricing_value c.args.pricing.now)) (some_is c.args.case.now.widths.wires k (c.if-is_empty.ensures.no refl k (sym of.intervals))));
}
