use Rattle.std.proofs.Common.{Some, ◌∙◌, ap, sym}
use Rattle.plan_model.specs.Bounds.{quotient_up}
use Rattle.width_tree.proofs.WidthFacts.{total_is}
use Rattle.width_tree.proofs.leaves.find_area.Goals as goal

pub returns : goal.returns
returns c = (tt, ap Some (sym (c.divided_up.ensures ∙ ap (λ n. quotient_up n c.args.table.now.wires) (total_is c.args.table.now c.args.widths.now c.requires.table c.requires.widths))))
