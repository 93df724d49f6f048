use Rattle.std.proofs.Common.{◌∙◌, ap, subst, sym, length}
use Rattle.soc_model.specs.Chips.{module_value}
use Rattle.plan_model.specs.Cells.{IsProper}
use Rattle.wrapper_design.specs.Design.{mode_of}
use Rattle.wrapper_design.specs.Balance.{IsBalanced}
use Rattle.wrapper_design.proofs.Laws.{design_width, design_proper, design_balanced}
use Rattle.wrapper_design.proofs.design.Goals as goal

pub returns-clause-width : goal.returns-clause-width
returns-clause-width c = ap length c.in_ok-chains.ensures ∙ design_width (mode_of (module_value c.args.«module».now) c.args.scan) c.args.width

pub returns-clause-proper : goal.returns-clause-proper
returns-clause-proper c = subst (IsProper (module_value c.args.«module».now) c.args.scan) (sym c.in_ok-chains.ensures) (design_proper (module_value c.args.«module».now) c.args.scan c.args.width c.requires.some_wire)

pub returns-clause-balanced : goal.returns-clause-balanced
returns-clause-balanced c = subst (IsBalanced (mode_of (module_value c.args.«module».now) c.args.scan)) (sym c.in_ok-chains.ensures) (design_balanced (mode_of (module_value c.args.«module».now) c.args.scan) c.args.width c.requires.some_wire)
